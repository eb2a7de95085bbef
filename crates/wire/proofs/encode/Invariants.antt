-- `wire::encode`. The invariant: the bytes of the first i floats, and then `out` as it was. Assumes nothing.
use mathlib.Core.Path.{◌≡◌}
use mathlib.Core.List.{◌++◌}
use Prim.Native.Nat.{◌*◌}
use lib.ListN.{take, drop}
use Rattle.wire.specs.Wire.{encoded}
use Rattle.wire.proofs.encode.Given as goal

abbrev pub invariant-loop-i : goal.invariant-loop-i
invariant-loop-i l = l.out ≡ encoded (take l.i l.xs) ++ drop (4 * l.i) l.initial.out
