-- `mixer::mix_twos`. The invariant: the first 2 i mixed rows are done. Assumes nothing.
use mathlib.Core.Path.{◌≡◌}
use Prim.Native.Nat.{◌*◌}
use lib.ListN.{take}
use Rattle.hadamard.specs.Mix.{joined}
use Rattle.hadamard.specs.Rows.{mixed_row}
use Rattle.mixer.proofs.mix_twos.Given as goal

abbrev pub invariant-loop-i : goal.invariant-loop-i
invariant-loop-i l = take (2 * l.i * l.f) l.mixed ≡ joined (2 * l.i) (mixed_row l.n l.f l.k l.reads)
