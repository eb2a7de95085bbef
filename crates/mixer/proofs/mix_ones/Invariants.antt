-- `mixer::mix_ones`. The invariant: the first r mixed rows are done. Assumes nothing.
use mathlib.Core.Path.{◌≡◌}
use Prim.Native.Nat.{◌*◌}
use lib.ListN.{take}
use Rattle.hadamard.specs.Mix.{joined}
use Rattle.hadamard.specs.Rows.{mixed_row}
use Rattle.mixer.proofs.mix_ones.Given as goal

abbrev pub invariant-loop-r : goal.invariant-loop-r
invariant-loop-r l = take (l.r * l.f) l.mixed ≡ joined l.r (mixed_row l.n l.f l.k l.reads)
