-- `hadamard::mix_column`. The invariant: the first r numbers are the mix's, the rest are as they were. Assumes nothing.
use mathlib.Core.Path.{◌≡◌}
use mathlib.Core.List.{◌++◌}
use lib.ListN.{length, take, drop}
use Rattle.hadamard.specs.Mix.{mixed}
use Rattle.hadamard.proofs.mix_column.Given as goal

abbrev pub invariant-loop-r : goal.invariant-loop-r
invariant-loop-r l = l.y ≡ take l.r (mixed (length l.x) l.k l.x) ++ drop l.r l.initial.y
