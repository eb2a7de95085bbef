-- `mixer::plus_minus_row`. The invariant: the first t samples are done, the rest are as they were. Assumes nothing.
use mathlib.Core.Path.{◌≡◌}
use mathlib.Core.List.{◌++◌}
use lib.ListN.{get_or, drop}
use lib.Ieee.{nan}
use Rattle.hadamard.specs.Mix.{each, plus_minus}
use Rattle.mixer.proofs.plus_minus_row.Given as goal

abbrev pub invariant-loop-t : goal.invariant-loop-t
invariant-loop-t l =
    l.sum ≡ each l.t (λ t. plus_minus l.m (get_or l.initial.sum t nan) (get_or l.xs t nan)) ++ drop l.t l.initial.sum
