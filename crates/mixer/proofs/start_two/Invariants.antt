-- `mixer::start_two`. The invariant: the first t samples of both sums are done, the rest are as they were. Assumes nothing.
use mathlib.Core.Bool.{not}
use mathlib.Core.Path.{◌≡◌}
use mathlib.Core.List.{◌++◌}
use lib.ListN.{get_or, drop}
use lib.Ieee.{nan}
use Rattle.hadamard.specs.Mix.{each, plus_minus}
use Rattle.mixer.proofs.start_two.Given as goal

abbrev pub invariant-loop-t : goal.invariant-loop-t
invariant-loop-t l =
    (l.low ≡ each l.t (λ t. plus_minus l.m (get_or l.xs t nan) (get_or l.ys t nan)) ++ drop l.t l.initial.low)
    × (l.high ≡ each l.t (λ t. plus_minus (not l.m) (get_or l.xs t nan) (get_or l.ys t nan)) ++ drop l.t l.initial.high)
