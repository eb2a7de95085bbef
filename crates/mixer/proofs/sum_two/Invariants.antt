-- `mixer::sum_two`. The invariant: the first 2 i rows are in both sums. Assumes nothing.
use mathlib.Core.Path.{◌≡◌}
use Prim.Native.Nat.{◌+◌, ◌*◌}
use Rattle.hadamard.specs.Mix.{each}
use Rattle.mixer.specs.Passes.{row_sum}
use Rattle.mixer.proofs.sum_two.Given as goal

abbrev pub invariant-loop-i : goal.invariant-loop-i
invariant-loop-i l =
    (l.low ≡ each l.f (row_sum l.r (2 * l.i) l.f l.reads)) × (l.high ≡ each l.f (row_sum (l.r + 1) (2 * l.i) l.f l.reads))
