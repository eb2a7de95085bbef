-- `mixer::sum_row`. The invariant: the first c rows are summed. Assumes nothing.
use mathlib.Core.Path.{◌≡◌}
use Rattle.hadamard.specs.Mix.{each}
use Rattle.mixer.specs.Passes.{row_sum}
use Rattle.mixer.proofs.sum_row.Given as goal

abbrev pub invariant-loop-c : goal.invariant-loop-c
invariant-loop-c l = l.sum ≡ each l.f (row_sum l.r l.c l.f l.reads)
