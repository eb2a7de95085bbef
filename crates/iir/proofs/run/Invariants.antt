-- `iir::run`. The invariant: what is done, then what the filter as it is now makes of what is left, is what comes out of the whole row, and so of
-- the filter after it. Assumes nothing.
use Rattle.std.proofs.Common.{◌≡◌, ◌++◌, take, drop}
use Rattle.iir.specs.Runs.{run_out, run_end}
use Rattle.iir.proofs.run.Given as goal

abbrev pub invariant-loop-x : goal.invariant-loop-x
invariant-loop-x l =
    (take l.x-index l.xs ++ run_out l.g (drop l.x-index l.xs) ≡ run_out l.initial.g l.initial.xs)
    × (run_end l.g (drop l.x-index l.xs) ≡ run_end l.initial.g l.initial.xs)
