-- `bank::line::run_behind`. The invariant: the samples put so far, then what the bands make of those left, are the answer, and so of the bands.
-- Assumes nothing.
use Rattle.bank.proofs.BehindTurns.{Behind}
use Rattle.bank.proofs.line.run_behind.Given as goal

abbrev pub invariant-loop-i : goal.invariant-loop-i
invariant-loop-i l = Behind l.i-end l.initial.l l.initial.xs l.i l.l l.xs
