-- `bank::tile::run_rows`. The invariant: of each line, the samples done, then its bands over those left, are the answer, and so of its bands.
-- Assumes nothing.
use Rattle.bank.proofs.RowTurns.{Running}
use Rattle.bank.proofs.tile.run_rows.Given as goal

abbrev pub invariant-loop-t : goal.invariant-loop-t
invariant-loop-t l = Running l.f l.initial.g l.initial.rows l.t l.g l.rows
