-- `bank::tile::run`. The invariant: each line's samples of the columns done, then its bands over those left, are the answer, and so of its bands.
-- Assumes nothing.
use Rattle.bank.proofs.TileTurns.{Playing}
use Rattle.bank.proofs.tile.run.Given as goal

abbrev pub invariant-loop-x : goal.invariant-loop-x
invariant-loop-x l = Playing l.initial.g l.initial.tile l.x-index l.g l.tile
