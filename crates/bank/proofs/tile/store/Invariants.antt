-- `bank::tile::store`. The invariant: each row is as it was but for the columns put so far. Assumes nothing.
use Rattle.bank.proofs.TileTurns.{Storing}
use Rattle.bank.proofs.tile.store.Given as goal

abbrev pub invariant-loop-j : goal.invariant-loop-j
invariant-loop-j l = Storing l.f l.t l.tile l.initial.rows l.j l.rows
