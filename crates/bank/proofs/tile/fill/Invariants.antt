-- `bank::tile::fill`. The invariant: each line's samples of the columns filled so far are its row's. Assumes nothing.
use Rattle.std.proofs.Common.{length}
use Rattle.bank.proofs.TileTurns.{Filling}
use Rattle.bank.proofs.tile.fill.Given as goal

abbrev pub invariant-loop-j : goal.invariant-loop-j
invariant-loop-j l = Filling l.f l.t (length l.initial.tile) l.rows l.j l.tile
