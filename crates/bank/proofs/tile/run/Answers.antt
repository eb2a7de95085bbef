-- `bank::tile::run` meets its contract. Assumes nothing.
use Rattle.std.proofs.Common.{◌<◌, ◌≤◌, arith, length}
use Rattle.bank.proofs.TileTurns.{one_played, all-played}
use Rattle.bank.proofs.tile.run.Goals as goal

pub loop-x-preserved : goal.loop-x-preserved
loop-x-preserved c =
    let l = c.loop-x in
    let h : l.x-index < length l.tile = omega arith in
    one_played _ _ l.x-index l.g l.tile l.invariant _ _ h c.step_bands-g.ensures

pub returns : goal.returns
returns c =
    let l = c.loop-x in
    let h : length l.tile ≤ l.x-index = omega arith in
    all-played _ _ l.x-index l.g l.tile l.invariant h
