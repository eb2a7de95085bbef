-- `bank::tile::fill` meets its contract. Assumes nothing.
use Rattle.std.proofs.Common.{◌≡◌, arith, length}
use Rattle.bank.proofs.TileTurns.{one_filled, all_filled}
use Rattle.bank.proofs.tile.fill.Goals as goal

pub loop-j-preserved : goal.loop-j-preserved
loop-j-preserved c =
    let l = c.loop-j in
    let p = c.requires in
    let e : length l.tile ≡ length c.args.tile.now = omega arith in
    one_filled _ _ _ _ p.0 p.1 l.j l.tile l.invariant e c.loop-j-test.true _ c.row_column.ensures

pub returns : goal.returns
returns c =
    let l = c.loop-j in
    let p = c.requires in
    let e : length l.tile ≡ length c.args.tile.now = omega arith in
    all_filled _ _ _ _ p.0 p.1 l.j l.tile l.invariant e c.loop-j-test.false
