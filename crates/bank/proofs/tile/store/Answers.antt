-- `bank::tile::store` meets its contract. Assumes nothing.
use Rattle.std.proofs.Common.{arith, refl}
use Rattle.samples.proofs.Lists.{over_none}
use Rattle.bank.proofs.TileTurns.{one_stored, all_stored}
use Rattle.bank.proofs.tile.store.Goals as goal

pub loop-j-init : goal.loop-j-init
loop-j-init c = (refl, λ k g. over_none _ _)

pub loop-j-preserved : goal.loop-j-preserved
loop-j-preserved c =
    let l = c.loop-j in
    let p = c.requires in
    rw c.put_column.ensures (one_stored _ _ _ _ p.0 p.1 l.j l.rows l.invariant _ c.loop-j-test.true)

pub returns : goal.returns
returns c =
    let l = c.loop-j in
    let p = c.requires in
    all_stored _ _ _ _ p.0 p.1 l.j l.rows l.invariant c.loop-j-test.false (omega arith)
