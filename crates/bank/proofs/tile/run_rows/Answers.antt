-- `bank::tile::run_rows` meets its contract. Assumes nothing.
use Rattle.std.proofs.Common.{arith, ◌+◌, ◌≤◌, ◌≡◌, length}
use Rattle.std.proofs.Math.Seq.{length-take-le}
use Rattle.bank.proofs.RowTurns.{none-run, some_run, all-run}
use Rattle.bank.proofs.tile.run_rows.Goals as goal

pub loop-t-init : goal.loop-t-init
loop-t-init c = none-run _ _ _ c.requires

pub loop-t-preserved : goal.loop-t-preserved
loop-t-preserved c =
    let l = c.loop-t in
    let m = c.min-m.result in
    let room : l.t + m ≤ c.args.f = grind arith in
    let small : m ≤ length l.tile = grind arith in
    let whole : m ≡ 64 = grind arith in
    rw whole at (some_run _ _ _ l.t l.g l.rows l.invariant m _ _ room (rw (length-take-le m l.tile small) at c.some_columns-g.ensures))

pub returns : goal.returns
returns c =
    let l = c.loop-t in
    let ends = all-run _ _ _ l.t l.g l.rows l.invariant c.loop-t-test.false in
    record { value = ends.0; rows_after = ends.1 }

pub returns-2 : goal.returns-2
returns-2 c =
    let l = c.loop-t in
    let m = c.min-m.result in
    let room : l.t + m ≤ c.args.f = grind arith in
    let small : m ≤ length l.tile = grind arith in
    let last : c.args.f ≤ l.t + m = grind arith in
    let run = some_run _ _ _ l.t l.g l.rows l.invariant m _ _ room (rw (length-take-le m l.tile small) at c.some_columns-g.ensures) in
    let ends = all-run _ _ _ _ _ _ run last in
    record { value = ends.0; rows_after = ends.1 }
