-- `bank::line::run_behind` meets its contract. Assumes nothing.
use native.Mathlib.Omega.{arith}
use mathlib.Core.Path.{refl}
use Rattle.bank.proofs.BehindTurns.{one_put, all_put}
use Rattle.bank.proofs.line.run_behind.Goals as goal

pub loop-i-init : goal.loop-i-init
loop-i-init c = (omega arith, omega arith, refl, refl, refl)

pub loop-i-preserved : goal.loop-i-preserved
loop-i-preserved c =
    let l = c.loop-i in
    one_put _ _ c.args.xs.now l.i l.l l.xs l.invariant _ c.loop-i-test.true c.stagger-l.ensures

pub returns : goal.returns
returns c =
    let l = c.loop-i in
    all_put _ _ c.args.xs.now l.i l.l l.xs l.invariant c.loop-i-test.false
