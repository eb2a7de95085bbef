-- `reverb::units::conclude` meets its contract. Assumes nothing.
use Rattle.samples.specs.Answers.{Accepted}
use Rattle.unit.proofs.Outcomes.{when, when_not}
use Rattle.reverb.proofs.units.conclude.Goals as goal

pub returns-then-not-frame : goal.returns-then-not-frame
returns-then-not-frame c = when_not c.args.frame.ok _ _ _ c.if-not-frame.true c.quiet.ensures

pub returns : goal.returns
returns c =
    let v = c.verdict.ensures in
    let m = c.moved_on.ensures in
    when c.args.frame.ok _ _ _ c.if-not-frame.false (λ i. record { answer = Accepted; verdict = v i; state = m i })
