-- `closing::ends::concluded` meets its contract. Assumes nothing.
use Rattle.std.specs.Prelude.{Err}
use mathlib.Core.Path.{ap, ◌∙◌}
use Rattle.samples.specs.declared.Refusal.TheVariants.{NotFinite}
use Rattle.samples.specs.Answers.{Accepted}
use Rattle.audio_buffer.specs.declared.AudioEffectState.TheVariants.{TailComplete}
use Rattle.unit.specs.declared.State.{State}
use Rattle.unit.specs.UnitState.{of_state}
use Rattle.unit.specs.Outcome.{outcome}
use Rattle.unit.proofs.Outcomes.{when, when_not}
use Rattle.closing.proofs.ends.concluded.Goals as goal

pub returns-then-not-frame : goal.returns-then-not-frame
returns-then-not-frame c =
    when_not c.args.frame.ok _ _ _ c.if-not-frame.true
    (c.quiet.ensures ∙ ap (λ (t : State). outcome (Err NotFinite) (of_state t) TailComplete) c.shut.ensures)

pub returns : goal.returns
returns c =
    let v = c.verdict.ensures in
    let m = c.idle.ensures in
    when c.args.frame.ok _ _ _ c.if-not-frame.false (λ i. record { answer = Accepted; verdict = v i; state = m i })
