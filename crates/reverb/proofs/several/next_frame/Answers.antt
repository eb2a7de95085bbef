-- `reverb::several::next_frame` meets its contract. Assumes nothing.
use Rattle.std.proofs.Common.{rules, ◌≡◌}
use Rattle.std.specs.Prelude.{true, false, Err}
use Rattle.samples.specs.declared.Refusal.TheVariants.{NotFinite}
use mathlib.Core.Path.{◌∙◌}
use lib.ListN.{take, drop}
use Rattle.samples.proofs.Clauses.{with_memory}
use Rattle.samples.specs.Answers.{Accepted}
use Rattle.reverb.proofs.WholeParts.{begun}
use Rattle.reverb.proofs.SeveralParts.{eight, nine, kept_next}
use Rattle.reverb.proofs.SeveralTurns.{lent_part, part_long, part_judged}
use Rattle.reverb.proofs.several.next_frame.Goals as goal

pub returns-in_err-judge_input : goal.returns-in_err-judge_input
returns-in_err-judge_input c =
    let a = c.args in
    let due = part_judged a.at a.f a.input.now c.judge_input.ensures c.in_err-judge_input.was in
    let given : c.from_residual.result ≡ Err c.in_err-judge_input.field-0.0 = search rules in
    rw given (with_memory (eight a.f a.ls a.last a.fs (take a.f (drop a.at a.input.now)) a.store.now a.work.now a.output.now due))

pub returns-in_err-need : goal.returns-in_err-need
returns-in_err-need c =
    let a = c.args in
    let b = begun a.f _ a.work.now _ (part_long a.at a.f a.input.now c.requires.frame_lent.0) c.requires.frame_lent.1 c.copy.ensures in
    let through : c.judge_input.result ≡ Accepted = search rules in
    let due = part_judged a.at a.f a.input.now c.judge_input.ensures through in
    let bad : c.run_frame-frame.result.ok ≡ false = search rules in
    let given : c.from_residual-in_err-need.result ≡ Err NotFinite = search rules in
    let g = c.run_frame-frame.ensures in
    rw given
    (with_memory (nine a.f a.ls a.last a.fs (take a.f (drop a.at a.input.now)) a.store.now a.work.now a.output.now due _ (b.0 ∙ lent_part a.at a.f a.input.now) b.1 (rw b.1 c.requires.room) _
    c.rings_at.ensures _ _ _ _ g.value g.store_after g.work_after g.output_after bad))

pub returns : goal.returns
returns c =
    let a = c.args in
    let b = begun a.f _ a.work.now _ (part_long a.at a.f a.input.now c.requires.frame_lent.0) c.requires.frame_lent.1 c.copy.ensures in
    let through : c.judge_input.result ≡ Accepted = search rules in
    let due = part_judged a.at a.f a.input.now c.judge_input.ensures through in
    let ok : c.run_frame-frame.result.ok ≡ true = search rules in
    let g = c.run_frame-frame.ensures in
    with_memory (kept_next a.f a.ls a.last a.fs (take a.f (drop a.at a.input.now)) a.store.now a.work.now a.output.now due _ (b.0 ∙ lent_part a.at a.f a.input.now) b.1 (rw b.1 c.requires.room) _
    c.rings_at.ensures _ _ _ _ g.value g.store_after g.work_after g.output_after ok)
