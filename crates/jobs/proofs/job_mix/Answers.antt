-- `jobs::job_mix` meets its contract. Assumes nothing.
use Rattle.std.proofs.Common.{rules, ◌≡◌, sym}
use mathlib.Core.Path.{ap, ◌∙◌}
use mathlib.Core.Bool.{true, not, ◌&&◌}
use mathlib.Core.List.{[]}
use lib.ListN.{length}
use Rattle.samples.specs.Answers.{Accepted, accepted}
use Rattle.audio_buffer.specs.declared.AudioEffectState.TheVariants.{TailComplete}
use Rattle.unit.specs.UnitState.{of_state}
use Rattle.unit.specs.declared.State.{State}
use Rattle.unit.specs.Layout.{wall, mix_mark}
use Rattle.judges.specs.Judges.{work_ok}
use Rattle.judges.specs.Marks.{marked, all_read}
use Rattle.judges.specs.Turns.{judged_mix}
use Rattle.rows.proofs.RowsOf.{work_fits}
use Rattle.unit.specs.Outcome.{outcome}
use Rattle.judges.proofs.Fits.{due_of}
use Rattle.machine.specs.Ending.{Memory, lend}
use Rattle.machine.specs.Jobs.{mix_job, memory_done}
use Rattle.machine.proofs.Ends.{quiet_let_by}
use Rattle.jobs.proofs.Laid.{work_for_lem}
use Rattle.jobs.proofs.job_mix.Goals as goal

pub mix_rows-requires : goal.mix_rows-requires
mix_rows-requires c =
    let a = c.args in
    let u = of_state a.s in
    let work = length a.work.now in
    let through : (judged_mix wall u work) ≡ Accepted = search rules in
    work_fits u.settings.frame work (work_for_lem u work (due_of u (work_ok wall u work) true (u.held.busy && (all_read wall u && not (marked u (mix_mark wall)))) through))

pub returns : goal.returns
returns c =
    let a = c.args in
    let u = of_state a.s in
    let w = lend a.s [] a.work.now in
    let due = judged_mix wall u (length a.work.now) in
    let through : due ≡ Accepted = search rules in
    let e = sym through in
    let q = quiet_let_by due _ (memory_done wall w mix_job) w _ e (ap accepted through)
    (c.quiet-2.ensures ∙ ap (λ (s : State). outcome Accepted (of_state s) TailComplete) c.marked.ensures) in record { value = q.0; work_after = c.mix_rows.ensures ∙ ap (λ (v : Memory). v.work) q.1 }
