-- `jobs::job_output` meets its contract. Assumes nothing.
use Rattle.std.proofs.Common.{rules, ◌≡◌, sym}
use mathlib.Core.Path.{ap, ◌∙◌}
use mathlib.Core.Bool.{true, not, ◌&&◌}
use mathlib.Core.List.{List, []}
use lib.ListN.{length}
use Rattle.samples.specs.Answers.{Accepted, accepted}
use Rattle.audio_buffer.specs.declared.AudioEffectState.TheVariants.{TailComplete}
use Rattle.iir.specs.declared.Filter.{Filter}
use Rattle.unit.specs.UnitState.{UnitState, of_state}
use Rattle.unit.specs.Layout.{wall, output_mark}
use Rattle.judges.specs.Judges.{work_ok}
use Rattle.judges.specs.Marks.{marked, all_read}
use Rattle.judges.specs.Turns.{judged_output}
use Rattle.unit.specs.Outcome.{outcome}
use Rattle.judges.proofs.Fits.{due_of}
use Rattle.machine.specs.Ending.{Memory, lend}
use Rattle.machine.specs.Jobs.{output_job, unit_marked, memory_done}
use Rattle.machine.proofs.Ends.{quiet_let_by}
use Rattle.jobs.proofs.Laid.{work_for_lem, output_work, output_ends_lem}
use Rattle.jobs.proofs.job_output.Goals as goal

pub returns : goal.returns
returns c =
    let a = c.args in
    let u = of_state a.s in
    let work = length a.work.now in
    let w = lend a.s [] a.work.now in
    let due = judged_output wall u work in
    let through : due ≡ Accepted = search rules in
    let e = sym through in
    let room = work_for_lem u work (due_of u (work_ok wall u work) true (u.held.busy && (all_read wall u && not (marked u (output_mark wall)))) through) in
    let g = c.make_output-gs.ensures in
    let filters = output_ends_lem u a.work.now _ room _ g.value in
    let unit = ap of_state c.marked.ensures ∙ ap (λ (gs : List Filter). unit_marked u (output_mark wall) gs) filters in
    let q = quiet_let_by due _ (memory_done wall w output_job) w _ e (ap accepted through)
    (c.quiet-2.ensures ∙ ap (λ (v : UnitState). outcome Accepted v TailComplete) unit) in record { value = q.0; work_after = output_work u a.work.now _ room _ g.work_after ∙ ap (λ (v : Memory). v.work) q.1 }
