-- `jobs::job_line` meets its contract. Assumes nothing.
use Rattle.std.proofs.Common.{rules, ◌≡◌, sym}
use native.Mathlib.Omega.{arith}
use borrow.Author.Tests.{ltb-true}
use mathlib.Core.Path.{ap, ◌∙◌}
use mathlib.Core.Bool.{Bool, true, not, ◌&&◌}
use Prim.Native.Nat.{ℕ, ◌<◌}
use lib.Dec.{ltb}
use mathlib.Core.List.{List, []}
use lib.ListN.{length}
use Rattle.samples.specs.Answers.{Accepted, accepted}
use Rattle.samples.proofs.Laws.{join_and}
use Rattle.audio_buffer.specs.declared.AudioEffectState.TheVariants.{TailComplete}
use Rattle.iir.specs.declared.Filter.{Filter}
use Rattle.unit.specs.UnitState.{UnitState, of_state}
use Rattle.unit.specs.Layout.{wall, mix_mark, line_mark}
use Rattle.judges.specs.Judges.{work_ok}
use Rattle.judges.specs.Marks.{marked}
use Rattle.judges.specs.Turns.{judged_line}
use Rattle.rows.specs.Fits.{work_for}
use Rattle.unit.specs.Outcome.{outcome}
use Rattle.judges.proofs.Fits.{due_of}
use Rattle.machine.specs.Ending.{Memory, lend}
use Rattle.machine.specs.Jobs.{line_job, unit_marked, memory_done}
use Rattle.machine.proofs.Ends.{quiet_let_by}
use Rattle.jobs.proofs.Laid.{work_for_lem, line_of, line_work, line_ends_lem}
use Rattle.jobs.proofs.job_line.Goals.{In_default}
use Rattle.jobs.proofs.job_line.Goals as goal

-- what the judgement has let by
module _ (p : goal.In_default) where
  abbrev u : UnitState
  u = of_state p.args.s

  abbrev line : ℕ
  line = p.args.line

  abbrev work : ℕ
  work = length p.args.work.now

  due : judged_line wall u line work ≡ Accepted
  due = search rules

  abbrev turn : Bool
  turn = u.held.busy && (marked u (mix_mark wall) && not (marked u (line_mark wall line)))

  known : ltb line 16 ≡ true
  known = line_of u (work_ok wall u work) (ltb line 16) turn due

  few : line < 16
  few = ltb-true line 16 known

  room : (ltb line 16 && work_for wall u.settings.frame work) ≡ true
  room = join_and known (work_for_lem u work (due_of u (work_ok wall u work) (ltb line 16) turn due))

pub overflow_add-line : goal.overflow_add-line
overflow_add-line c = omega (arith, few (goal.at.overflow_add-line c).In_default)

pub marked-requires : goal.marked-requires
marked-requires c = omega (arith, few (goal.at.marked-requires c).In_default)

pub returns : goal.returns
returns c =
    let a = c.args in
    let v = u (goal.at.returns c).In_default in
    let w = lend a.s [] a.work.now in
    let due' = judged_line wall v a.line (work (goal.at.returns c).In_default) in
    let through : due' ≡ Accepted = search rules in
    let e = sym through in
    let g = c.make_line-gs.ensures in
    let filters = line_ends_lem v a.work.now _ (room (goal.at.returns c).In_default) a.line _ g.value in
    let unit = ap of_state c.marked.ensures ∙ ap (λ (gs : List Filter). unit_marked v (line_mark wall a.line) gs) filters in
    let q = quiet_let_by due' _ (memory_done wall w (line_job a.line)) w _ e (ap accepted through)
    (c.quiet-2.ensures ∙ ap (λ (x : UnitState). outcome Accepted x TailComplete) unit) in record { value = q.0; work_after = line_work v a.work.now _ (room (goal.at.returns c).In_default) a.line _ g.work_after ∙ ap (λ (x : Memory). x.work) q.1 }
