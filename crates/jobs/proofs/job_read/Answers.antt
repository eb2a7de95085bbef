-- `jobs::job_read` meets its contract. Assumes nothing.
use Rattle.std.proofs.Common.{rules, ◌≡◌, sym}
use native.Mathlib.Omega.{arith}
use borrow.Author.Tests.{ltb-true, eqb-true}
use mathlib.Core.Path.{refl, ap, ◌∙◌}
use mathlib.Core.Bool.{Bool, true, not, ◌&&◌, cond}
use Prim.Native.Nat.{ℕ, ◌<◌}
use lib.Dec.{ltb}
use lib.ListN.{length, replicate}
use Rattle.samples.specs.Answers.{Accepted, accepted}
use Rattle.samples.proofs.Laws.{join_and, split_and, frame_of}
use Rattle.audio_buffer.specs.declared.AudioEffectState.TheVariants.{TailComplete}
use Rattle.unit.specs.UnitState.{UnitState, of_state}
use Rattle.unit.specs.declared.State.{State}
use Rattle.unit.specs.declared.Rings.{Rings}
use Rattle.unit.specs.Layout.{wall, lengths}
use Rattle.unit.specs.Range.{cursors_in}
use Rattle.unit.specs.Room.{rings_with, unit_rings, rings_hold}
use Rattle.unit.proofs.Ranges.{wall_holds}
use Rattle.samples.specs.Sizes.{rate_ok, frame_ok}
use Rattle.judges.specs.Judges.{store_ok, work_ok}
use Rattle.judges.specs.Marks.{marked}
use Rattle.judges.specs.Turns.{judged_read}
use Rattle.rows.specs.Fits.{work_for}
use Rattle.rows.proofs.RowsOf.{work_fits}
use Rattle.rows.specs.Reads.{line_room, read_laid}
use Rattle.unit.specs.Outcome.{outcome}
use Rattle.judges.proofs.Fits.{Due, due_of}
use Rattle.machine.specs.Ending.{Memory, lend}
use Rattle.machine.specs.Jobs.{read_job, memory_done}
use Rattle.machine.proofs.Ends.{quiet_let_by}
use Rattle.jobs.proofs.Laid.{work_for_lem, line_of, read_work_lem}
use Rattle.jobs.proofs.job_read.Goals.{In_default}
use Rattle.jobs.proofs.job_read.Goals as goal

-- what the judgement has let by
module _ (p : goal.In_default) where
  abbrev u : UnitState
  u = of_state p.args.s

  abbrev line : ℕ
  line = p.args.line

  abbrev store : ℕ
  store = length p.args.store.now

  abbrev work : ℕ
  work = length p.args.work.now

  judged_ok : judged_read wall u line store work ≡ Accepted
  judged_ok = search rules

  abbrev turn : Bool
  turn = u.held.busy && not (marked u line)

  known : ltb line 16 ≡ true
  known = line_of u (store_ok wall u store && work_ok wall u work) (ltb line 16) turn judged_ok

  few : line < 16
  few = ltb-true line 16 known

  due : Due u (store_ok wall u store && work_ok wall u work)
  due = due_of u (store_ok wall u store && work_ok wall u work) (ltb line 16) turn judged_ok

  lent : (store_ok wall u store ≡ true) × (work_ok wall u work ≡ true)
  lent = split_and (store_ok wall u store) (work_ok wall u work) due.lent

  frames : work_for wall u.settings.frame work ≡ true
  frames = work_for_lem u work (record { sizes = due.sizes; cursors = due.cursors; lent = lent.1 })

  framed : frame_ok u.settings.frame ≡ true
  framed = (split_and (rate_ok u.settings.rate) (frame_ok u.settings.frame) due.sizes).1

  hold : rings_hold u.settings.frame (lengths wall u) ≡ true
  hold = wall_holds u (frame_of _ framed).hi

  its_rings : cond (frame_ok u.settings.frame) (unit_rings wall u) (rings_with wall u (replicate 16 0)) ≡ unit_rings wall u
  its_rings = rw framed refl

  room : line_room wall u.settings.frame (lengths wall u) line store work ≡ true
  room = join_and known (join_and frames (join_and hold lent.0))

pub marked-requires : goal.marked-requires
marked-requires c = omega (arith, few (goal.at.marked-requires c).In_default)

pub returns : goal.returns
returns c =
    let a = c.args in
    let v = u (goal.at.returns c).In_default in
    let w = lend a.s a.store.now a.work.now in
    let due' = judged_read wall v a.line (store (goal.at.returns c).In_default) (work (goal.at.returns c).In_default) in
    let through : due' ≡ Accepted = search rules in
    let e = sym through in
    let cursors = (split_and (cursors_in (lengths wall v) v.cursors.lines) (cursors_in wall.pass_lengths v.cursors.passes) (due (goal.at.returns c).In_default).cursors).0 in
    let rings = c.rings_of.ensures ∙ its_rings (goal.at.returns c).In_default in
    let row = read_work_lem v a.work.now _ (room (goal.at.returns c).In_default) a.line a.store.now _ (few (goal.at.returns c).In_default) (hold (goal.at.returns c).In_default) (eqb-true _ _ (lent (goal.at.returns c).In_default).0) (work_fits v.settings.frame (work (goal.at.returns c).In_default) (frames (goal.at.returns c).In_default)) cursors
    (c.read_line.ensures
    ∙ ap (λ (k : Rings). read_laid wall v.settings.frame k a.line (line_room wall v.settings.frame k.lines.lengths a.line (store (goal.at.returns c).In_default) (work (goal.at.returns c).In_default)) a.store.now a.work.now) rings) in
    let q = quiet_let_by due' _ (memory_done wall w (read_job a.line)) w _ e (ap accepted through)
    (c.quiet-2.ensures ∙ ap (λ (s : State). outcome Accepted (of_state s) TailComplete) c.marked.ensures) in record { value = q.0; work_after = row ∙ ap (λ (x : Memory). x.work) q.1 }
