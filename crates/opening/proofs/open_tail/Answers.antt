-- `opening::open_tail` meets its contract. Assumes nothing.
use Rattle.std.proofs.Common.{rules, ◌≡◌, sym}
use mathlib.Core.Path.{ap, ◌∙◌}
use mathlib.Core.Bool.{true, not, ◌&&◌}
use lib.ListN.{length}
use Rattle.samples.specs.declared.Frames.{Frames}
use Rattle.samples.specs.Answers.{Accepted, accepted}
use Rattle.audio_buffer.specs.declared.AudioEffectState.TheVariants.{TailComplete}
use Rattle.unit.specs.UnitState.{UnitState, of_state}
use Rattle.unit.specs.Outcome.{outcome}
use Rattle.unit.specs.Layout.{wall}
use Rattle.judges.specs.Judges.{store_ok, work_ok}
use Rattle.judges.specs.Turns.{judged_open_tail}
use Rattle.judges.proofs.Fits.{due_of}
use Rattle.machine.specs.Ending.{Memory, lend}
use Rattle.machine.specs.Whole as Play
use Rattle.machine.specs.Jobs.{unit_open, memory_opened}
use Rattle.machine.proofs.Ends.{quiet_let_by}
use Rattle.opening.proofs.Opened.{open_fits}
use Rattle.opening.proofs.open_tail.Goals as goal

pub begin_work-requires : goal.begin_work-requires
begin_work-requires c =
    let a = c.args in
    let u = of_state a.s in
    let store = length a.store.now in
    let work = length a.work.now in
    let through : (judged_open_tail wall u store work) ≡ Accepted = search rules in
    let o = open_fits u store work (due_of u (store_ok wall u store && work_ok wall u work) true (not u.held.busy) through) in
    (o.fits, o.rings)

pub returns : goal.returns
returns c =
    let a = c.args in
    let u = of_state a.s in
    let w = lend a.s a.store.now a.work.now in
    let due = judged_open_tail wall u (length a.store.now) (length a.work.now) in
    let through : due ≡ Accepted = search rules in
    let e = sym through in
    let unit = ap of_state c.opened.ensures ∙ ap (λ (n : Frames). unit_open wall u true u.filters n.0) c.fallen.ensures in
    let q = quiet_let_by due _ (memory_opened wall w Play.tail) w _ e (ap accepted through)
    (c.quiet-2.ensures ∙ ap (λ (v : UnitState). outcome Accepted v TailComplete) unit) in record { value = q.0; work_after = c.begin_work.ensures ∙ ap (λ (v : Memory). v.work) q.1 }
