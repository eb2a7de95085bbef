-- `opening::open_apply` meets its contract. Assumes nothing.
use Rattle.std.proofs.Common.{rules, ◌≡◌, sym}
use mathlib.Core.Path.{ap, ◌∙◌}
use mathlib.Core.Bool.{false, ◌&&◌}
use lib.IntN.{pos}
use lib.ListN.{length}
use Rattle.samples.specs.Answers.{Accepted, accepted}
use Rattle.audio_buffer.specs.declared.AudioEffectState.TheVariants.{TailComplete}
use Rattle.unit.specs.UnitState.{UnitState, of_state}
use Rattle.unit.specs.Outcome.{outcome}
use Rattle.unit.specs.Layout.{wall, lengths, allpass_in}
use Rattle.judges.specs.Judges.{store_ok, work_ok}
use Rattle.judges.specs.Turns.{judged_open_apply}
use Rattle.judges.proofs.Fits.{given_of}
use Rattle.bands.specs.declared.Counted.{Counted}
use Rattle.reverb.proofs.WholeParts.{filters_given}
use Rattle.machine.specs.Ending.{Memory, lend}
use Rattle.machine.specs.Whole as Play
use Rattle.machine.specs.Jobs.{unit_open, memory_opened}
use Rattle.machine.proofs.Ends.{quiet_let_by}
use Rattle.opening.proofs.Opened.{open_fits, open_long, laid-after}
use Rattle.opening.proofs.open_apply.Goals as goal

pub begin_work-requires : goal.begin_work-requires
begin_work-requires c =
    let a = c.args in
    let u = of_state a.s in
    let store = length a.store.now in
    let work = length a.work.now in
    let through : (judged_open_apply wall u a.t a.coefficients.now a.input.now store work) ≡ Accepted = search rules in
    let g = given_of u a.t a.coefficients.now a.input.now (store_ok wall u store && work_ok wall u work) through in
    let o = open_fits u store work g.due in
    (o.fits, o.rings)

pub slice_bounds-copy-end : goal.slice_bounds-copy-end
slice_bounds-copy-end c =
    let a = c.args in
    let e = c.begin_work.ensures in
    rw e (open_long a.s.frame (allpass_in (lengths wall (of_state a.s)) a.store.now))

pub returns : goal.returns
returns c =
    let a = c.args in
    let u = of_state a.s in
    let store = length a.store.now in
    let work = length a.work.now in
    let w = lend a.s a.store.now a.work.now in
    let p = Play.apply a.t a.coefficients.now a.input.now in
    let due = judged_open_apply wall u a.t a.coefficients.now a.input.now store work in
    let through : due ≡ Accepted = search rules in
    let e = sym through in
    let g = given_of u a.t a.coefficients.now a.input.now (store_ok wall u store && work_ok wall u work) through in
    let filters = filters_given a.coefficients.now _ g.given c.filters_of-fs.ensures in
    let count = ap (λ (n : Counted). n.count.0) c.tail_count.ensures ∙ ap pos g.count in
    let unit = ap of_state c.opened.ensures ∙ (λ i. unit_open wall u false (filters i) (count i)) in
    let q = quiet_let_by due _ (memory_opened wall w p) w _ e (ap accepted through) (c.quiet-2.ensures ∙ ap (λ (v : UnitState). outcome Accepted v TailComplete) unit) in record {
      value = q.0;
      work_after = laid-after u.settings.frame (allpass_in (lengths wall u) a.store.now) a.input.now _ _ g.row c.begin_work.ensures c.copy.ensures
          ∙ ap (λ (v : Memory). v.work) q.1;
    }
