-- `reverb::apply` meets its contract. Assumes nothing.
use Rattle.std.proofs.Common.{rules, ◌≡◌}
use mathlib.Core.Path.{ap, ◌∙◌}
use mathlib.Core.Bool.{false}
use lib.IntN.{pos}
use lib.ListN.{length}
use Rattle.samples.proofs.Clauses.{with_memory}
use Rattle.samples.specs.Answers.{Accepted, accepted}
use Rattle.bands.specs.declared.Counted.{Counted}
use Rattle.unit.specs.UnitState.{of_state}
use Rattle.unit.specs.Layout.{wall}
use Rattle.judges.specs.Judges.{judged_apply}
use Rattle.unit.specs.Room.{unit_rings}
use Rattle.stages.specs.Frame.{frame_in}
use Rattle.machine.specs.Whole as Play
use Rattle.judges.proofs.Fits.{ApplyFits, apply_fits}
use Rattle.reverb.proofs.WholeParts.{begun, filters_given, as_call}
use Rattle.reverb.proofs.apply.Goals.{In_default}
use Rattle.reverb.proofs.apply.Goals as goal

through :
    (p : goal.In_default)
    → let a = p.args in
    judged_apply wall (of_state a.s) a.t a.coefficients.now a.input.now (length a.store.now) (length a.work.now) (length a.output.now) ≡ Accepted
through p = search rules

fits :
    (p : goal.In_default)
    → let a = p.args in
    ApplyFits (of_state a.s) a.t (length a.coefficients.now) (length a.input.now) (length a.store.now) (length a.work.now) (length a.output.now)
fits p =
    let a = p.args in
    apply_fits (of_state a.s) a.t a.coefficients.now a.input.now _ _ _ (through p)

pub slice_bounds-copy-end : goal.slice_bounds-copy-end
slice_bounds-copy-end c = (fits (goal.at.slice_bounds-copy-end c).In_default).holds

pub whole_frame-requires : goal.whole_frame-requires
whole_frame-requires c =
    let a = c.args in
    let h = fits (goal.at.whole_frame-requires c).In_default in
    let b = begun a.s.frame a.input.now a.work.now _ h.what.row h.holds c.copy.ensures in
    rw b.1 h.room

pub returns : goal.returns
returns c =
    let a = c.args in
    let u = of_state a.s in
    let h = fits (goal.at.returns c).In_default in
    let b = begun u.settings.frame a.input.now a.work.now _ h.what.row h.holds c.copy.ensures in
    let filters = filters_given a.coefficients.now _ h.what.given c.filters_of-fs.ensures in
    let count = ap (λ (n : Counted). n.count.0) c.tail_count.ensures ∙ ap pos h.what.count in
    let due = judged_apply wall u a.t a.coefficients.now a.input.now (length a.store.now) (length a.work.now) (length a.output.now) in
    let g = c.whole_frame.ensures in with_memory (as_call a.s (Play.apply a.t a.coefficients.now a.input.now) due _ _ a.store.now _ a.work.now a.output.now _ _ _ _ (ap accepted (through (goal.at.returns c).In_default))
    (λ i. frame_in wall.lines u.settings.frame wall.factor wall.divisor false (unit_rings wall u) (filters i) (b.0 i) a.store.now) count b.1 (g.value, (g.store_after, (g.work_after, g.output_after))))
