-- `reverb::tail` meets its contract. Assumes nothing.
use Rattle.std.proofs.Common.{rules, ◌≡◌}
use mathlib.Core.Path.{refl, ap}
use mathlib.Core.Bool.{not}
use lib.ListN.{length, take}
use Rattle.samples.proofs.Clauses.{with_memory}
use Rattle.samples.specs.declared.Frames.{Frames}
use Rattle.samples.specs.Answers.{Accepted, accepted}
use Rattle.unit.specs.UnitState.{of_state}
use Rattle.unit.specs.Layout.{wall}
use Rattle.unit.specs.Room.{unit_rings, lent_ok}
use Rattle.judges.specs.Judges.{judged_tail}
use Rattle.judges.proofs.Fits.{due_of, room_of}
use Rattle.machine.specs.Whole as Play
use Rattle.machine.specs.Whole.{input_for}
use Rattle.reverb.proofs.WholeParts.{no_input, as_call}
use Rattle.reverb.proofs.tail.Goals as goal

pub whole_frame-requires : goal.whole_frame-requires
whole_frame-requires c =
    let a = c.args in
    let u = of_state a.s in
    let store = length a.store.now in
    let work = length a.work.now in
    let output = length a.output.now in
    let through : judged_tail wall u store work output ≡ Accepted = search rules in
    let d = due_of u (lent_ok wall u store work output) _ (not u.held.busy) through in
    room_of u store work output d d.lent

pub returns : goal.returns
returns c =
    let a = c.args in
    let u = of_state a.s in
    let due = judged_tail wall u (length a.store.now) (length a.work.now) (length a.output.now) in
    let through : due ≡ Accepted = search rules in
    let g = c.whole_frame.ensures in with_memory (as_call a.s Play.tail due _ _ a.store.now a.work.now a.work.now a.output.now _ _ _ _ (ap accepted through)
    (no_input 16 a.s.frame wall.factor wall.divisor (unit_rings wall u) u.filters (take a.s.frame a.work.now) (input_for u Play.tail) a.store.now)
    (ap (λ (n : Frames). n.0) c.fallen.ensures) refl (g.value, (g.store_after, (g.work_after, g.output_after))))
