-- `closing::close` meets its contract. Assumes nothing.
use Rattle.std.proofs.Common.{rules, ◌≡◌}
use Rattle.samples.specs.Answers.{Accepted, accepted}
use mathlib.Core.Bool.{◌&&◌, true}
use lib.ListN.{length}
use Rattle.samples.proofs.Clauses.{with_memory}
use Rattle.unit.specs.UnitState.{of_state}
use Rattle.unit.specs.Layout.{wall}
use Rattle.unit.specs.Room.{lent_ok}
use Rattle.judges.specs.Marks.{all_done}
use Rattle.judges.specs.Turns.{judged_close}
use Rattle.judges.proofs.Fits.{due_of, room_of, rings_are}
use Rattle.machine.proofs.Ends.{ends_let_by}
use Rattle.closing.proofs.Closed.{as_ended}
use mathlib.Core.Path.{ap}
use Rattle.closing.proofs.close.Goals as goal

pub returns : goal.returns
returns c =
    let a = c.args in
    let u = of_state a.s in
    let store = length a.store.now in
    let work = length a.work.now in
    let output = length a.output.now in
    let due = judged_close wall u store work output in
    let through : due ≡ Accepted = search rules in
    let d = due_of u (lent_ok wall u store work output) true (u.held.busy && all_done u.held.marks) through in
    let room = room_of u store work output d d.lent in
    let g = c.close_frame-r.ensures in with_memory (ends_let_by due _ _ _ _ _ _ (ap accepted through)
    (as_ended a.s a.store.now a.work.now a.output.now room _ (rings_are u store work output _ room c.rings_of.ensures) _ _ _ _ _ g.value g.store_after g.work_after g.output_after c.concluded.ensures))
