-- From what the end of a frame came to and left to how the close ends. Assumes nothing.
use mathlib.Core.Path.{◌≡◌, refl, ap, ◌∙◌}
use mathlib.Core.Bool.{Bool, true, false, cond}
use mathlib.Core.List.{List}
use lib.Ieee.{Float}
use lib.ListN.{length}
use Rattle.unit.specs.declared.State.{State}
use Rattle.unit.specs.declared.Rings.{Rings}
use Rattle.unit.specs.declared.Outcome.{Outcome}
use Rattle.unit.specs.UnitState.{of_state}
use Rattle.unit.specs.Layout.{wall}
use Rattle.unit.specs.Room.{unit_rings, room_ok}
use Rattle.rows.specs.Rows.{Rows, rows_of}
use Rattle.frame.specs.declared.Stepped.{Stepped}
use Rattle.frame.specs.Parts.{rows_finite}
use Rattle.frame.specs.Steps.{Left, left_by, finished, finished_with_room, untouched}
use Rattle.machine.specs.Ending.{lend}
use Rattle.machine.specs.Jobs as machine
use Rattle.machine.proofs.Ends.{Ends}
use Rattle.closing.specs.Workers.{closed_by}

-- where there is room for the frame, and the rings are the unit's
pub as_ended : (s : State) (store work output : List Float)
    → room_ok wall s.frame (unit_rings wall (of_state s)) (length store) (length work) (length output) ≡ true
    → (r : Rings) → r ≡ unit_rings wall (of_state s) → (x : Stepped) (y : Outcome) (store' work' output' : List Float)
    → let l = finished wall s.frame r s.filters store work output in
    x ≡ l.stepped → store' ≡ l.store → work' ≡ l.work → output' ≡ l.output → y ≡ closed_by (of_state s) x
    → Ends (machine.ended wall (lend s store work) (rows_of wall.lines s.frame work) output) y store' work' output'
unfolding left_by machine.ended
as_ended s store work output room v e x y store' work' output' ex es ew eo ey =
    let here : finished wall s.frame v s.filters store work output ≡ R =
    ap (λ (k : Rings). finished wall s.frame k s.filters store work output) e
    ∙ ap (λ (b : Bool). cond b R (untouched (unit_rings wall (of_state s)) s.filters store work output)) room in
    let q = go (rows_finite s.filters r) refl in (
      ey ∙ ap (closed_by (of_state s)) (ex ∙ ap (λ (l : Left). l.stepped) here) ∙ q.0,
      (
        es ∙ ap (λ (l : Left). l.store) here ∙ q.1.0,
        (ew ∙ ap (λ (l : Left). l.work) here ∙ q.1.1.0, eo ∙ ap (λ (l : Left). l.output) here ∙ q.1.1.1),
      ),
    )
  where
    r : Rows
    r = rows_of wall.lines s.frame work

    R : Left
    R = finished_with_room wall.lines s.frame (unit_rings wall (of_state s)) s.filters store work output

    go : (b : Bool) → rows_finite s.filters r ≡ b
        → Ends (machine.ended wall (lend s store work) r output) (closed_by (of_state s) R.stepped) R.store R.work R.output
    go true h = rw h (refl, (refl, (refl, refl)))
    go false h = rw h (refl, (refl, (refl, refl)))
