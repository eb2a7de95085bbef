-- From what a frame came to, and what the memory held before it, to how a whole call ends. Assumes nothing.
use mathlib.Core.Path.{◌≡◌, refl, ap, subst, ◌∙◌}
use mathlib.Core.Bool.{Bool, true, false, cond}
use mathlib.Core.List.{List, [], ◌++◌, append-nil}
use Prim.Native.Nat.{ℕ, ◌-◌, ◌≤◌}
use native.Mathlib.Omega.{arith}
use lib.Dec.{eqb}
use lib.Ieee.{Float}
use lib.IntN.{ℤ}
use lib.ListN.{length, take, drop, replicate, length-append, length-drop, drop_of_length-le}
use lib.Seq.{take_all, take_at, length-take-le}
use borrow.Author.Tests.{eq-eqb}
use borrow.Rule.Slice.PartMut.{put_mid, mid_of}
use Rattle.samples.specs.Answers.{Answer, accept, accepted}
use Rattle.iir.specs.declared.Filter.{Filter}
use Rattle.unit.specs.declared.State.{State}
use Rattle.unit.specs.declared.Rings.{Rings}
use Rattle.unit.specs.declared.Outcome.{Outcome}
use Rattle.unit.specs.UnitState.{of_state}
use Rattle.unit.specs.Layout.{wall}
use Rattle.unit.specs.Room.{unit_rings, room_ok}
use Rattle.unit.specs.Fresh.{blank}
use Rattle.stages.specs.Lines.{filters_of}
use Rattle.stages.specs.Frame.{Frame, frame_in, line_rows}
use Rattle.stages.specs.Settle.{frame_finite}
use Rattle.stages.specs.Steps.{copied}
use Rattle.frame.specs.declared.Stepped.{Stepped}
use Rattle.frame.specs.Steps.{Left, left_by, ran, ran_with_room, untouched}
use Rattle.machine.specs.Ending.{Ending, lend, refused}
use Rattle.machine.specs.Whole.{Play, frame_for, count_for, played}
use Rattle.machine.proofs.Ends.{Ends, ends_let_by, played_as_long}
use Rattle.reverb.specs.Workers.{played_by, playing}

-- where there is room, what a frame came to and left is how the call ends
pub ended : (s : State) (tail : Bool) (fs : List Filter) (count : ℤ) (store work output : List Float)
    → let u = of_state s in
    room_ok wall s.frame (unit_rings wall u) (length store) (length work) (length output) ≡ true
    → (r : Rings) → r ≡ unit_rings wall u
    → (x : Stepped) (y : Outcome) (store' work' output' : List Float)
    → let l = ran wall s.frame r tail fs store work output in
    x ≡ l.stepped → store' ≡ l.store → work' ≡ l.work → output' ≡ l.output → y ≡ played_by u x count
    → Ends (playing s tail fs count store work output) y store' work' output'
unfolding left_by played
ended s tail fs count store work output room v e x y store' work' output' ex es ew eo ey =
    let here : ran wall s.frame v tail fs store work output ≡ R =
    ap (λ (k : Rings). ran wall s.frame k tail fs store work output) e
    ∙ ap (λ (b : Bool). cond b R (untouched (unit_rings wall (of_state s)) fs store work output)) room in
    let q = go (frame_finite r) refl in (
      ey ∙ ap (λ (z : Stepped). played_by (of_state s) z count) (ex ∙ ap (λ (l : Left). l.stepped) here) ∙ q.0,
      (
        es ∙ ap (λ (l : Left). l.store) here ∙ q.1.0,
        (ew ∙ ap (λ (l : Left). l.work) here ∙ q.1.1.0, eo ∙ ap (λ (l : Left). l.output) here ∙ q.1.1.1),
      ),
    )
  where
    r : Frame
    r = frame_in wall.lines s.frame wall.factor wall.divisor tail (unit_rings wall (of_state s)) fs (take s.frame work) store

    R : Left
    R = ran_with_room wall.lines s.frame wall.factor wall.divisor tail (unit_rings wall (of_state s)) fs store work output

    go : (b : Bool) → frame_finite r ≡ b
        → Ends (playing s tail fs count store work output) (played_by (of_state s) R.stepped count) R.store R.work R.output
    go true h = rw h (refl, (refl, (refl, refl)))
    go false h = rw h (refl, (refl, (refl, refl)))

-- let by, a call ends as the frame does that is played: its frame is that of the play p, and so is its count. The work memory that the frame is
-- lent is as long as the call's
pub as_call : (s : State) (p : Play) (due : Answer) (r : Frame) (count : ℤ) (store work work₀ output : List Float) (x : Outcome) (store' work' output' : List Float)
    → accepted due ≡ true → r ≡ frame_for wall (of_state s) p store → count ≡ count_for (of_state s) p → length work ≡ length work₀
    → Ends (played wall (lend s store work) r count output) x store' work' output'
    → Ends (accept due (played wall (lend s store work₀) (frame_for wall (of_state s) p store) (count_for (of_state s) p) output) (refused due (lend s store work₀) output)) x store' work' output'
as_call s p due r count store work work₀ output x store' work' output' through er ec el h =
    ends_let_by due _ _ x store' work' output' through
    (subst (λ (e : Ending). Ends e x store' work' output')
    ((λ i. played wall (lend s store work) (er i) (ec i) output)
    ∙ played_as_long wall (lend s store work₀) (frame_for wall (of_state s) p store) (count_for (of_state s) p) output work el)
    h)

-- R4.9: a tail adds nothing
pub no_input : (n f : ℕ) (k d : Float) (v : Rings) (fs : List Filter) (input input' store : List Float)
    → frame_in n f k d true v fs input store ≡ frame_in n f k d true v fs input' store
unfolding frame_in line_rows
no_input n f k d v fs input input' store = refl

-- R1.16: five coefficients a filter
pub filters_given : (coefficients : List Float) (fs : List Filter) → length coefficients ≡ 255
    → fs ≡ cond (eqb (length coefficients) 255) (filters_of 51 coefficients) (replicate 51 blank) → fs ≡ filters_of 51 coefficients
filters_given coefficients fs h e = rw (eq-eqb (length coefficients) 255 h) at e

-- an input copied to the front of the work memory: it is there, and the memory is as long as it was
pub begun : (f : ℕ) (input work x : List Float) → length input ≡ f → f ≤ length work → x ≡ copied input (mid_of 0 (f - 0) work)
    → (take f (put_mid 0 (f - 0) work x) ≡ input) × (length (put_mid 0 (f - 0) work x) ≡ length work)
begun f input work x l h e =
    let k : f - 0 ≡ f = omega arith in
    let lent : length (take f work) ≡ f = length-take-le f work h in
    let all : take (length (take f work)) input ≡ input = take_all (length (take f work)) input (omega arith) in
    let short : length (take f work) ≤ length input = omega arith in
    let none : drop (length input) (take f work) ≡ [] = drop_of_length-le (take f work) short in
    let here : x ≡ input = e ∙ rw k (λ i. all i ++ none i) ∙ append-nil input in
    rw (here, k) (take_at input (drop f work) f l, simp (length-append, length-drop) (omega arith))
