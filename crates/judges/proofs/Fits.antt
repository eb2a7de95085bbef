-- From a judgement that lets a call by to what it tells: room for its frame, and what an apply is given. Assumes nothing.
use Rattle.std.specs.Prelude.{Err}
use mathlib.Core.Path.{◌≡◌, refl, sym, ◌∙◌}
use mathlib.Core.Bool.{Bool, true, false, not, ◌&&◌, ◌||◌, cond}
use mathlib.Core.List.{List, []}
use Prim.Native.Nat.{ℕ, ◌≤◌, ◌/◌, ◌%◌}
use native.Mathlib.Omega.{arith}
use lib.Dec.{leb}
use lib.Ieee.{Float}
use lib.ListN.{length, replicate}
use borrow.Author.Tests.{not-true, leb-true, eqb-true, eq-eqb}
use Rattle.samples.specs.declared.Refusal.TheVariants.{BadState, BadLength, BadIndex, OutOfTurn, BadTime, BadCoefficient}
use Rattle.samples.specs.Answers.{Answer, Accepted, need, accepted, or_else}
use Rattle.samples.specs.Sizes.{rate_ok, frame_ok}
use Rattle.samples.proofs.Laws.{split_and, join_and, needed, is_accepted, accept_no, frame_of}
use Rattle.search.specs.Search.{first_bad, all_finite}
use Rattle.bands.specs.declared.Times.{Times}
use Rattle.bands.specs.Times.{times_ok}
use Rattle.bands.specs.Tail.{tail_count, count_of}
use Rattle.unit.specs.declared.Rings.{Rings}
use Rattle.unit.specs.UnitState.{UnitState}
use Rattle.unit.specs.Layout.{Model, wall, lengths, store_len, work_len, coefficients_len}
use Rattle.unit.specs.Range.{cursors_in, in_range, blank_open}
use Rattle.unit.specs.Room.{rings_with, unit_rings, rings_hold, passes_are, rings_in, room_ok, lent_ok}
use Rattle.judges.specs.Judges.{judged, judged_apply, judged_given, bad_input, store_ok, work_ok, given_ok, most_frames, frames_ok, judged_frames}
use Rattle.unit.proofs.Laws.{work_is}
use Rattle.unit.proofs.Ranges.{wall_holds, wall-passes}

-- what an accepted call tells, by its judgement alone
pub record Told (m : Model) (u : UnitState) (slices line turn : Bool) : Type 0 where
  pub range : in_range m u ≡ true
  pub slices_ok : slices ≡ true
  pub line_ok : line ≡ true
  pub on_turn : turn ≡ true

pub told : (m : Model) (u : UnitState) (slices line turn : Bool) → judged m u slices line turn ≡ Accepted → Told m u slices line turn
unfolding judged
told m u slices line turn e =
    let p = needed (in_range m u) (Err BadState) (need slices (Err BadLength) (need line (Err BadIndex) (need turn (Err OutOfTurn) Accepted))) refl e in
    let q = needed slices (Err BadLength) (need line (Err BadIndex) (need turn (Err OutOfTurn) Accepted)) refl p.1 in
    let r = needed line (Err BadIndex) (need turn (Err OutOfTurn) Accepted) refl q.1 in
    record { range = p.0; slices_ok = q.0; line_ok = r.0; on_turn = (needed turn (Err OutOfTurn) Accepted refl r.1).0 }

-- and of the state's parts and of the lengths
pub record Due (u : UnitState) (Lent_ok : Bool) : Type 0 where
  pub sizes : (rate_ok u.settings.rate && frame_ok u.settings.frame) ≡ true
  pub cursors : (cursors_in (lengths wall u) u.cursors.lines && cursors_in wall.pass_lengths u.cursors.passes) ≡ true
  pub lent : Lent_ok ≡ true

pub due_of : (u : UnitState) (lent line turn : Bool) → judged wall u lent line turn ≡ Accepted → Due u lent
unfolding in_range
due_of u lent line turn e =
    let d = told wall u lent line turn e in
    let cursors = cursors_in (lengths wall u) u.cursors.lines && cursors_in wall.pass_lengths u.cursors.passes in
    let s = split_and (rate_ok u.settings.rate && frame_ok u.settings.frame) (cursors && (u.held.busy || blank_open u)) d.range in
    record { sizes = s.0; cursors = (split_and cursors (u.held.busy || blank_open u) s.1).0; lent = d.slices_ok }

-- with the lengths of a whole call there is room for its frame
pub room_of : {Lent_ok : Bool} (u : UnitState) (store work output : ℕ) → Due u Lent_ok → lent_ok wall u store work output ≡ true
    → room_ok wall u.settings.frame (unit_rings wall u) store work output ≡ true
unfolding room_ok
room_of u store work output d lent =
    let frame = (split_and (rate_ok u.settings.rate) (frame_ok u.settings.frame) d.sizes).1 in
    join_and frame (join_and (join_and (wall_holds u (frame_of _ frame).hi) wall-passes) (join_and d.cursors lent))

-- and the rings that the code asks for are the unit's
pub rings_are : (u : UnitState) (store work output : ℕ) (r : Rings)
    → room_ok wall u.settings.frame (unit_rings wall u) store work output ≡ true
    → r ≡ cond (frame_ok u.settings.frame) (unit_rings wall u) (rings_with wall u (replicate 16 0)) → r ≡ unit_rings wall u
unfolding room_ok
rings_are u store work output r room e = e ∙ rw (split_and (frame_ok u.settings.frame) _ room).0 refl

work_holds : (f work : ℕ) → work ≡ work_len wall f → f ≤ work
work_holds f work e = omega (arith, work_is f)

-- ---- an apply

-- a judgement after another one lets by only what both do
pub both_let_by : (a b : Answer) → or_else a b ≡ Accepted → (a ≡ Accepted) × (b ≡ Accepted)
both_let_by a b e = let p = go (accepted a) refl in (p, rw p at e)
  where
    go : (ok : Bool) → accepted a ≡ ok → a ≡ Accepted
    go true h = is_accepted a h
    go false h = sym (accept_no a b a h) ∙ e

-- what an accepted apply, whole or opened, tells of what it is given
pub record Given (u : UnitState) (t : Times) (coefficients input : ℕ) (lent : Bool) : Type 0 where
  pub due : Due u lent
  pub given : coefficients ≡ 255
  pub row : input ≡ u.settings.frame
  pub count : count_of t u.settings.rate u.settings.frame ≡ tail_count t u.settings.rate u.settings.frame

pub given_of : (u : UnitState) (t : Times) (coefficients input : List Float) (lent : Bool)
    → or_else (judged wall u (given_ok wall u (length coefficients) (length input) && lent) true (not u.held.busy)) (judged_given t coefficients input) ≡ Accepted
    → Given u t (length coefficients) (length input) lent
unfolding judged_given
given_of u t coefficients input lent e =
    let given = given_ok wall u (length coefficients) (length input) in
    let p = both_let_by (judged wall u (given && lent) true (not u.held.busy)) (judged_given t coefficients input) e in
    let d = due_of u (given && lent) true (not u.held.busy) p.0 in
    let l = split_and given lent d.lent in
    let g = split_and _ _ l.0 in
    let times = (needed (times_ok t) (Err BadTime) _ refl p.1).0 in
    record {
      due = record { sizes = d.sizes; cursors = d.cursors; lent = l.1 };
      given = eqb-true _ _ g.0;
      row = eqb-true _ _ g.1;
      count = rw (d.sizes, times) refl;
    }

-- and of the memory lent to a whole one
pub record ApplyFits (u : UnitState) (t : Times) (coefficients input store work output : ℕ) : Type 0 where
  pub room : room_ok wall u.settings.frame (unit_rings wall u) store work output ≡ true
  pub holds : u.settings.frame ≤ work
  pub what : Given u t coefficients input (lent_ok wall u store work output)

pub apply_fits : (u : UnitState) (t : Times) (coefficients input : List Float) (store work output : ℕ)
    → judged_apply wall u t coefficients input store work output ≡ Accepted → ApplyFits u t (length coefficients) (length input) store work output
apply_fits u t coefficients input store work output e =
    let g = given_of u t coefficients input (lent_ok wall u store work output) e in
    let lent = g.due.lent in
    record {
      room = room_of u store work output g.due lent;
      holds = work_holds u.settings.frame work (eqb-true _ _ (split_and _ _ (split_and (store_ok wall u store) _ lent).1).0);
      what = g;
    }

-- ---- several frames at once

-- what they tell where 1 to 7 let them by
pub record FramesLetBy (m : Model) (u : UnitState) (t : Times) (coefficients : List Float) (input store work output : ℕ) : Type 0 where
  pub range : in_range m u ≡ true
  pub free : u.held.busy ≡ false
  pub given : length coefficients ≡ coefficients_len m
  pub whole : input % u.settings.frame ≡ 0
  pub beside : output ≡ input
  pub few : input / u.settings.frame ≤ most_frames
  pub rings : store ≡ store_len m (lengths m u)
  pub rows : work ≡ work_len m u.settings.frame
  pub times : times_ok t ≡ true
  pub finite : all_finite coefficients ≡ true

pub frames_let_by : (m : Model) (u : UnitState) (t : Times) (coefficients : List Float) (input store work output : ℕ)
    → judged_frames m u t coefficients input store work output ≡ Accepted → FramesLetBy m u t coefficients input store work output
unfolding judged_given
frames_let_by m u t coefficients input store work output e =
    let memory = store_ok m u store && work_ok m u work in
    let slices = frames_ok m u (length coefficients) input output && memory in
    let few = leb (input / u.settings.frame) most_frames in
    let p = both_let_by (judged m u slices few (not u.held.busy)) (judged_given t coefficients []) e in
    let d = told m u slices few (not u.held.busy) p.0 in
    let l = split_and (frames_ok m u (length coefficients) input output) memory d.slices_ok in
    let g = split_and _ _ l.0 in
    let io = split_and _ _ g.1 in
    let sw = split_and (store_ok m u store) (work_ok m u work) l.1 in
    let times = needed (times_ok t) (Err BadTime) _ refl p.1 in
    record {
      range = d.range;
      free = not-true u.held.busy d.on_turn;
      given = eqb-true _ _ g.0;
      whole = eqb-true _ _ io.0;
      beside = eqb-true _ _ io.1;
      few = leb-true _ _ d.line_ok;
      rings = eqb-true _ _ sw.0;
      rows = eqb-true _ _ sw.1;
      times = times.0;
      finite = (needed (all_finite coefficients) (Err BadCoefficient) _ refl times.1).0;
    }

-- an apply of a unit in range with no frame open, with such times and coefficients and all lengths right, is judged by 8 alone
pub eight_due : (m : Model) (u : UnitState) (t : Times) (coefficients input : List Float) (store work output : ℕ) → in_range m u ≡ true → u.held.busy ≡ false
    → length coefficients ≡ coefficients_len m → length input ≡ u.settings.frame → times_ok t ≡ true → all_finite coefficients ≡ true
    → lent_ok m u store work output ≡ true → judged_apply m u t coefficients input store work output ≡ bad_input (first_bad input)
unfolding judged judged_given
eight_due m u t coefficients input store work output range free given row times finite lent =
    let slices : (given_ok m u (length coefficients) (length input) && lent_ok m u store work output) ≡ true = join_and (join_and (eq-eqb _ _ given) (eq-eqb _ _ row)) lent in
    rw (range, slices, free, times, finite) refl

-- of the wall unit, there is room for the first of them besides
pub record FramesFit (u : UnitState) (t : Times) (coefficients : List Float) (input store work output : ℕ) : Type 0 where
  pub what : FramesLetBy wall u t coefficients input store work output
  pub sizes : (rate_ok u.settings.rate && frame_ok u.settings.frame) ≡ true
  pub count : count_of t u.settings.rate u.settings.frame ≡ tail_count t u.settings.rate u.settings.frame
  pub room : room_ok wall u.settings.frame (unit_rings wall u) store work u.settings.frame ≡ true
  pub holds : u.settings.frame ≤ work

pub frames_fit : (u : UnitState) (t : Times) (coefficients : List Float) (input store work output : ℕ)
    → judged_frames wall u t coefficients input store work output ≡ Accepted → FramesFit u t coefficients input store work output
frames_fit u t coefficients input store work output e =
    let h = frames_let_by wall u t coefficients input store work output e in
    let d = due_of u _ _ (not u.held.busy) (both_let_by _ (judged_given t coefficients []) e).0 in
    let same = eq-eqb u.settings.frame u.settings.frame refl in
    record {
      what = h;
      sizes = d.sizes;
      count = rw (d.sizes, h.times) refl;
      room = room_of u store work u.settings.frame d (join_and (eq-eqb _ _ h.rings) (join_and (eq-eqb _ _ h.rows) same));
      holds = work_holds u.settings.frame work h.rows;
    }

-- what room for a frame says of a unit's rings and of the memory lent
pub room_told : (u : UnitState) (store work output : ℕ) → room_ok wall u.settings.frame (unit_rings wall u) store work output ≡ true
    → (rings_in (unit_rings wall u) ≡ true) × (lent_ok wall u store work output ≡ true)
unfolding room_ok
room_told u store work output room =
    let a = split_and (frame_ok u.settings.frame) _ room in
    let b = split_and (rings_hold u.settings.frame (lengths wall u) && passes_are wall wall.pass_lengths) _ a.1 in
    split_and (rings_in (unit_rings wall u)) _ b.1

-- a unit that differs from a u that is in range in its cursors, its filters and its count alone, where there is room for a frame on its rings
pub still_in_range : (u v : UnitState) → v.settings ≡ u.settings → v.held ≡ u.held → in_range wall u ≡ true → rings_in (unit_rings wall v) ≡ true
    → in_range wall v ≡ true
unfolding in_range blank_open
still_in_range u v s h range rings =
    let p = split_and _ _ range in
    let q = split_and (cursors_in (lengths wall u) u.cursors.lines && cursors_in wall.pass_lengths u.cursors.passes) _ p.1 in
    let sizes : (rate_ok v.settings.rate && frame_ok v.settings.frame) ≡ true = rw s p.0 in
    let held : (v.held.busy || blank_open v) ≡ true = rw h q.1 in
    join_and sizes (join_and rings held)
