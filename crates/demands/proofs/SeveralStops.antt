-- Where several frames at once stop: the frame that is refused is judged by 8 and 9 alone, since no frame done takes back what 1 to 7 found.
-- Assumes nothing.
use Rattle.std.specs.Prelude.{Err}
use Prim.Native.Nat.{ℕ, zero, suc, ◌*◌, ◌/◌, ◌≤◌}
use mathlib.Core.Path.{◌≡◌, refl, sym, ap, ◌∙◌}
use mathlib.Core.Bool.{true, false, ◌&&◌}
use mathlib.Core.List.{List}
use native.Mathlib.Nat.{suc-mul}
use native.Mathlib.Omega.{arith}
use borrow.Author.Tests.{eq-eqb}
use lib.Ieee.{Float}
use lib.IntN.{ℤ}
use lib.ListN.{length, take, drop, length-drop, length-replicate}
use lib.Seq.{take_all}
use Rattle.samples.specs.declared.Refusal.TheVariants.{NotFinite}
use Rattle.samples.specs.Answers.{accepted}
use Rattle.samples.specs.Binary32.{+0}
use Rattle.samples.specs.Sizes.{rate_ok, frame_ok}
use Rattle.samples.proofs.Laws.{split_and, join_and, accept_no}
use Rattle.samples.proofs.Rows.{row_long}
use Rattle.search.specs.Search.{first_bad}
use Rattle.bands.specs.declared.Times.{Times}
use Rattle.iir.specs.declared.Filter.{Filter}
use Rattle.unit.specs.UnitState.{UnitState}
use Rattle.unit.specs.Layout.{Model, lengths, total, store_len, allpass_in}
use Rattle.unit.specs.Range.{cursors_in, blank_open, in_range}
use Rattle.unit.specs.Room.{unit_rings}
use Rattle.judges.specs.Judges.{judged_apply, bad_input}
use Rattle.judges.proofs.Fits.{eight_due}
use Rattle.stages.specs.Frame.{frame_in}
use Rattle.stages.specs.Settle.{settled}
use Rattle.stages.proofs.RowLaws.{length-put_rows}
use Rattle.stages.proofs.Within.{cursors_moved}
use Rattle.machine.specs.Ending.{Memory}
use Rattle.machine.specs.Whole.{Play, apply, filters_for, frame_for, count_for, moved_on, kept}
use Rattle.machine.specs.Several.{Several, singly}
use Rattle.demands.specs.Several.{StoppedIn, StoppedWith}
use Rattle.demands.proofs.LineRings.{lines_long, lines_held}
use Rattle.demands.proofs.SeveralLeaves.{first, due, singly_either}
use Rattle.demands.proofs.SeveralAll.{Playable, Suits, frames_let_by}
use Rattle.demands.proofs.AnyOrderFrame.{rings_long}
use Rattle.demands.proofs.AnyOrderMarks.{true≢false}

-- ---- a frame done leaves a unit on which the next is judged alike

range_moved : (m : Model) (u : UnitState) (filters : List Filter) (count : ℤ) → in_range m u ≡ true → in_range m (moved_on m u filters count) ≡ true
unfolding in_range blank_open
range_moved m u filters count e =
    let f = u.settings.frame in
    let p = split_and (rate_ok u.settings.rate && frame_ok f) _ e in
    let q = split_and (cursors_in (lengths m u) u.cursors.lines && cursors_in m.pass_lengths u.cursors.passes) _ p.1 in
    let r = split_and (cursors_in (lengths m u) u.cursors.lines) _ q.0 in
    let lines = cursors_moved f (lengths m u) u.cursors.lines r.0 in
    let passes = cursors_moved f m.pass_lengths u.cursors.passes r.1 in
    join_and p.0 (join_and (join_and lines passes) q.1)

module _ (m : Model) (four : length m.pass_lengths ≡ 4) (w : Memory) (h : Playable m w) (p : Play) where
  abbrev u : UnitState
  u = w.unit

  abbrev ls : List ℕ
  ls = lengths m u

  rings_kept : length (frame_for m u p w.store).output.rings ≡ total m.pass_lengths
  unfolding frame_in store_len
  rings_kept =
      rings_long m.lines u.settings.frame m.divisor m.pass_lengths u.cursors.passes (filters_for m u p) (allpass_in ls w.store) _ four
      (simp length-drop (omega (arith, h.lent.long)))

  store_kept : (rows rings : List Float) → length rings ≡ total m.pass_lengths
      → length (settled m.lines u.settings.frame (unit_rings m u) rows rings w.store) ≡ store_len m ls
  unfolding store_len
  store_kept rows rings e =
      length-put_rows u.settings.frame ls u.cursors.lines m.lines 0 rows rings w.store (lines_held m u (length w.store) (omega (arith, h.lent.long)))
      ∙ rw (take_all m.lines ls (omega (arith, lines_long m u)), e) refl

  playable_next : Playable m (kept m w (frame_for m u p w.store) (count_for u p)).memory
  playable_next = record {
    lent = record { range = range_moved m u _ _ h.lent.range; long = store_kept _ _ rings_kept };
    free = h.free;
    work = length-replicate (length w.work) +0 ∙ h.work;
  }

-- ---- judged by 8 alone

eight_alone : (m : Model) (w : Memory) (t : Times) (coefficients input output : List Float) → Playable m w → Suits m t coefficients
    → length input ≡ w.unit.settings.frame → length output ≡ w.unit.settings.frame
    → judged_apply m w.unit t coefficients input (length w.store) (length w.work) (length output) ≡ bad_input (first_bad input)
eight_alone m w t coefficients input output h g i o =
    eight_due m w.unit t coefficients input (length w.store) (length w.work) (length output) h.lent.range h.free g.long i g.times g.finite
    (join_and (eq-eqb _ _ h.lent.long) (join_and (eq-eqb _ _ h.work) (eq-eqb _ _ o)))

-- ---- n frames

-- those behind the first
rest_long : (f n : ℕ) (xs : List Float) → suc n * f ≤ length xs → n * f ≤ length (drop f xs)
rest_long f n xs h = simp length-drop (omega (arith, suc-mul n f))

abbrev Stops : ℕ → ℕ → List Float → Several → Type 0
Stops f n input x = accepted x.ending.answer ≡ false → StoppedIn f n input x

module _ (m : Model) (four : length m.pass_lengths ≡ 4) (t : Times) (coefficients : List Float) (g : Suits m t coefficients) where
  singly_stops : (n : ℕ) (w : Memory) (input output : List Float) → let f = w.unit.settings.frame in
      Playable m w → n * f ≤ length input → n * f ≤ length output → Stops f n input (singly m t coefficients f n w input output)
  unfolding singly
  singly_stops zero w input output h i o = λ r. absurd (true≢false r)
  singly_stops (suc n) w input output h i o =
      let f = w.unit.settings.frame in
      let p = apply t coefficients (take f input) in
      let bad = bad_input (first_bad (take f input)) in
      let v = (first m t coefficients f n w input output).memory in
      let eight : due m t coefficients f n w input output ≡ bad =
      eight_alone m w t coefficients (take f input) (take f output) h g (row_long f (suc n) 0 input (omega arith) i) (row_long f (suc n) 0 output (omega arith) o) in
      singly_either m t coefficients f n w input output (Stops f (suc n) input)
      (λ d r.
      let s = singly_stops n v (drop f input) (drop f output) (playable_next m four w h p) (rest_long f n input i) (rest_long f n output o) r in
      record { early = omega (arith, s.early); answered = s.answered; verdict = s.verdict })
      (λ d r. record { early = omega arith; answered = rw (sym eight ∙ d) refl; verdict = refl })
      (λ q r. record { early = omega arith; answered = eight ∙ sym (accept_no bad (Err NotFinite) bad (ap accepted (sym eight) ∙ q)); verdict = refl })

pub stopped_with : StoppedWith
stopped_with m four w t coefficients input output e =
    let f = w.unit.settings.frame in
    let h = frames_let_by m w t coefficients input output e in
    rw e (singly_stops m four t coefficients h.suits (length input / f) w input output h.playable (omega (arith, h.frames)) (omega (arith, h.frames, h.beside)))
