-- What an accepted call tells of the unit and of what it was lent. Assumes nothing.
use Rattle.std.specs.Prelude.{Err}
use Prim.Native.Nat.{ℕ, ◌*◌, ◌<◌}
use mathlib.Core.Path.{◌≡◌, refl, sym}
use mathlib.Core.Bool.{Bool, true, false, not, ◌&&◌}
use mathlib.Core.List.{List}
use native.Mathlib.Nat.{zero-add}
use borrow.Author.Tests.{ltb-true, eqb-true}
use lib.Dec.{eqb}
use lib.Ieee.{Float}
use lib.ListN.{length, get_or, length-replicate}
use Rattle.samples.specs.declared.Refusal.TheVariants.{BadSize, BadLength}
use Rattle.samples.specs.Answers.{Answer, Accepted, or_else}
use Rattle.samples.specs.Binary32.{+0}
use Rattle.samples.specs.Sizes.{rate_ok, frame_ok}
use Rattle.samples.proofs.Laws.{split_and, needed, all_at}
use Rattle.delay.specs.declared.Cursors.{Cursors}
use Rattle.delay.specs.Calls.{both}
use Rattle.delay.proofs.Laws.{accept_either}
use Rattle.unit.specs.UnitState.{UnitState}
use Rattle.unit.specs.Layout.{Model, lengths, store_len, work_len, coefficients_len}
use Rattle.unit.specs.Fresh.{fresh_unit}
use Rattle.unit.specs.Range.{in_range, below, cursors_in}
use Rattle.unit.specs.Room.{lent_ok}
use Rattle.judges.specs.Judges.{judged_fresh, judged_reset, judged_given, given_ok, store_ok, work_ok}
use Rattle.judges.proofs.Fits.{told}
use Rattle.stages.specs.Frame.{frame_in}
use Rattle.stages.proofs.FrameLaws.{put_beside}
use Rattle.judges.specs.Marks.{all_done}
use Rattle.judges.specs.Turns.{judged_close}
use Rattle.machine.specs.Ending.{Memory}
use Rattle.machine.specs.Jobs.{Job, read_job, mix_job, line_job, output_job, job_due}
use Rattle.machine.specs.Whole.{Play, apply, tail, is_tail, filters_for, input_for, frame_for, whole_due}

-- the first of two judgements, and the second
pub or_first : (a b : Answer) → or_else a b ≡ Accepted → a ≡ Accepted
or_first a b e = accept_either (λ (x : Answer). x ≡ Accepted → a ≡ Accepted) a {new = b} {old = a} (λ p q. p) (λ n q. q) e

pub or_second : (a b : Answer) → or_else a b ≡ Accepted → b ≡ Accepted
or_second a b e = let p = or_first a b e in rw p at e

pub not_is : (b : Bool) → not b ≡ true → b ≡ false
not_is true e = sym e
not_is false e = refl

-- ---- the store

pub fresh_long : (m : Model) (rate frame store : ℕ) → judged_fresh m rate frame store ≡ Accepted → store ≡ store_len m (lengths m (fresh_unit m rate frame))
unfolding judged_fresh
fresh_long m rate frame store e =
    let p = needed (rate_ok rate && frame_ok frame) (Err BadSize) _ refl e in
    eqb-true _ _ (needed _ (Err BadLength) Accepted refl p.1).0

-- the unit is in range, and the store holds all its rings
pub record Lent (m : Model) (u : UnitState) (store : ℕ) : Type 0 where
  pub range : in_range m u ≡ true
  pub long : store ≡ store_len m (lengths m u)

module _ (m : Model) (u : UnitState) (store : ℕ) where
  pub reset_lent : judged_reset m u store ≡ Accepted → Lent m u store × (u.held.busy ≡ false)
  reset_lent e =
      let t = told m u (store_ok m u store) true (not u.held.busy) e in
      (record { range = t.range; long = eqb-true _ _ t.slices_ok }, not_is _ t.on_turn)

  module _ (work output : ℕ) where
    -- a whole call
    pub record Played (p : Play) : Type 0 where
      pub lent : Lent m u store
      pub free : u.held.busy ≡ false
      pub input : length (input_for u p) ≡ u.settings.frame

    pub whole_lent : (p : Play) → whole_due m u p store work output ≡ Accepted → Played p
    whole_lent (apply t coefficients input) e =
        let given = given_ok m u (length coefficients) (length input) in
        let slices = lent_ok m u store work output in
        let d = told m u (given && slices) true (not u.held.busy) (or_first _ (judged_given t coefficients input) e) in
        let q = split_and given slices d.slices_ok in
        let r = split_and (eqb (length coefficients) (coefficients_len m)) (eqb (length input) u.settings.frame) q.0 in
        record {
          lent = record { range = d.range; long = eqb-true _ _ (split_and (store_ok m u store) _ q.1).0 };
          free = not_is _ d.on_turn;
          input = eqb-true _ _ r.1;
        }
    whole_lent tail e =
        let d = told m u (lent_ok m u store work output) true (not u.held.busy) e in
        record {
          lent = record { range = d.range; long = eqb-true _ _ (split_and (store_ok m u store) _ d.slices_ok).0 };
          free = not_is _ d.on_turn;
          input = length-replicate u.settings.frame +0;
        }

    -- a close
    pub record Closed : Type 0 where
      pub lent : Lent m u store
      pub busy : u.held.busy ≡ true
      pub done : all_done u.held.marks ≡ true
      pub work_long : work ≡ work_len m u.settings.frame
      pub output_long : output ≡ u.settings.frame

    pub close_lent : judged_close m u store work output ≡ Accepted → Closed
    close_lent e =
        let d = told m u (lent_ok m u store work output) true (u.held.busy && all_done u.held.marks) e in
        let q = split_and (store_ok m u store) _ d.slices_ok in
        let r = split_and (work_ok m u work) _ q.1 in
        let t = split_and u.held.busy (all_done u.held.marks) d.on_turn in
        record {
          lent = record { range = d.range; long = eqb-true _ _ q.0 };
          busy = t.0;
          done = t.1;
          work_long = eqb-true _ _ r.0;
          output_long = eqb-true _ _ r.1;
        }

-- a whole call's rows to put are as long as those read
pub whole_put : (m : Model) (u : UnitState) (p : Play) (store : List Float) → length (input_for u p) ≡ u.settings.frame
    → length (frame_for m u p store).lines.put ≡ m.lines * u.settings.frame
unfolding frame_in
whole_put m u p store e =
    put_beside m.lines u.settings.frame m.factor (filters_for m u p) (input_for u p) (frame_for m u p store).reads (is_tail p) e

-- ---- a job and an abandon: a frame is open

pub job_busy : (m : Model) (w : Memory) (j : Job) → job_due m w j ≡ Accepted → w.unit.held.busy ≡ true
job_busy m w (read_job i) e = (split_and w.unit.held.busy _ (told m w.unit _ _ _ e).on_turn).0
job_busy m w mix_job e = (split_and w.unit.held.busy _ (told m w.unit _ _ _ e).on_turn).0
job_busy m w (line_job i) e = (split_and w.unit.held.busy _ (told m w.unit _ _ _ e).on_turn).0
job_busy m w output_job e = (split_and w.unit.held.busy _ (told m w.unit _ _ _ e).on_turn).0

-- ---- the cursors of line i

abbrev pub cursors : UnitState → ℕ → Cursors
cursors u i = get_or u.cursors.lines i (both 0)

pub within : (m : Model) (u : UnitState) (i : ℕ) → in_range m u ≡ true → i < length u.cursors.lines → (cursors u i).read.0 < get_or (lengths m u) i 0
unfolding in_range cursors_in below
within m u i e h =
    let p = split_and (rate_ok u.settings.rate && frame_ok u.settings.frame) _ e in
    let q = split_and (cursors_in (lengths m u) u.cursors.lines && cursors_in m.pass_lengths u.cursors.passes) _ p.1 in
    let r = split_and (cursors_in (lengths m u) u.cursors.lines) _ q.0 in
    let c = rw zero-add at (all_at (λ j c. below (get_or (lengths m u) j 0) c) u.cursors.lines 0 i (both 0) h r.0) in
    ltb-true _ _ (split_and _ _ c).0
