-- What an accepted open tells, and the memory that it gives: that with no mark. Assumes nothing.
use mathlib.Core.Path.{◌≡◌, refl, sym, ap, subst, ◌∙◌}
use mathlib.Core.Bool.{Bool, true, false, not, ◌&&◌}
use mathlib.Core.List.{List}
use borrow.Author.Tests.{eqb-true, eq-eqb}
use lib.Dec.{eqb}
use lib.Ieee.{Float}
use lib.ListN.{length, replicate, length-replicate}
use Rattle.samples.specs.Answers.{Answer, Accepted, accept}
use Rattle.samples.specs.Binary32.{+0}
use Rattle.samples.specs.Sizes.{rate_ok, frame_ok}
use Rattle.samples.proofs.Laws.{split_and, join_and, frame_of}
use Rattle.iir.specs.declared.Filter.{Filter}
use Rattle.unit.specs.UnitState.{UnitState}
use Rattle.unit.specs.Layout.{Model, lengths, store_len, work_len, filters_len, coefficients_len, jobs_len}
use Rattle.unit.specs.Range.{in_range, cursors_in}
use Rattle.unit.specs.Room.{lent_ok}
use Rattle.judges.specs.Judges.{judged, store_ok, work_ok, given_ok, judged_given}
use Rattle.stages.specs.Frame.{Frame}
use Rattle.stages.proofs.RowLaws.{length-filters_of}
use Rattle.machine.specs.Whole.{Play, apply, tail, is_tail, filters_for, input_for, count_for, whole_due}
use Rattle.machine.specs.Jobs.{memory_opened}
use Rattle.machine.specs.Ending.{Memory}
use Rattle.machine.specs.Calls.{ending, start, answer, after}
use Rattle.machine.specs.Requests.{Request}
use Rattle.demands.specs.AnyOrder.{Between, Begins, worked}
use Rattle.judges.proofs.Fits.{told}
use Rattle.demands.proofs.Lent.{or_first, or_second, not_is}
use Rattle.demands.proofs.AnyOrderMarks.{legal_none}
use Rattle.demands.proofs.AnyOrderAt.{Opening, frame_at, Fit, unit_with, memory_at}
use Rattle.demands.proofs.AnyOrderJobs.{none_filters, none_work}
use Rattle.demands.proofs.AnyOrderRequests.{Goes, order}

-- ---- an accepted open

abbrev pub opening_of : Model → Memory → Play → Opening
opening_of m w p = record {
  unit = w.unit;
  tail = is_tail p;
  filters = filters_for m w.unit p;
  next = count_for w.unit p;
  input = input_for w.unit p;
  store = w.store;
}

pub all_ok : (m : Model) (u : UnitState) (slices line turn : Bool) → in_range m u ≡ true → slices ≡ true → line ≡ true → turn ≡ true
    → judged m u slices line turn ≡ Accepted
unfolding judged
all_ok m u slices line turn r l i t = rw (r, l, i, t) refl

-- what it tells of the unit and of what was lent; with an output of a frame's length the whole call is as good
pub record Opened (m : Model) (w : Memory) (p : Play) : Type 0 where
  pub range : in_range m w.unit ≡ true
  pub free : w.unit.held.busy ≡ false
  pub store : length w.store ≡ store_len m (lengths m w.unit)
  pub work : length w.work ≡ work_len m w.unit.settings.frame
  pub input : length (input_for w.unit p) ≡ w.unit.settings.frame
  pub due : (output : List Float) → length output ≡ w.unit.settings.frame → whole_due m w.unit p (length w.store) (length w.work) (length output) ≡ Accepted

pub lent_ok_lem : (m : Model) (w : Memory) (output : List Float) → store_ok m w.unit (length w.store) ≡ true → work_ok m w.unit (length w.work) ≡ true
    → length output ≡ w.unit.settings.frame → lent_ok m w.unit (length w.store) (length w.work) (length output) ≡ true
lent_ok_lem m w output s k e = join_and s (join_and k (eq-eqb _ _ e))

pub opened_told : (m : Model) (w : Memory) (p : Play) → answer m w (start p) ≡ Accepted → Opened m w p
unfolding ending
opened_told m w (apply t coefficients input) e =
    let u = w.unit in
    let given = given_ok m u (length coefficients) (length input) in
    let slices = store_ok m u (length w.store) && work_ok m u (length w.work) in
    let first = told m u (given && slices) true (not u.held.busy) (or_first _ (judged_given t coefficients input) e) in
    let q = split_and given slices first.slices_ok in
    let r = split_and (store_ok m u (length w.store)) (work_ok m u (length w.work)) q.1 in
    let i = split_and (eqb (length coefficients) (coefficients_len m)) (eqb (length input) u.settings.frame) q.0 in
    record {
      range = first.range;
      free = not_is u.held.busy first.on_turn;
      store = eqb-true _ _ r.0;
      work = eqb-true _ _ r.1;
      input = eqb-true _ _ i.1;
      due = λ output l.
          let a = all_ok m u (given && lent_ok m u (length w.store) (length w.work) (length output)) true (not u.held.busy) first.range
          (join_and q.0 (lent_ok_lem m w output r.0 r.1 l)) refl first.on_turn in
          rw a (or_second (judged m u (given && slices) true (not u.held.busy)) (judged_given t coefficients input) e);
    }
opened_told m w tail e =
    let u = w.unit in
    let slices = store_ok m u (length w.store) && work_ok m u (length w.work) in
    let first = told m u slices true (not u.held.busy) e in
    let r = split_and (store_ok m u (length w.store)) (work_ok m u (length w.work)) first.slices_ok in
    record {
      range = first.range;
      free = not_is u.held.busy first.on_turn;
      store = eqb-true _ _ r.0;
      work = eqb-true _ _ r.1;
      input = length-replicate u.settings.frame +0;
      due = λ output l.
          all_ok m u (lent_ok m u (length w.store) (length w.work) (length output)) true (not u.held.busy) first.range
          (lent_ok_lem m w output r.0 r.1 l) refl first.on_turn;
    }

module _ (m : Model) (w : Memory) (p : Play) (begins : Begins m w.unit) (e : answer m w (start p) ≡ Accepted) where
  abbrev o : Opening
  o = opening_of m w p

  abbrev u : UnitState
  u = w.unit

  abbrev R : Frame
  R = frame_at m o

  pub tells : Opened m w p
  tells = opened_told m w p e

  filters_long : (p : Play) → length (filters_for m u p) ≡ filters_len m
  filters_long (apply t coefficients input) = length-filters_of (filters_len m) coefficients
  filters_long tail = begins.sized.filters

  pub fit : Fit m o
  unfolding in_range
  fit =
      let sizes = split_and (rate_ok u.settings.rate && frame_ok u.settings.frame) _ tells.range in
      record {
        passes = begins.passes;
        fours = (frame_of u.settings.frame (split_and (rate_ok u.settings.rate) (frame_ok u.settings.frame) sizes.0).1).fours;
        filters = filters_long p;
        input = tells.input;
        store = tells.store;
      }

  -- it gives the memory with no mark
  pub begun : after m w (start p) ≡ memory_at m o (replicate (jobs_len m) false)
  unfolding ending
  begun =
      ap (λ (a : Answer). accept a (memory_opened m w p) w) e
      ∙ (λ t. record { unit = unit_with o (sym (none_filters m o) t) (replicate (jobs_len m) false); store = w.store; work = none_work m o t })

  -- and any requests lead on to the memory at some marks
  pub goes : (rs : List Request) → Between m (after m w (start p)) rs → Goes m o (worked m w p rs)
  goes rs b =
      rw begun (order m o fit rs (replicate (jobs_len m) false) (legal_none m) (subst (λ (v : Memory). Between m v rs) begun b))

  -- the unit is in range as it was
  pub still_in_range : (fs : List Filter) (marks : List Bool) → in_range m (unit_with o fs marks) ≡ true
  unfolding in_range
  still_in_range fs marks =
      let sizes = split_and (rate_ok u.settings.rate && frame_ok u.settings.frame) _ tells.range in
      let cursors = split_and (cursors_in (lengths m u) u.cursors.lines && cursors_in m.pass_lengths u.cursors.passes) _ sizes.1 in
      join_and sizes.0 (join_and cursors.0 refl)
