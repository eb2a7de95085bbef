-- Demand 1's finiteness: each call keeps all kept numbers finite, whatever its arguments. Assumes nothing.
use Prim.Native.Nat.{ℕ, zero, suc, ◌+◌}
use mathlib.Core.Path.{◌≡◌, refl, sym, ◌∙◌}
use mathlib.Core.Bool.{Bool, true, false, cond}
use mathlib.Core.List.{List, [], ◌∷◌}
use lib.Ieee.{Float, of_bits}
use lib.ListN.{length, get_or, take, drop, replicate}
use Rattle.samples.specs.Binary32.{finite}
use Rattle.samples.specs.Lists.{all_from}
use Rattle.search.specs.Search.{all_finite}
use Rattle.samples.proofs.Laws.{split_and, join_and}
use Rattle.search.proofs.Finite.{finite-all, finite-append, finite-zeros, finite_cut}
use Rattle.delay.specs.declared.Cursors.{Cursors}
use Rattle.delay.specs.Calls.{both}
use Rattle.delay.specs.Ring.{write}
use Rattle.delay.proofs.Laws.{all-write, accept_either}
use Rattle.iir.specs.declared.Filter.{Filter}
use Rattle.iir.specs.Nine.{nine, finite_filter}
use Rattle.unit.specs.UnitState.{UnitState}
use Rattle.unit.specs.Layout.{Model, filters_len}
use Rattle.unit.specs.Fresh.{blank}
use Rattle.judges.specs.Judges.{judged_fresh}
use Rattle.stages.specs.Frame.{Frame, new_filters}
use Rattle.stages.specs.Settle.{filters_finite, frame_finite, put_rows}
use Rattle.rows.specs.Rows.{Rows, rows_of}
use Rattle.frame.specs.Parts.{rows_finite}
use Rattle.machine.specs.Ending.{Memory, Ending}
use Rattle.machine.specs.Whole.{begun, Play, frame_for, at_once}
use Rattle.machine.proofs.Cases.{whole_either, close-either}
use Rattle.machine.proofs.SeveralCases.{several_keeps}
use Rattle.machine.specs.Jobs.{job_filters}
use Rattle.machine.specs.Calls.{ending, Call, reset, whole, frames, start, job, close, abandon, answer, after}
use Rattle.machine.specs.Requests.{Slice, own, other, lent, left, Request, fresh, ask, seen, request}
use Rattle.machine.specs.Runs.{Event, anew, asked, afresh, run}
use Rattle.demands.specs.Demands.{kept_filters, KeptNumbers, KeptFinite}
use Rattle.judges.proofs.Fits.{told}
use Rattle.demands.proofs.Lent.{whole_lent, close_lent, job_busy}
use Rattle.demands.proofs.AnyOrderOpen.{opened_told}

-- ---- what is put into finite rings leaves them finite

finite-write : (ring xs : List Float) (k : ℕ) → all_finite ring ≡ true → all_finite xs ≡ true → all_finite (write ring k xs) ≡ true
finite-write ring xs k p q =
    finite-all 0 (write ring k xs) ∙ all-write finite ring k xs (sym (finite-all 0 ring) ∙ p) (sym (finite-all 0 xs) ∙ q)

finite_put : (f n i : ℕ) (ls : List ℕ) (cs : List Cursors) (rows rings store : List Float)
    → all_finite rows ≡ true → all_finite rings ≡ true → all_finite store ≡ true → all_finite (put_rows f n i ls cs rows rings store) ≡ true
unfolding put_rows
finite_put f zero i ls cs rows rings store p q s = q
finite_put f (suc n) i ls cs rows rings store p q s =
    let cut = finite_cut (get_or ls i 0) store s in
    let row = finite_cut f rows p in
    finite-append (write (take (get_or ls i 0) store) (get_or cs i (both 0)).write.0 (take f rows)) (put_rows f n (i + 1) ls cs (drop f rows) rings (drop (get_or ls i 0) store))
    ∙ join_and (finite-write (take (get_or ls i 0) store) (take f rows) (get_or cs i (both 0)).write.0 cut.0 row.0)
    (finite_put f n (i + 1) ls cs (drop f rows) rings (drop (get_or ls i 0) store) row.1 q cut.1)

-- ---- a frame that is not answered 9

pub record Finite (r : Frame) : Type 0 where
  pub filters : filters_finite (new_filters r) ≡ true
  pub put : all_finite r.lines.put ≡ true
  pub rings : all_finite r.output.rings ≡ true

judged-finite : (r : Frame) → frame_finite r ≡ true → Finite r
unfolding frame_finite
judged-finite r e =
    let p = split_and _ _ e in
    let q = split_and _ _ p.1 in
    record { filters = p.0; put = q.0; rings = (split_and (all_finite r.output.out) (all_finite r.output.rings) q.1).1 }

-- and the rows of a close that is not
pub record FiniteRows (fs : List Filter) (r : Rows) : Type 0 where
  pub filters : filters_finite fs ≡ true
  pub put : all_finite r.mixed ≡ true
  pub rings : all_finite r.rings ≡ true

rows_finite_lem : (fs : List Filter) (r : Rows) → rows_finite fs r ≡ true → FiniteRows fs r
unfolding rows_finite
rows_finite_lem fs r e =
    let p = split_and (filters_finite fs) _ e in
    let q = split_and (all_finite r.mixed) _ p.1 in
    record { filters = p.0; put = q.0; rings = (split_and (all_finite r.output) (all_finite r.rings) q.1).1 }

-- ---- the filters, whatever the call is lent

abbrev Fine : UnitState → Type 0
Fine u = filters_finite (kept_filters u) ≡ true

finite-blank : (n k : ℕ) → all_from (λ i f. finite_filter f) k (replicate n blank) ≡ true
unfolding nine finite of_bits
finite-blank zero k = refl
finite-blank (suc n) k = finite-blank n (suc k)

fresh_fine : (m : Model) (w : Memory) (rate frame : ℕ) → Fine (afresh m w rate frame).unit
unfolding filters_finite
fresh_fine m w rate frame =
    accept_either (λ (v : Memory). Fine v.unit) (judged_fresh m rate frame (length w.store))
    (λ e. finite-blank (filters_len m) 0)
    (λ n. finite-blank (filters_len m) 0)

module _ (m : Model) where
  -- with a frame open they are those from before it, and else the unit's
  from_before : (u : UnitState) → u.held.busy ≡ true → Fine u → filters_finite u.held.before ≡ true
  from_before u b h = rw b at h

  now : (u : UnitState) → u.held.busy ≡ false → Fine u → filters_finite u.filters ≡ true
  now u b h = rw b at h

  fine_now : (b : Bool) (before filters : List Filter) → b ≡ false → filters_finite filters ≡ true → filters_finite (cond b before filters) ≡ true
  fine_now b before filters e h = rw e h

  fine_before : (b : Bool) (before filters : List Filter) → b ≡ true → filters_finite before ≡ true → filters_finite (cond b before filters) ≡ true
  fine_before b before filters e h = rw e h

  abbrev FineIn : Memory → Type 0
  FineIn w = Fine w.unit

  whole_fine : (w : Memory) (p : Play) (output : List Float) → FineIn w → FineIn (at_once m w p output).memory
  whole_fine w p output h =
      let u = w.unit in
      whole_either m w output (λ (x : Ending). FineIn x.memory) p
      (λ d q.
      let free = (whole_lent m u (length w.store) (length w.work) (length output) p d).free in
      fine_now u.held.busy u.held.before _ free (judged-finite (frame_for m u p w.store) q).filters)
      (λ d q. h)
      (λ n. h)

  call_fine : (w : Memory) (c : Call) → FineIn w → FineIn (after m w c)
  unfolding ending
  call_fine w reset h = accept_either FineIn (answer m w reset) (λ e. h) (λ n. h)
  call_fine w (whole p output) h = whole_fine w p output h
  call_fine w (frames t coefficients input output) h = several_keeps m FineIn whole_fine t coefficients w input output h
  call_fine w (start p) h = accept_either FineIn (answer m w (start p)) (λ e. now w.unit (opened_told m w p e).free h) (λ n. h)
  call_fine w (job j) h =
      accept_either FineIn (answer m w (job j))
      (λ e.
      let busy = job_busy m w j e in
      fine_before w.unit.held.busy w.unit.held.before (job_filters m w j) busy (from_before w.unit busy h))
      (λ n. h)
  call_fine w (close output) h =
      let u = w.unit in
      close-either m w output (λ (x : Ending). FineIn x.memory)
      (λ d q. (rows_finite_lem u.filters (rows_of m.lines u.settings.frame w.work) q).filters)
      (λ d q. from_before u (close_lent m u (length w.store) (length w.work) (length output) d).busy h)
      (λ n. h)
  call_fine w abandon h =
      accept_either FineIn (answer m w abandon) (λ e. from_before w.unit (told m w.unit _ _ w.unit.held.busy e).on_turn h) (λ n. h)

  -- ---- those held for an open frame

  abbrev HeldIn : Memory → Type 0
  HeldIn w = filters_finite w.unit.held.before ≡ true

  none_held : filters_finite (replicate (filters_len m) blank) ≡ true
  unfolding filters_finite
  none_held = finite-blank (filters_len m) 0

  whole_held : (w : Memory) (p : Play) (output : List Float) → HeldIn w → HeldIn (at_once m w p output).memory
  whole_held w p output h = whole_either m w output (λ (x : Ending). HeldIn x.memory) p (λ d q. h) (λ d q. h) (λ n. h)

  call_held : (w : Memory) (c : Call) → FineIn w → HeldIn w → HeldIn (after m w c)
  unfolding ending
  call_held w reset f h = accept_either HeldIn (answer m w reset) (λ e. h) (λ n. h)
  call_held w (whole p output) f h = whole_held w p output h
  call_held w (frames t coefficients input output) f h = several_keeps m HeldIn whole_held t coefficients w input output h
  call_held w (start p) f h = accept_either HeldIn (answer m w (start p)) (λ e. now w.unit (opened_told m w p e).free f) (λ n. h)
  call_held w (job j) f h = accept_either HeldIn (answer m w (job j)) (λ e. h) (λ n. h)
  call_held w (close output) f h =
      close-either m w output (λ (x : Ending). HeldIn x.memory) (λ d q. none_held) (λ d q. none_held) (λ n. h)
  call_held w abandon f h = accept_either HeldIn (answer m w abandon) (λ e. none_held) (λ n. h)

  -- ---- the store that a call is lent

  silent-kept : (rate frame : ℕ) (store : List Float) → all_finite store ≡ true → all_finite (begun m rate frame store).memory.store ≡ true
  silent-kept rate frame store h =
      accept_either (λ (v : Memory). all_finite v.store ≡ true) (judged_fresh m rate frame (length store)) (λ e. finite-zeros (length store)) (λ n. h)

  abbrev Sound : Memory → Type 0
  Sound v = all_finite v.store ≡ true

  whole_finite : (w : Memory) (p : Play) (output : List Float) → Sound w → Sound (at_once m w p output).memory
  whole_finite w p output h =
      let r = frame_for m w.unit p w.store in
      whole_either m w output (λ (x : Ending). Sound x.memory) p
      (λ d q. let k = judged-finite r q in finite_put _ _ 0 _ _ r.lines.put r.output.rings w.store k.put k.rings h)
      (λ d q. h)
      (λ n. h)

  call_finite : (w : Memory) (c : Call) → Sound w → Sound (after m w c)
  unfolding ending
  call_finite w reset h = accept_either Sound (answer m w reset) (λ e. finite-zeros (length w.store)) (λ n. h)
  call_finite w (whole p output) h = whole_finite w p output h
  call_finite w (frames t coefficients input output) h = several_keeps m Sound whole_finite t coefficients w input output h
  call_finite w (start p) h = accept_either Sound (answer m w (start p)) (λ e. h) (λ n. h)
  call_finite w (job j) h = accept_either Sound (answer m w (job j)) (λ e. h) (λ n. h)
  call_finite w (close output) h =
      let r = rows_of m.lines w.unit.settings.frame w.work in
      close-either m w output (λ (x : Ending). Sound x.memory)
      (λ d q. let k = rows_finite_lem w.unit.filters r q in finite_put _ _ 0 _ _ r.mixed r.rings w.store k.put k.rings h)
      (λ d q. h)
      (λ n. h)
  call_finite w abandon h = accept_either Sound (answer m w abandon) (λ e. h) (λ n. h)

  fresh_held : (w : Memory) (rate frame : ℕ) → HeldIn (afresh m w rate frame)
  fresh_held w rate frame = accept_either HeldIn (judged_fresh m rate frame (length w.store)) (λ e. none_held) (λ n. none_held)

  -- ---- the unit's own store, whatever is lent

  own_finite : (s : Slice) (new mine : List Float) → (all_finite (lent s mine) ≡ true → all_finite new ≡ true) → all_finite mine ≡ true
      → all_finite (left s new mine) ≡ true
  own_finite own new mine f h = f h
  own_finite (other xs) new mine f h = h

  request-kept : (w : Memory) (r : Request) → KeptNumbers w → KeptNumbers (request m w r)
  unfolding request
  request-kept w (fresh rate frame s) h = record {
    store = own_finite s _ w.store (silent-kept rate frame (lent s w.store)) h.store;
    filters = h.filters;
    before = h.before;
  }
  request-kept w (ask c s k) h = record {
    store = own_finite s _ w.store (call_finite (seen w s k) c) h.store;
    filters = call_fine (seen w s k) c h.filters;
    before = call_held (seen w s k) c h.filters h.before;
  }

  run-kept : (w : Memory) (es : List Event) → KeptNumbers w → KeptNumbers (run m w es)
  unfolding run
  run-kept w [] h = h
  run-kept w (anew rate frame ∷ es) h =
      run-kept (afresh m w rate frame) es
      (record { store = silent-kept rate frame w.store h.store; filters = fresh_fine m w rate frame; before = fresh_held w rate frame })
  run-kept w (asked r ∷ es) h = run-kept (request m w r) es (request-kept w r h)

pub kept-finite : KeptFinite
kept-finite m w rate frame e es =
    run-kept m (afresh m w rate frame) es (record { store = rw e (finite-zeros (length w.store)); filters = fresh_fine m w rate frame; before = fresh_held m w rate frame })
