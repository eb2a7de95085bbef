-- Every unit that calls lead to from a fresh: its lists have their lengths, it is in range, and while no frame is open what is held for one is
-- blank. Assumes nothing.
use Prim.Native.Nat.{ℕ, zero, suc, ◌+◌, ◌*◌, ◌<◌}
use mathlib.Core.Path.{◌≡◌, refl, sym, ap, ◌∙◌}
use mathlib.Core.Bool.{true, false, not, ◌&&◌}
use mathlib.Core.List.{List, [], ◌∷◌}
use native.Mathlib.Nat.{add-zero}
use native.Mathlib.Numerals.{add-one}
use native.Mathlib.Omega.{arith}
use borrow.Author.Tests.{ltb-true, lt-ltb}
use lib.Dec.{ltb}
use lib.IntN.{pos}
use lib.Ieee.{Float, of_bits}
use lib.ListN.{length, get_or, drop, replicate, length-append, length-replicate, length-set}
use lib.Seq.{drop-drop, get_or-drop}
use Rattle.samples.specs.Answers.{Accepted}
use Rattle.samples.specs.Binary32.{plus_zero}
use Rattle.samples.specs.Lists.{all_from}
use Rattle.samples.specs.Sizes.{rate_ok, frame_ok}
use Rattle.samples.proofs.Laws.{split_and, join_and, accept_either, needed, frame_of}
use Rattle.samples.proofs.Lists.{over-length}
use Rattle.delay.specs.Calls.{both}
use Rattle.hadamard.specs.Rows.{mixed_rows}
use Rattle.iir.specs.Nine.{nine}
use Rattle.unit.specs.UnitState.{Settings, UnitState}
use Rattle.unit.specs.Layout.{Model, lengths_from, lengths, filters_len, jobs_len}
use Rattle.unit.specs.Fresh.{blank, no_frame, fresh_unit}
use Rattle.unit.specs.Range.{below, cursors_in, unmarked, blank_filters, blank_open, in_range}
use Rattle.judges.specs.Judges.{judged_fresh}
use Rattle.stages.specs.Frame.{new_filters, frame_in, line_rows, output_row}
use Rattle.stages.specs.Settle.{moved}
use Rattle.stages.proofs.Within.{cursors_moved}
use Rattle.stages.proofs.RowLaws.{length-filters_of, length-band_ends}
use Rattle.rows.specs.Parts.{line_ends}
use Rattle.outputs.specs.Steps.{output_ends}
use Rattle.machine.specs.Ending.{Memory, Ending}
use Rattle.machine.specs.Whole.{counted, Play, apply, tail, filters_for, frame_for, at_once}
use Rattle.machine.specs.Jobs.{Job, read_job, mix_job, line_job, output_job, job_filters, unit_shut}
use Rattle.machine.specs.Calls.{Call, reset, whole, frames, start, job, close, abandon, ending, answer, after}
use Rattle.machine.specs.Requests.{Request, fresh, ask, seen, request}
use Rattle.machine.specs.Runs.{Event, anew, asked, afresh, run}
use Rattle.machine.proofs.Cases.{whole_either, close-either}
use Rattle.machine.proofs.SeveralCases.{several_keeps}
use Rattle.demands.specs.FromFresh.{Built, Reached, StaysInRange}
use Rattle.judges.proofs.Fits.{told}
use Rattle.demands.proofs.Lent.{job_busy, whole_lent}
use Rattle.demands.proofs.LineRings.{length_moved}
use Rattle.demands.proofs.AnyOrderMarks.{true≢false}

-- ---- cursors of rings that have a length: those of a fresh unit are in them

abbrev Some : List ℕ → Type 0
Some ls = all_from (λ i l. ltb 0 l) 0 ls ≡ true

module _ (ls : List ℕ) where
  -- ring k and those after it
  ring_at_lem : (k l : ℕ) (ms : List ℕ) → drop k ls ≡ l ∷ ms → get_or ls k 0 ≡ l
  ring_at_lem k l ms e = sym (get_or-drop k ls 0 0 ∙ ap (λ (j : ℕ). get_or ls j 0) (add-zero k)) ∙ ap (λ (x : List ℕ). get_or x 0 0) e

  next_at : (k l : ℕ) (ms : List ℕ) → drop k ls ≡ l ∷ ms → drop (suc k) ls ≡ ms
  next_at k l ms e = ap (λ (j : ℕ). drop j ls) (sym (add-one k)) ∙ sym (drop-drop 1 k ls) ∙ ap (drop 1) e

  fresh_from : (k j n : ℕ) (ms : List ℕ) → drop k ls ≡ ms → length ms ≡ n → all_from (λ i l. ltb 0 l) j ms ≡ true
      → all_from (λ i c. below (get_or ls i 0) c) k (replicate n (both 0)) ≡ true
  unfolding below
  fresh_from k j zero ms e q s = refl
  fresh_from k j (suc n) [] e q s = absurd (omega arith)
  fresh_from k j (suc n) (l ∷ ms) e q s =
      let here = split_and (ltb 0 l) _ s in
      let first = ap (ltb 0) (ring_at_lem k l ms e) ∙ here.0 in
      join_and (join_and first first) (fresh_from (suc k) (suc j) n ms (next_at k l ms e) (omega arith) here.1)

  pub fresh_in : (n : ℕ) → length ls ≡ n → Some ls → cursors_in ls (replicate n (both 0)) ≡ true
  unfolding cursors_in
  fresh_in n q s = fresh_from 0 0 n ls refl q s

-- the lines of a unit of frames in range
lines_some : (m : Model) (s : Settings) (n i k : ℕ) → 0 < s.frame → (all_from (λ i l. ltb 0 l) k (lengths_from m s n i) ≡ true) × (length (lengths_from m s n i) ≡ n)
unfolding lengths_from
lines_some m s zero i k h = (refl, refl)
lines_some m s (suc n) i k h =
    let rest = lines_some m s n (i + 1) (suc k) h in
    (join_and (lt-ltb 0 (m.delay i + s.frame) (omega arith)) rest.0, ap suc rest.1)

-- ---- filters keep their number

new_long : (m : Model) (u : UnitState) (p : Play) (store : List Float) → length (new_filters (frame_for m u p store)) ≡ filters_len m
unfolding frame_in line_rows output_row
new_long m u p store =
    let r = frame_for m u p store in
    length-append r.lines.filters r.output.filters
    ∙ omega (arith, length-band_ends u.settings.frame m.lines 0 (filters_for m u p) (mixed_rows m.lines u.settings.frame m.factor r.reads))

filters_for_lem : (m : Model) (u : UnitState) (p : Play) → length u.filters ≡ filters_len m → length (filters_for m u p) ≡ filters_len m
filters_for_lem m u (apply t coefficients input) e = length-filters_of (filters_len m) coefficients
filters_for_lem m u tail e = e

job_filters_lem : (m : Model) (w : Memory) (j : Job) → answer m w (job j) ≡ Accepted → length w.unit.filters ≡ filters_len m
    → length (job_filters m w j) ≡ filters_len m
unfolding ending line_ends output_ends output_row
job_filters_lem m w (read_job i) e l = l
job_filters_lem m w mix_job e l = l
job_filters_lem m w (line_job i) e l =
    let b = ltb-true i m.lines (told m w.unit _ _ _ e).line_ok in
    over-length (3 * i) w.unit.filters 3 _ refl (omega arith) ∙ l
job_filters_lem m w output_job e l = over-length (3 * m.lines) w.unit.filters 3 _ refl (omega arith) ∙ l

-- ---- the range by its parts

record Parts (m : Model) (u : UnitState) : Type 0 where
  sizes : (rate_ok u.settings.rate && frame_ok u.settings.frame) ≡ true
  lines : cursors_in (lengths m u) u.cursors.lines ≡ true
  passes : cursors_in m.pass_lengths u.cursors.passes ≡ true

parts : (m : Model) (u : UnitState) → in_range m u ≡ true → Parts m u
unfolding in_range
parts m u e =
    let p = split_and (rate_ok u.settings.rate && frame_ok u.settings.frame) _ e in
    let q = split_and (cursors_in (lengths m u) u.cursors.lines && cursors_in m.pass_lengths u.cursors.passes) _ p.1 in
    let r = split_and (cursors_in (lengths m u) u.cursors.lines) _ q.0 in
    record { sizes = p.0; lines = r.0; passes = r.1 }

-- with a frame open, or with nothing held
open_range : (m : Model) (u : UnitState) → Parts m u → u.held.busy ≡ true → in_range m u ≡ true
unfolding in_range
open_range m u p b = join_and p.sizes (join_and (join_and p.lines p.passes) (rw b refl))

blanks : (n k : ℕ) → all_from (λ i f. nine plus_zero f) k (replicate n blank) ≡ true
unfolding nine plus_zero of_bits
blanks zero k = refl
blanks (suc n) k = blanks n (suc k)

no_marks : (n k : ℕ) → all_from (λ i done. not done) k (replicate n false) ≡ true
no_marks zero k = refl
no_marks (suc n) k = no_marks n (suc k)

free_range : (m : Model) (u : UnitState) → Parts m u → u.held ≡ no_frame m → in_range m u ≡ true
unfolding in_range blank_open unmarked blank_filters
free_range m u p e =
    join_and p.sizes (join_and (join_and p.lines p.passes) (rw e (join_and (no_marks (jobs_len m) 0) (blanks (filters_len m) 0))))

module _ (m : Model) (built : Built m) where
  -- the cursors after a frame
  moved_parts : (u v : UnitState) → Parts m u → v.settings ≡ u.settings → v.cursors ≡ moved m u → Parts m v
  moved_parts u v p s c =
      let f = u.settings.frame in
      record {
        sizes = ap (λ (x : Settings). rate_ok x.rate && frame_ok x.frame) s ∙ p.sizes;
        lines = (λ i. cursors_in (lengths_from m (s i) m.lines 0) (c i).lines) ∙ cursors_moved f (lengths m u) u.cursors.lines p.lines;
        passes = (λ i. cursors_in m.pass_lengths (c i).passes) ∙ cursors_moved f m.pass_lengths u.cursors.passes p.passes;
      }

  same_parts : (u v : UnitState) → Parts m u → v.settings ≡ u.settings → v.cursors ≡ u.cursors → Parts m v
  same_parts u v p s c = record {
    sizes = ap (λ (x : Settings). rate_ok x.rate && frame_ok x.frame) s ∙ p.sizes;
    lines = (λ i. cursors_in (lengths_from m (s i) m.lines 0) (c i).lines) ∙ p.lines;
    passes = (λ i. cursors_in m.pass_lengths (c i).passes) ∙ p.passes;
  }

  -- ---- each call

  fresh_reached : (rate frame : ℕ) → (rate_ok rate && frame_ok frame) ≡ true → Reached m (fresh_unit m rate frame)
  fresh_reached rate frame ok =
      let some : 0 < frame = omega (arith, (frame_of frame (split_and (rate_ok rate) (frame_ok frame) ok).1).lo) in
      let lines = lines_some m (fresh_unit m rate frame).settings m.lines 0 0 some in
      record {
        sized = record {
          lines = length-replicate m.lines (both 0);
          passes = length-replicate (length m.pass_lengths) (both 0);
          filters = length-replicate (filters_len m) blank;
          marks = length-replicate (jobs_len m) false;
          before = length-replicate (filters_len m) blank;
        };
        range =
            free_range m (fresh_unit m rate frame)
            (record {
              sizes = ok;
              lines = fresh_in (lengths m (fresh_unit m rate frame)) m.lines lines.1 lines.0;
              passes = fresh_in m.pass_lengths (length m.pass_lengths) refl built.some;
            })
            refl;
        free = λ e. refl;
      }

  least : (rate_ok 8000 && frame_ok 4) ≡ true
  unfolding rate_ok frame_ok
  least = refl

  afresh_reached : (w : Memory) (rate frame : ℕ) → Reached m (afresh m w rate frame).unit
  unfolding judged_fresh
  afresh_reached w rate frame =
      accept_either (λ (v : Memory). Reached m v.unit) (judged_fresh m rate frame (length w.store))
      (λ e. fresh_reached rate frame (needed (rate_ok rate && frame_ok frame) _ _ refl e).0) (λ n. fresh_reached 8000 4 least)

  abbrev In : Memory → Type 0
  In w = Reached m w.unit

  -- a unit with no frame open that has the cursors, the count and the filters given
  idle_reached : (v : UnitState) → Parts m v → length v.cursors.lines ≡ m.lines → length v.cursors.passes ≡ length m.pass_lengths
      → length v.filters ≡ filters_len m → v.held ≡ no_frame m → Reached m v
  idle_reached v p l q f e = record {
    sized = record {
      lines = l;
      passes = q;
      filters = f;
      marks = rw e (length-replicate (jobs_len m) false);
      before = rw e (length-replicate (filters_len m) blank);
    };
    range = free_range m v p e;
    free = λ b. e;
  }

  shut_reached : (u : UnitState) → Reached m u → Reached m (unit_shut m u)
  shut_reached u h = idle_reached (unit_shut m u) (same_parts u _ (parts m u h.range) refl refl) h.sized.lines h.sized.passes h.sized.before refl

  -- the range doesn't look at the count
  reset_range : (u : UnitState) → Reached m u → in_range m (counted u (pos 0)) ≡ true
  unfolding in_range blank_open
  reset_range u h = h.range

  whole_reached : (w : Memory) (p : Play) (output : List Float) → In w → In (at_once m w p output).memory
  whole_reached w p output h =
      let u = w.unit in
      whole_either m w output (λ (x : Ending). In x.memory) p
      (λ d q.
      let free = h.free (whole_lent m u (length w.store) (length w.work) (length output) p d).free in
      idle_reached _ (moved_parts u _ (parts m u h.range) refl refl)
      (length_moved u.settings.frame (lengths m u) u.cursors.lines ∙ h.sized.lines)
      (length_moved u.settings.frame m.pass_lengths u.cursors.passes ∙ h.sized.passes)
      (new_long m u p w.store) free)
      (λ d q. h)
      (λ n. h)

  call_reached : (w : Memory) (c : Call) → In w → In (after m w c)
  unfolding ending
  call_reached w reset h =
      accept_either In (answer m w reset)
      (λ e. record {
        sized = record { lines = h.sized.lines; passes = h.sized.passes; filters = h.sized.filters; marks = h.sized.marks; before = h.sized.before };
        range = reset_range w.unit h;
        free = h.free;
      })
      (λ n. h)
  call_reached w (whole p output) h = whole_reached w p output h
  call_reached w (frames t coefficients input output) h = several_keeps m In whole_reached t coefficients w input output h
  call_reached w (start p) h =
      accept_either In (answer m w (start p))
      (λ e. record {
        sized = record {
          lines = h.sized.lines;
          passes = h.sized.passes;
          filters = filters_for_lem m w.unit p h.sized.filters;
          marks = length-replicate (jobs_len m) false;
          before = h.sized.filters;
        };
        range = open_range m _ (same_parts w.unit _ (parts m w.unit h.range) refl refl) refl;
        free = λ b. absurd (true≢false b);
      })
      (λ n. h)
  call_reached w (job j) h =
      accept_either In (answer m w (job j))
      (λ e. record {
        sized = record {
          lines = h.sized.lines;
          passes = h.sized.passes;
          filters = job_filters_lem m w j e h.sized.filters;
          marks = length-set w.unit.held.marks _ true ∙ h.sized.marks;
          before = h.sized.before;
        };
        range = open_range m _ (same_parts w.unit _ (parts m w.unit h.range) refl refl) (job_busy m w j e);
        free = λ b. absurd (true≢false (sym (job_busy m w j e) ∙ b));
      })
      (λ n. h)
  call_reached w (close output) h =
      let u = w.unit in
      close-either m w output (λ (x : Ending). In x.memory)
      (λ d q.
      idle_reached _ (moved_parts u _ (parts m u h.range) refl refl)
      (length_moved u.settings.frame (lengths m u) u.cursors.lines ∙ h.sized.lines)
      (length_moved u.settings.frame m.pass_lengths u.cursors.passes ∙ h.sized.passes)
      h.sized.filters refl)
      (λ d q. shut_reached u h)
      (λ n. h)
  call_reached w abandon h =
      accept_either In (answer m w abandon)
      (λ e. shut_reached w.unit h)
      (λ n. h)

  request_reached : (w : Memory) (r : Request) → In w → In (request m w r)
  unfolding request
  request_reached w (fresh rate frame s) h = h
  request_reached w (ask c s k) h = call_reached (seen w s k) c h

  run_reached : (w : Memory) (es : List Event) → In w → In (run m w es)
  unfolding run
  run_reached w [] h = h
  run_reached w (anew rate frame ∷ es) h = run_reached (afresh m w rate frame) es (afresh_reached w rate frame)
  run_reached w (asked r ∷ es) h = run_reached (request m w r) es (request_reached w r h)

pub stays_in_range : StaysInRange
stays_in_range m built w rate frame es = run_reached m built (afresh m w rate frame) es (afresh_reached m built w rate frame)
