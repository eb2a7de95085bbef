-- A job that is done takes the memory at some marks to the memory with its mark besides; the open gives the memory with no mark, and with all
-- marks it is the whole frame's. Assumes nothing.
use Prim.Native.Nat.{ℕ, zero, suc, ◌+◌, ◌*◌, ◌<◌, ◌≤◌}
use mathlib.Core.Path.{◌≡◌, refl, sym, ap, ◌∙◌}
use mathlib.Core.Bool.{Bool, true, false, cond}
use mathlib.Core.List.{List, ◌++◌}
use native.Mathlib.Nat.{add-zero, zero-mul}
use native.Mathlib.Omega.{arith}
use lib.Ieee.{Float}
use lib.ListN.{length, get_or, take, drop, set, replicate, length-drop, get_or-replicate, replicate-append-replicate, take-append-drop}
use lib.Seq.{get_or-drop, get_or-append-add}
use Rattle.samples.specs.Binary32.{+0}
use Rattle.samples.specs.Lists.{over, row, set_row}
use Rattle.iir.specs.declared.Bands.{Bands}
use Rattle.iir.specs.declared.Filter.{Filter}
use Rattle.iir.specs.Runs.{bands_out, bands_end}
use Rattle.hadamard.specs.Rows.{mixed_rows}
use Rattle.unit.specs.UnitState.{UnitState}
use Rattle.unit.specs.Layout.{Model, lengths, allpass_in, jobs_len, mix_mark, line_mark, output_mark}
use Rattle.unit.specs.Room.{passes_with}
use Rattle.stages.specs.Lines.{no_filter, three, three_of, plus}
use Rattle.stages.specs.Frame.{Frame, OutputRow, frame_in, line_rows, new_filters}
use Rattle.judges.specs.Marks.{all_done}
use Rattle.rows.specs.Rows.{Rows, rows_of, joined_rows}
use Rattle.rows.specs.Parts.{line_in, line_laid, line_ends}
use Rattle.outputs.specs.Steps.{output_in, output_laid, output_ends}
use Rattle.machine.specs.Jobs.{open_laid, read_row, read_work, mix_laid, line_job, output_job, job_work, job_filters}
use Rattle.demands.proofs.LineRings.{read-row}
use Rattle.samples.proofs.Stacked.{stacked, stacked_same, length_stacked, stacked_rows, stacked_all, row_stacked, row_of, set_stacked, set_of, over_end}
use Rattle.samples.proofs.Rows.{over-row, next_row}
use Rattle.demands.proofs.AnyOrderFrame.{put_row, filters_row, three-row, output_asks, tone_long}
use Rattle.demands.proofs.AnyOrderMarks.{at, true≢false, false_of, set_here, set_there, done_at, read_at_lem, Legal}
use Rattle.demands.proofs.AnyOrderAt.{Opening, frame_at, Fit, silence, read_at, mixed_at, bands_at, output_at, rings_at, tone_at, rows_at, filters_at, unit_at, memory_at}
use Rattle.demands.proofs.AnyOrderAt.{held, reads_long, mixed_long, put_long, ends_long, read_long, mix_long, bands_long, cut}

-- steps 4 and 5 of a unit
abbrev line_row : UnitState → ℕ → Rows → List Float
line_row u i r = line_in u.settings.frame i u.held.tail u.filters r

abbrev output_of : Model → UnitState → Rows → OutputRow
output_of m u r = output_in m.lines u.settings.frame m.divisor (passes_with m u.cursors.passes) u.filters r

module _ (m : Model) (o : Opening) (h : Fit m o) (marks : List Bool) where
  abbrev n : ℕ
  n = m.lines

  abbrev f : ℕ
  f = o.unit.settings.frame

  abbrev R : Frame
  R = frame_at m o

  -- ---- what a new mark k leaves as it was

  module _ (k : ℕ) where
    abbrev more : List Bool
    more = set marks k true

    reads_kept : n ≤ k → stacked n (read_at m o marks) ≡ stacked n (read_at m o more)
    reads_kept b = stacked_same n _ _ (λ i c. rw (set_there marks k i (λ e. omega arith)) refl)

    module _ (no_line : (i : ℕ) → i < n → line_mark m i ≡ k → ⊥) where
      bands_kept : stacked n (bands_at m o marks) ≡ stacked n (bands_at m o more)
      bands_kept = stacked_same n _ _ (λ i c. rw (set_there marks k (line_mark m i) (no_line i c)) refl)

      mixed-kept : (mix_mark m ≡ k → ⊥) → stacked n (mixed_at m o marks) ≡ stacked n (mixed_at m o more)
      mixed-kept no-mix = stacked_same n _ _ (λ i c. rw (set_there marks k (mix_mark m) no-mix, set_there marks k (line_mark m i) (no_line i c)) refl)

    module _ (no_output : output_mark m ≡ k → ⊥) where
      mark_kept : at marks (output_mark m) ≡ at more (output_mark m)
      mark_kept = sym (set_there marks k (output_mark m) no_output)

      output_kept : output_at m o marks ≡ output_at m o more
      output_kept = ap (λ (b : Bool). cond b R.output.out (silence o)) mark_kept

      rings_kept : rings_at m o marks ≡ rings_at m o more
      rings_kept = ap (λ (b : Bool). cond b R.output.rings (allpass_in (lengths m o.unit) o.store)) mark_kept

      tone_kept : tone_at m o marks ≡ tone_at m o more
      tone_kept = ap (λ (b : Bool). cond b R.output.filters (drop (3 * n) o.filters)) mark_kept

      filters_kept : ((i : ℕ) → i < n → line_mark m i ≡ k → ⊥) → filters_at m o marks ≡ filters_at m o more
      filters_kept no_line = λ t. bands_kept no_line t ++ tone_kept t

  -- where all reads are marked, the rows read are those of the whole frame
  all_reads : all_done (take n marks) ≡ true → n ≤ length marks → stacked n (read_at m o marks) ≡ R.reads
  all_reads e l =
      stacked_same n _ _ (λ i b. rw (read_at_lem marks n i e b l) refl)
      ∙ stacked_all f n R.reads (reads_long m o h)

  module _ (g : Legal m marks) where
    -- ---- read i

    module _ (i : ℕ) (b : i < n) where
      read_there : (j : ℕ) → j < n → line_mark m j ≡ i → ⊥
      read_there j c e = omega arith

      read_is : read_row m (unit_at m o marks) i o.store ≡ read_at m o (set marks i true) i
      unfolding frame_in
      read_is =
          let e = read-row f (lengths m o.unit) o.unit.cursors.lines n i o.store b (held m o h) in
          sym e ∙ rw (set_here marks i (omega (arith, g.long))) refl

      pub read_filters : filters_at m o marks ≡ filters_at m o (set marks i true)
      read_filters = filters_kept i (λ e. omega arith) read_there

      pub read_work_lem : read_work m (unit_at m o marks) i o.store (joined_rows (rows_at m o marks)) ≡ joined_rows (rows_at m o (set marks i true))
      unfolding read_work
      read_work_lem =
          let own : List Float → List Float = set_row f i (read_row m (unit_at m o marks) i o.store) in
          let set_is : own (stacked n (read_at m o marks)) ≡ stacked n (read_at m o (set marks i true)) =
          ap (λ (r : List Float). set_row f i r (stacked n (read_at m o marks))) read_is
          ∙ set_of f n (read_at m o marks) (read_at m o (set marks i true)) i b (read_long m o h marks) (λ j q. rw (set_there marks i j q) refl) in
          (λ t. joined_rows (record {
            input = (cut m o h marks t).input;
            reads = own (cut m o h marks t).reads;
            mixed = (cut m o h marks t).mixed;
            output = (cut m o h marks t).output;
            rings = (cut m o h marks t).rings;
          }))
          ∙ (λ t. joined_rows (record {
            input = o.input;
            reads = set_is t;
            mixed = mixed-kept i read_there (λ e. omega arith) t;
            output = output_kept i (λ e. omega arith) t;
            rings = rings_kept i (λ e. omega arith) t;
          }))

    -- ---- the mix

    module _ (e : all_done (take n marks) ≡ true) (unmixed : at marks (mix_mark m) ≡ false) where
      mix_there : (j : ℕ) → j < n → line_mark m j ≡ mix_mark m → ⊥
      mix_there j c q = omega arith

      pub mix_filters : filters_at m o marks ≡ filters_at m o (set marks (mix_mark m) true)
      mix_filters = filters_kept (mix_mark m) (λ q. omega arith) mix_there

      -- no line is marked yet
      mix_is : mixed_rows n f m.factor (stacked n (read_at m o marks)) ≡ stacked n (mixed_at m o (set marks (mix_mark m) true))
      unfolding frame_in line_rows
      mix_is =
          ap (mixed_rows n f m.factor) (all_reads e (omega (arith, g.long)))
          ∙ sym (stacked_all f n R.lines.mixed (mixed_long m o h))
          ∙ stacked_same n _ _ (λ i b.
          let unmarked : at marks (line_mark m i) ≡ false = false_of _ (λ y. true≢false (sym (g.after_mix i b y) ∙ unmixed)) in
          rw (set_here marks (mix_mark m) (omega (arith, g.long)), set_there marks (mix_mark m) (line_mark m i) (mix_there i b), unmarked) refl)

      pub mix_work : mix_laid m f (joined_rows (rows_at m o marks)) ≡ joined_rows (rows_at m o (set marks (mix_mark m) true))
      unfolding mix_laid
      mix_work =
          (λ t. joined_rows (record {
            input = (cut m o h marks t).input;
            reads = (cut m o h marks t).reads;
            mixed = mixed_rows n f m.factor (cut m o h marks t).reads;
            output = (cut m o h marks t).output;
            rings = (cut m o h marks t).rings;
          }))
          ∙ (λ t. joined_rows (record {
            input = o.input;
            reads = reads_kept (mix_mark m) (omega arith) t;
            mixed = mix_is t;
            output = output_kept (mix_mark m) (λ q. omega arith) t;
            rings = rings_kept (mix_mark m) (λ q. omega arith) t;
          }))

    -- ---- line i

    module _ (i : ℕ) (b : i < n) (after : at marks (mix_mark m) ≡ true) (undone : at marks (line_mark m i) ≡ false) where
      abbrev lined : List Bool
      lined = set marks (line_mark m i) true

      mark_here : at lined (line_mark m i) ≡ true
      mark_here = set_here marks (line_mark m i) (omega (arith, g.long))

      mix_there_too : at lined (mix_mark m) ≡ true
      mix_there_too = set_there marks (line_mark m i) (mix_mark m) (λ q. omega arith) ∙ after

      other_line : (j : ℕ) → (j ≡ i → ⊥) → at lined (line_mark m j) ≡ at marks (line_mark m j)
      other_line j q = set_there marks (line_mark m i) (line_mark m j) (λ p. q (omega arith))

      -- its mixed row and its filters are still those from before
      its_row : row f i (stacked n (mixed_at m o marks)) ≡ row f i R.lines.mixed
      its_row = row_of f n (mixed_at m o marks) i b (mix_long m o h marks) ∙ rw (after, undone) refl

      its_filters : three (3 * i) (filters_at m o marks) ≡ three (3 * i) o.filters
      its_filters =
          let unmarked : bands_at m o marks i ≡ row 3 i o.filters = rw undone refl in
          three-row i (filters_at m o marks)
          ∙ ap (three 0) (row_stacked 3 n (bands_at m o marks) (tone_at m o marks) i b (bands_long m o h marks) ∙ unmarked)
          ∙ sym (three-row i o.filters)

      line_is : line_row (unit_at m o marks) i (rows_at m o marks) ≡ mixed_at m o lined i
      unfolding frame_in line_rows
      line_is =
          let out : Bands → List Float → List Float = λ bs xs. cond o.tail (bands_out bs xs) (plus (bands_out bs xs) o.input) in
          (λ t. out (its_filters t) (its_row t))
          ∙ sym (put_row n f m.factor o.tail o.filters o.input R.reads i b h.input)
          ∙ rw (mix_there_too, mark_here) refl

      pub line_work : job_work m (memory_at m o marks) (line_job i) ≡ joined_rows (rows_at m o lined)
      unfolding line_laid
      line_work =
          let set_is : set_row f i (line_row (unit_at m o marks) i (rows_at m o marks)) (stacked n (mixed_at m o marks)) ≡ stacked n (mixed_at m o lined) =
          ap (λ (r : List Float). set_row f i r (stacked n (mixed_at m o marks))) line_is
          ∙ set_of f n (mixed_at m o marks) (mixed_at m o lined) i b (mix_long m o h marks) (λ j q. rw (other_line j q, mix_there_too, after) refl) in
          (λ t. joined_rows (record {
            input = (cut m o h marks t).input;
            reads = (cut m o h marks t).reads;
            mixed = set_row f i (line_row (unit_at m o marks) i (cut m o h marks t)) (cut m o h marks t).mixed;
            output = (cut m o h marks t).output;
            rings = (cut m o h marks t).rings;
          }))
          ∙ (λ t. joined_rows (record {
            input = o.input;
            reads = reads_kept (line_mark m i) (omega arith) t;
            mixed = set_is t;
            output = output_kept (line_mark m i) (λ q. omega arith) t;
            rings = rings_kept (line_mark m i) (λ q. omega arith) t;
          }))

      ends_are : three_of (bands_end (three (3 * i) (filters_at m o marks)) (row f i (rows_of m.lines f (joined_rows (rows_at m o marks))).mixed)) ≡ bands_at m o lined i
      unfolding frame_in line_rows
      ends_are =
          (λ t. three_of (bands_end (its_filters t) (row f i (cut m o h marks t).mixed)))
          ∙ ap (λ (xs : List Float). three_of (bands_end (three (3 * i) o.filters) xs)) its_row
          ∙ sym (filters_row n f m.factor o.tail o.filters o.input R.reads i b)
          ∙ rw mark_here refl

      pub line_filters : job_filters m (memory_at m o marks) (line_job i) ≡ filters_at m o lined
      unfolding line_ends
      line_filters =
          let three-i : 3 * i ≡ i * 3 = omega arith in
          let long : length (bands_at m o lined i) ≡ 3 = bands_long m o h lined i b in
          ap (λ (r : List Filter). over (3 * i) r (filters_at m o marks)) ends_are
          ∙ ap (λ (k : ℕ). over k (bands_at m o lined i) (filters_at m o marks)) three-i
          ∙ over-row 3 i (bands_at m o lined i) (filters_at m o marks) long
          ∙ set_stacked 3 n (bands_at m o marks) (bands_at m o lined) (tone_at m o marks) i b (bands_long m o h marks) (λ j q. rw (other_line j q) refl)
          ∙ ap (λ (l : List Filter). stacked n (bands_at m o lined) ++ l) (tone_kept (line_mark m i) (λ q. omega arith))

    -- ---- the output

    module _ (e : all_done (take n marks) ≡ true) (undone : at marks (output_mark m) ≡ false) where
      abbrev out : List Bool
      out = set marks (output_mark m) true

      out_here : at out (output_mark m) ≡ true
      out_here = set_here marks (output_mark m) (omega (arith, g.long))

      out_there : (j : ℕ) → j < n → line_mark m j ≡ output_mark m → ⊥
      out_there j c q = omega arith

      lines_long : length (stacked n (bands_at m o marks)) ≡ 3 * n
      lines_long = length_stacked 3 n (bands_at m o marks) (bands_long m o h marks) ∙ omega arith

      -- the tone's filters are still those from before
      tone_at_lem : (j : ℕ) → get_or (filters_at m o marks) (3 * n + j) no_filter ≡ get_or o.filters (3 * n + j) no_filter
      tone_at_lem j =
          rw (undone, ← lines_long)
          (get_or-append-add (stacked n (bands_at m o marks)) (drop (length (stacked n (bands_at m o marks))) o.filters) j no_filter
          ∙ get_or-drop (length (stacked n (bands_at m o marks))) o.filters j no_filter)

      tone_same : three (3 * n) (filters_at m o marks) ≡ three (3 * n) o.filters
      tone_same = λ t. record { f0 = (rw add-zero at (tone_at_lem 0)) t; f1 = tone_at_lem 1 t; f2 = tone_at_lem 2 t }

      output_is : output_of m (unit_at m o marks) (rows_at m o marks) ≡ R.output
      unfolding frame_in
      output_is =
          output_asks n f m.divisor m.pass_lengths o.unit.cursors.passes o.filters (filters_at m o marks) (rings_at m o marks) (stacked n (read_at m o marks)) tone_same
          ∙ rw (undone, all_reads e (omega (arith, g.long))) refl

      output_cut : output_of m (unit_at m o marks) (rows_of m.lines f (joined_rows (rows_at m o marks))) ≡ R.output
      output_cut = ap (output_of m (unit_at m o marks)) (cut m o h marks) ∙ output_is

      pub output_work : job_work m (memory_at m o marks) output_job ≡ joined_rows (rows_at m o out)
      unfolding output_laid
      output_work =
          (λ t. joined_rows (record {
            input = (cut m o h marks t).input;
            reads = (cut m o h marks t).reads;
            mixed = (cut m o h marks t).mixed;
            output = (output_cut t).out;
            rings = (output_cut t).rings;
          }))
          ∙ (λ t. joined_rows (record {
            input = o.input;
            reads = reads_kept (output_mark m) (omega arith) t;
            mixed = mixed-kept (output_mark m) out_there (λ q. omega arith) t;
            output = cond (sym out_here t) R.output.out (silence o);
            rings = cond (sym out_here t) R.output.rings (allpass_in (lengths m o.unit) o.store);
          }))

      pub output_filters : job_filters m (memory_at m o marks) output_job ≡ filters_at m o out
      unfolding output_ends frame_in
      output_filters =
          let tone : length R.output.filters ≡ 3 = tone_long n f m.divisor m.pass_lengths o.unit.cursors.passes o.filters (allpass_in (lengths m o.unit) o.store) R.reads in
          let old : length (tone_at m o marks) ≡ 3 = rw undone (simp length-drop (omega (arith, h.filters))) in
          (λ t. over (3 * n) (output_cut t).filters (filters_at m o marks))
          ∙ over_end (3 * n) R.output.filters (stacked n (bands_at m o marks)) (tone_at m o marks) lines_long (old ∙ sym tone)
          ∙ (λ t. bands_kept (output_mark m) out_there t ++ cond (sym out_here t) R.output.filters (drop (3 * n) o.filters))

-- ---- no mark

silent_rows : (n f : ℕ) → replicate (n * f) +0 ≡ stacked n (λ i. replicate f +0)
silent_rows zero f = rw zero-mul refl
silent_rows (suc n) f =
    rw next_row (sym (replicate-append-replicate f (n * f) +0) ∙ ap (λ (l : List Float). replicate f +0 ++ l) (silent_rows n f))

module _ (m : Model) (o : Opening) where
  abbrev none : List Bool
  none = replicate (jobs_len m) false

  unmarked_at : (k : ℕ) → k < jobs_len m → at none k ≡ false
  unmarked_at k b = get_or-replicate (jobs_len m) k false false b

  no_output : at none (output_mark m) ≡ false
  no_output = unmarked_at (output_mark m) (omega arith)

  -- the filters are those that the frame begins with
  pub none_filters : filters_at m o none ≡ o.filters
  none_filters =
      let three-n : m.lines * 3 ≡ 3 * m.lines = omega arith in
      let lines : stacked m.lines (bands_at m o none) ≡ take (3 * m.lines) o.filters =
      stacked_same m.lines (bands_at m o none) (λ i. row 3 i o.filters) (λ i b. rw (unmarked_at (line_mark m i) (omega arith)) refl)
      ∙ stacked_rows 3 m.lines o.filters
      ∙ ap (λ (k : ℕ). take k o.filters) three-n in
      let tone : tone_at m o none ≡ drop (3 * m.lines) o.filters = rw no_output refl in
      (λ t. lines t ++ tone t) ∙ take-append-drop (3 * m.lines) o.filters

  pub none_work : open_laid m o.unit.settings.frame o.input (allpass_in (lengths m o.unit) o.store) ≡ joined_rows (rows_at m o none)
  unfolding open_laid
  none_work =
      let silent = silent_rows m.lines o.unit.settings.frame in
      let reads : stacked m.lines (λ i. silence o) ≡ stacked m.lines (read_at m o none) =
      stacked_same m.lines (λ i. silence o) (read_at m o none) (λ i b. rw (unmarked_at i (omega arith)) refl) in
      let mixed : stacked m.lines (λ i. silence o) ≡ stacked m.lines (mixed_at m o none) =
      stacked_same m.lines (λ i. silence o) (mixed_at m o none) (λ i b. rw (unmarked_at (mix_mark m) (omega arith)) refl) in
      λ t. joined_rows (record {
        input = o.input;
        reads = (silent ∙ reads) t;
        mixed = (silent ∙ mixed) t;
        output = cond (sym no_output t) (frame_at m o).output.out (silence o);
        rings = cond (sym no_output t) (frame_at m o).output.rings (allpass_in (lengths m o.unit) o.store);
      })

-- ---- all marks

-- the rows of the whole frame
abbrev pub whole_rows : Model → Opening → Rows
whole_rows m o = record {
  input = o.input;
  reads = (frame_at m o).reads;
  mixed = (frame_at m o).lines.put;
  output = (frame_at m o).output.out;
  rings = (frame_at m o).output.rings;
}

module _ (m : Model) (o : Opening) (h : Fit m o) (marks : List Bool) (long : length marks ≡ jobs_len m) (done : all_done marks ≡ true) where
  marked_at : (k : ℕ) → k < jobs_len m → at marks k ≡ true
  marked_at k b = done_at marks k done (omega arith)

  its_output : at marks (output_mark m) ≡ true
  its_output = marked_at (output_mark m) (omega arith)

  pub all_rows : rows_at m o marks ≡ whole_rows m o
  all_rows =
      let f = o.unit.settings.frame in
      let reads : stacked m.lines (read_at m o marks) ≡ (frame_at m o).reads =
      stacked_same m.lines (read_at m o marks) (λ i. row f i (frame_at m o).reads) (λ i b. rw (marked_at i (omega arith)) refl)
      ∙ stacked_all f m.lines (frame_at m o).reads (reads_long m o h) in
      let mixed : stacked m.lines (mixed_at m o marks) ≡ (frame_at m o).lines.put =
      stacked_same m.lines (mixed_at m o marks) (λ i. row f i (frame_at m o).lines.put)
      (λ i b. rw (marked_at (mix_mark m) (omega arith), marked_at (line_mark m i) (omega arith)) refl)
      ∙ stacked_all f m.lines (frame_at m o).lines.put (put_long m o h) in
      λ t. record {
        input = o.input;
        reads = reads t;
        mixed = mixed t;
        output = cond (its_output t) (frame_at m o).output.out (silence o);
        rings = cond (its_output t) (frame_at m o).output.rings (allpass_in (lengths m o.unit) o.store);
      }

  pub all_filters : filters_at m o marks ≡ new_filters (frame_at m o)
  all_filters =
      let lines : stacked m.lines (bands_at m o marks) ≡ (frame_at m o).lines.filters =
      stacked_same m.lines (bands_at m o marks) (λ i. row 3 i (frame_at m o).lines.filters) (λ i b. rw (marked_at (line_mark m i) (omega arith)) refl)
      ∙ stacked_all 3 m.lines (frame_at m o).lines.filters (ends_long m o h) in
      λ t. lines t ++ cond (its_output t) (frame_at m o).output.filters (drop (3 * m.lines) o.filters)
