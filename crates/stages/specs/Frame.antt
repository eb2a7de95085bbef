-- One frame, step by step (R4.3 to R4.12), with a name for what each stage gives.
use Rattle.std.specs.Prelude.{ℕ, ◌+◌, ◌/◌, Bool, cond, List, ◌++◌, map, Float, get_or, replicate}
use Rattle.samples.specs.Binary32.{◌⊘◌, +0}
use Rattle.delay.specs.declared.Cursors.{Cursors}
use Rattle.delay.specs.Calls.{both}
use Rattle.hadamard.specs.Rows.{mixed_rows}
use Rattle.iir.specs.declared.Filter.{Filter}
use Rattle.iir.specs.Runs.{run_out, bands_end}
use Rattle.unit.specs.declared.Rings.{Rings}
use Rattle.unit.specs.Layout.{stretch, allpass_in, filter_at}
use Rattle.allpass.specs.Passes.{Stage, pass_out, pass_end}
use Rattle.stages.specs.Lines.{no_filter, read_rows, band_rows, band_ends, add_rows, sum_rows, three, three_of}

-- R3.34: the allpass stage whose x ring is stretch k of `rings` and whose y ring is the next one
abbrev pub stage_at : List ℕ → List Cursors → List Float → ℕ → Stage
stage_at ls cs rings k = record {
  x = stretch ls k rings;
  xs = get_or cs k (both 0);
  y = stretch ls (k + 1) rings;
  ys = get_or cs (k + 1) (both 0);
}

abbrev pub allpass_of : Stage → Stage → List Float
allpass_of s t = s.x ++ (s.y ++ (t.x ++ t.y))

-- R4.6 to R4.9: what step 4 gives, a name for each stage's rows, and the lines' filters after it
pub record LineRows : Type 0 where
  pub mixed : List Float
  pub band0 : List Float
  pub band1 : List Float
  pub band2 : List Float
  pub put : List Float
  pub filters : List Filter

-- R4.6 to R4.9: steps 3 and 4 of n lines, the mix's factor k, from the rows that were read. A tail adds no input
unfoldable pub line_rows : ℕ → ℕ → Float → Bool → List Filter → List Float → List Float → LineRows
line_rows n f k tail fs input reads =
    let mixed = mixed_rows n f k reads in
    let band0 = band_rows f n 0 fs mixed in
    let band1 = band_rows f n 1 fs band0 in
    let band2 = band_rows f n 2 fs band1 in
    record {
      mixed = mixed;
      band0 = band0;
      band1 = band1;
      band2 = band2;
      put = cond tail band2 (add_rows f n input band2);
      filters = band_ends f n 0 fs mixed;
    }

-- R4.10 to R4.12: what step 5 gives, a name for each stage's row, the allpass rings and the tone's filters after it
pub record OutputRow : Type 0 where
  pub sum : List Float
  pub pass0 : List Float
  pub pass1 : List Float
  pub tone0 : List Float
  pub tone1 : List Float
  pub out : List Float
  pub rings : List Float
  pub filters : List Filter

-- R4.10 to R4.12: step 5 of n lines, the sum divided by d, from the rows that were read and the allpass rings with their lengths ls and cursors cs
unfoldable pub output_row : ℕ → ℕ → Float → List ℕ → List Cursors → List Filter → List Float → List Float → OutputRow
output_row n f d ls cs fs rings reads =
    let k = filter_at n in
    let sum = map (λ x. x ⊘ d) (sum_rows f n (replicate f +0) reads) in
    let s0 = stage_at ls cs rings 0 in
    let s1 = stage_at ls cs rings 2 in
    let pass0 = pass_out (f / 4) s0 sum in
    let pass1 = pass_out (f / 4) s1 pass0 in
    let tone0 = run_out (get_or fs k no_filter) pass1 in
    let tone1 = run_out (get_or fs (k + 1) no_filter) tone0 in
    record {
      sum = sum;
      pass0 = pass0;
      pass1 = pass1;
      tone0 = tone0;
      tone1 = tone1;
      out = run_out (get_or fs (k + 2) no_filter) tone1;
      rings = allpass_of (pass_end (f / 4) s0 sum) (pass_end (f / 4) s1 pass0);
      filters = three_of (bands_end (three k fs) pass1);
    }

-- a frame: the rows that were read, and what steps 4 and 5 give of them
pub record Frame : Type 0 where
  pub reads : List Float
  pub lines : LineRows
  pub output : OutputRow

-- R1.15: all filters after the frame, the lines' and then the tone's
abbrev pub new_filters : Frame → List Filter
new_filters r = r.lines.filters ++ r.output.filters

-- R4.5: step 2 of n lines, on the rings r of a store
abbrev pub reads_of : ℕ → ℕ → Rings → List Float → List Float
reads_of n f r store = read_rows f n 0 r.lines.lengths r.lines.cursors store

-- R4.5 to R4.12: a frame of n lines on the rings r of a store, which has no other lines, the mix's factor k and the sum's divisor d
unfoldable pub frame_in : ℕ → ℕ → Float → Float → Bool → Rings → List Filter → List Float → List Float → Frame
frame_in n f k d tail r fs input store =
    let reads = reads_of n f r store in
    record {
      reads = reads;
      lines = line_rows n f k tail fs input reads;
      output = output_row n f d r.passes.lengths r.passes.cursors fs (allpass_in r.lines.lengths store) reads;
    }
