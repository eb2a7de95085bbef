-- The memory of an open frame is a function of its marks: `memory_at`. Here is what it is, and that each of its parts has its length. Assumes
-- nothing.
use Prim.Native.Nat.{ℕ, zero, suc, ◌*◌, ◌%◌, ◌<◌, ◌≤◌}
use mathlib.Core.Path.{◌≡◌, ap, ◌∙◌}
use mathlib.Core.Bool.{Bool, true, false, cond}
use mathlib.Core.List.{List, ◌++◌}
use native.Mathlib.Omega.{arith}
use lib.Ieee.{Float}
use lib.IntN.{ℤ}
use lib.ListN.{length, drop, replicate, length-take, length-drop, length-replicate}
use Rattle.samples.specs.Binary32.{+0}
use Rattle.samples.specs.Lists.{row}
use Rattle.iir.specs.declared.Filter.{Filter}
use Rattle.hadamard.specs.Rows.{mixed_rows}
use Rattle.hadamard.proofs.Laws.{rows_length}
use Rattle.unit.specs.UnitState.{UnitState}
use Rattle.unit.specs.Layout.{Model, lengths, total, allpass_in, store_len, work_len, filters_len, mix_mark, line_mark, output_mark}
use Rattle.unit.specs.Room.{unit_rings}
use Rattle.stages.specs.Frame.{Frame, frame_in, line_rows}
use Rattle.stages.proofs.RowLaws.{Held, length-read_rows, length-band_ends}
use Rattle.stages.proofs.FrameLaws.{put_beside, out_long}
use Rattle.rows.specs.Rows.{Rows, rows_of, joined_rows}
use Rattle.machine.specs.Ending.{Memory}
use Rattle.demands.proofs.LineRings.{lines_held}
use Rattle.samples.proofs.Rows.{row_long}
use Rattle.samples.proofs.Stacked.{stacked, length_stacked}
use Rattle.demands.proofs.AnyOrderFrame.{filters_row, rings_long}
use Rattle.rows.proofs.Joined.{Long, cut_joined, length-joined}
use Rattle.demands.proofs.AnyOrderMarks.{at}

-- what an open was given: the unit before it, the frame's kind, its filters, the count to be set, the input row, and the store
pub record Opening : Type 0 where
  pub unit : UnitState
  pub tail : Bool
  pub filters : List Filter
  pub next : ℤ
  pub input : List Float
  pub store : List Float

-- its whole frame
abbrev pub frame_at : Model → Opening → Frame
frame_at m o =
    frame_in m.lines o.unit.settings.frame m.factor m.divisor o.tail (unit_rings m o.unit) o.filters o.input o.store

-- the lengths that an accepted open has seen to
pub record Fit (m : Model) (o : Opening) : Type 0 where
  pub passes : length m.pass_lengths ≡ 4
  pub fours : o.unit.settings.frame % 4 ≡ 0
  pub filters : length o.filters ≡ filters_len m
  pub input : length o.input ≡ o.unit.settings.frame
  pub store : length o.store ≡ store_len m (lengths m o.unit)

-- ---- the memory at given marks

abbrev pub silence : Opening → List Float
silence o = replicate o.unit.settings.frame +0

-- line i's row that was read, its mixed row, which becomes the row to put, and its filters
abbrev pub read_at : Model → Opening → List Bool → ℕ → List Float
read_at m o marks i = cond (at marks i) (row o.unit.settings.frame i (frame_at m o).reads) (silence o)

abbrev pub mixed_at : Model → Opening → List Bool → ℕ → List Float
mixed_at m o marks i =
    cond (at marks (mix_mark m))
    (cond (at marks (line_mark m i)) (row o.unit.settings.frame i (frame_at m o).lines.put) (row o.unit.settings.frame i (frame_at m o).lines.mixed))
    (silence o)

abbrev pub bands_at : Model → Opening → List Bool → ℕ → List Filter
bands_at m o marks i = cond (at marks (line_mark m i)) (row 3 i (frame_at m o).lines.filters) (row 3 i o.filters)

-- the output row, the allpass rings and the tone's filters
abbrev pub output_at : Model → Opening → List Bool → List Float
output_at m o marks = cond (at marks (output_mark m)) (frame_at m o).output.out (silence o)

abbrev pub rings_at : Model → Opening → List Bool → List Float
rings_at m o marks = cond (at marks (output_mark m)) (frame_at m o).output.rings (allpass_in (lengths m o.unit) o.store)

abbrev pub tone_at : Model → Opening → List Bool → List Filter
tone_at m o marks = cond (at marks (output_mark m)) (frame_at m o).output.filters (drop (3 * m.lines) o.filters)

abbrev pub rows_at : Model → Opening → List Bool → Rows
rows_at m o marks = record {
  input = o.input;
  reads = stacked m.lines (read_at m o marks);
  mixed = stacked m.lines (mixed_at m o marks);
  output = output_at m o marks;
  rings = rings_at m o marks;
}

abbrev pub filters_at : Model → Opening → List Bool → List Filter
filters_at m o marks = stacked m.lines (bands_at m o marks) ++ tone_at m o marks

-- the unit with a frame open, its filters and its marks
abbrev pub unit_with : Opening → List Filter → List Bool → UnitState
unit_with o fs marks = record {
  settings = o.unit.settings;
  cursors = o.unit.cursors;
  count = o.unit.count;
  filters = fs;
  held = record { busy = true; tail = o.tail; marks = marks; next = o.next; before = o.unit.filters };
}

abbrev pub unit_at : Model → Opening → List Bool → UnitState
unit_at m o marks = unit_with o (filters_at m o marks) marks

abbrev pub memory_at : Model → Opening → List Bool → Memory
memory_at m o marks = record { unit = unit_at m o marks; store = o.store; work = joined_rows (rows_at m o marks) }

-- either of two
cond_long : {A : Type 0} (b : Bool) (x y : List A) (k : ℕ) → length x ≡ k → length y ≡ k → length (cond b x y) ≡ k
cond_long true x y k p q = p
cond_long false x y k p q = q

module _ (m : Model) (o : Opening) (h : Fit m o) where
  abbrev n : ℕ
  n = m.lines

  abbrev f : ℕ
  f = o.unit.settings.frame

  abbrev R : Frame
  R = frame_at m o

  -- ---- lengths

  pub held : Held f n 0 (lengths m o.unit) (length o.store)
  unfolding store_len
  held = lines_held m o.unit (length o.store) (omega (arith, h.store))

  pub reads_long : length R.reads ≡ n * f
  unfolding frame_in
  reads_long = length-read_rows f (lengths m o.unit) o.unit.cursors.lines n 0 o.store held

  pub mixed_long : length R.lines.mixed ≡ n * f
  unfolding frame_in line_rows
  mixed_long = rows_length n f m.factor R.reads

  pub put_long : length R.lines.put ≡ n * f
  unfolding frame_in
  put_long = put_beside n f m.factor o.filters o.input R.reads o.tail h.input

  pub ends_long : length R.lines.filters ≡ n * 3
  unfolding frame_in line_rows
  ends_long = length-band_ends f n 0 o.filters (mixed_rows n f m.factor R.reads) ∙ omega arith

  ends-three : (i : ℕ) → i < n → length (row 3 i R.lines.filters) ≡ 3
  unfolding frame_in
  ends-three i b = ap length (filters_row n f m.factor o.tail o.filters o.input R.reads i b)

  begun_long : length (allpass_in (lengths m o.unit) o.store) ≡ total m.pass_lengths
  unfolding store_len
  begun_long = simp length-drop (omega (arith, h.store))

  done_long : length R.output.rings ≡ total m.pass_lengths
  unfolding frame_in
  done_long = rings_long n f m.divisor m.pass_lengths o.unit.cursors.passes o.filters (allpass_in (lengths m o.unit) o.store) R.reads h.passes begun_long

  silence_long : length (silence o) ≡ f
  silence_long = length-replicate f +0

  three_long : (i : ℕ) → i < n → length (row 3 i o.filters) ≡ 3
  three_long i b = rows_three n i o.filters b (omega (arith, h.filters))
    where
      rows_three : (n i : ℕ) (fs : List Filter) → i < n → 3 * n ≤ length fs → length (row 3 i fs) ≡ 3
      rows_three n zero fs b l = simp length-take (omega arith)
      rows_three zero (suc i) fs b l = absurd (omega arith)
      rows_three (suc n) (suc i) fs b l = rows_three n i (drop 3 fs) (omega arith) (simp length-drop (omega arith))

  module _ (marks : List Bool) where
    pub read_long : (i : ℕ) → i < n → length (read_at m o marks i) ≡ f
    read_long i b = cond_long (at marks i) _ _ f (row_long f n i R.reads b (omega (arith, reads_long))) silence_long

    pub mix_long : (i : ℕ) → i < n → length (mixed_at m o marks i) ≡ f
    mix_long i b =
        cond_long (at marks (mix_mark m)) _ _ f
        (cond_long (at marks (line_mark m i)) _ _ f (row_long f n i R.lines.put b (omega (arith, put_long))) (row_long f n i R.lines.mixed b (omega (arith, mixed_long))))
        silence_long

    pub bands_long : (i : ℕ) → i < n → length (bands_at m o marks i) ≡ 3
    bands_long i b = cond_long (at marks (line_mark m i)) _ _ 3 (ends-three i b) (three_long i b)

    pub output_long : length (output_at m o marks) ≡ f
    unfolding frame_in
    output_long =
        cond_long (at marks (output_mark m)) _ _ f
        (out_long n f m.divisor m.pass_lengths o.unit.cursors.passes o.filters (allpass_in (lengths m o.unit) o.store) R.reads h.fours) silence_long

    pub rings_at_long : length (rings_at m o marks) ≡ total m.pass_lengths
    rings_at_long = cond_long (at marks (output_mark m)) _ _ (total m.pass_lengths) done_long begun_long

    pub long : Long m.lines f (rows_at m o marks)
    long = record {
      input = h.input;
      reads = length_stacked f n (read_at m o marks) read_long;
      mixed = length_stacked f n (mixed_at m o marks) mix_long;
      output = output_long;
    }

    pub work_long : length (joined_rows (rows_at m o marks)) ≡ work_len m f
    work_long = length-joined m f (rows_at m o marks) long rings_at_long

    pub cut : rows_of m.lines f (joined_rows (rows_at m o marks)) ≡ rows_at m o marks
    cut = cut_joined m.lines f (rows_at m o marks) long
