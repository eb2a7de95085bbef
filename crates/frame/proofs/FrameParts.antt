-- A frame that lies in the work memory: what its rows say of it, and what is left then. Assumes nothing.
use mathlib.Core.Path.{◌≡◌, refl, ap, ◌∙◌}
use mathlib.Core.Bool.{Bool, cond}
use mathlib.Core.List.{List, ◌++◌, append-nil}
use Prim.Native.Nat.{ℕ, ◌+◌, ◌*◌, ◌≤◌}
use native.Mathlib.Omega.{arith}
use lib.Ieee.{Float}
use lib.ListN.{length, take, drop, replicate, drop_of_length-le}
use lib.Seq.{length-take-le}
use Rattle.samples.specs.Binary32.{+0}
use Rattle.iir.specs.declared.Filter.{Filter}
use Rattle.unit.specs.declared.Rings.{Rings}
use Rattle.unit.specs.Layout.{allpass_in}
use Rattle.stages.specs.Frame.{Frame, new_filters, frame_in}
use Rattle.stages.specs.Settle.{frame_finite, settled}
use Rattle.stages.proofs.RowLaws.{length-read_rows}
use Rattle.stages.proofs.FrameLaws.{put_beside, out_long}
use Rattle.rows.specs.Rows.{rows_of, joined_rows}
use Rattle.rows.proofs.Joined.{cut_joined}
use Rattle.frame.specs.Parts.{rows_finite}
use Rattle.frame.specs.Steps.{stepped_on, left_by, rows_in, ran_with_room, finished_with_room}
use Rattle.frame.specs.Workers.{FrameFits, SettleFits}
use Rattle.frame.proofs.LineLaws.{lines_held}

-- no filter is left over
none_over : (gs fs : List Filter) (k : ℕ) → length fs ≤ k → gs ++ drop k fs ≡ gs
none_over gs fs k h = rw (drop_of_length-le fs h) (append-nil gs)

-- what is asked of the memory lent to settle a frame, from what its rows ask
pub settle_fits : (n f : ℕ) (v : Rings) (store work w output : ℕ) → FrameFits n f v store work → w ≡ work → output ≡ f
    → SettleFits n f v store w output
settle_fits n f v store work w output h e o =
    record {
      lines = record { few = h.few; some = h.frame; small = h.small; rows_are = refl; rings = h.rings };
      rows = omega (arith, e, h.work_is);
      rings = omega (arith, e, h.rest, h.work_is, h.store_is);
      out = o;
    }

-- the rows of a frame are judged as the frame is
rows_judged : (input : List Float) (x : Frame) → rows_finite (new_filters x) (rows_in input x) ≡ frame_finite x
unfolding rows_finite frame_finite
rows_judged input x = refl

-- a frame whose rows lie in a work memory w, as long as the one that it began with, and whose filters are gs: it ends as a whole one
module _ (n f : ℕ) (k d : Float) (tail : Bool) (v : Rings) (fs gs : List Filter) (store work w : List Float)
    (h : FrameFits n f v (length store) (length work)) (all : length fs ≤ 3 * n + 3)
    (eg : gs ≡ new_filters (frame_in n f k d tail v fs (take f work) store) ++ drop (3 * n + 3) fs)
    (ew : w ≡ joined_rows (rows_in (take f work) (frame_in n f k d tail v fs (take f work) store))) (el : length w ≡ length work) where
  abbrev x : Frame
  x = frame_in n f k d tail v fs (take f work) store

  its_rows : rows_of n f w ≡ rows_in (take f work) x
  unfolding frame_in
  its_rows =
      let li : length (take f work) ≡ f = length-take-le f work (omega (arith, h.work_is)) in
      ap (rows_of n f) ew
      ∙ cut_joined n f (rows_in (take f work) x)
      (record {
        input = li;
        reads = length-read_rows f v.lines.lengths v.lines.cursors n 0 store (lines_held f v.lines.lengths v.lines.cursors (length store) n h.rings);
        mixed = put_beside n f k fs (take f work) x.reads tail li;
        output = out_long n f d v.passes.lengths v.passes.cursors fs (allpass_in v.lines.lengths store) x.reads h.fours;
      })

  its_filters : gs ≡ new_filters x
  its_filters = eg ∙ none_over (new_filters x) fs (3 * n + 3) all

  all-judged : rows_finite gs (rows_of n f w) ≡ frame_finite x
  all-judged = (λ i. rows_finite (its_filters i) (its_rows i)) ∙ rows_judged (take f work) x

  pub ends_whole : (output : List Float) → finished_with_room n f v gs store w output ≡ ran_with_room n f k d tail v fs store work output
  unfolding left_by
  ends_whole output =
      λ i. record {
        stepped = stepped_on f v (all-judged i) (its_filters i);
        store = cond (all-judged i) (settled n f v (its_rows i).mixed (its_rows i).rings store) store;
        work = replicate (el i) +0;
        output = cond (all-judged i) (its_rows i).output output;
      }
