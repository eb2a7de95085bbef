-- One row set in the work memory of the wall unit, and step 4 of a line there. Assumes nothing.
use mathlib.Core.Path.{◌≡◌, refl, sym, ap, ◌∙◌}
use mathlib.Core.Bool.{Bool, true, false, cond}
use mathlib.Core.List.{List, ◌++◌, append_assoc}
use Prim.Native.Nat.{ℕ, ◌+◌, ◌*◌, ◌-◌, ◌<◌, ◌≤◌}
use native.Mathlib.Omega.{arith}
use lib.Ieee.{Float}
use lib.ListN.{length, take, drop, take-append-drop}
use lib.Seq.{take-add, length-take-le}
use borrow.Rule.Slice.PartMut.{put_mid}
use Rattle.samples.specs.Lists.{over, row, set_row}
use Rattle.samples.proofs.Turns.{lent}
use Rattle.samples.proofs.Lists.{cut, lent_long, first_of, come_back, over_front, over-length, over_here, over_again}
use Rattle.samples.proofs.Rows.{row_ends, row_lies, row-set}
use Rattle.iir.specs.declared.Filter.{Filter}
use Rattle.iir.specs.Runs.{bands_out, bands_end}
use Rattle.iir.proofs.Laws.{bands_length}
use Rattle.unit.specs.Layout.{wall}
use Rattle.stages.specs.Lines.{three, three_of, plus}
use Rattle.stages.specs.Steps.{added_first}
use Rattle.stages.proofs.RowLaws.{length-plus}
use Rattle.rows.specs.Workers.{WorkFits}
use Rattle.rows.specs.Rows.{rows_of, joined_rows, laid}
use Rattle.rows.specs.Parts.{line_laid, line_ends}
use Rattle.rows.proofs.RowsOf.{from_mixed}
use Rattle.rows.proofs.SumTurns.{sum, sum_long, added_in}

module _ (f i : ℕ) (w : List Float) (h : i < 16) (fits : WorkFits wall f (length w)) where
  abbrev k : ℕ
  k = 16 * f

  abbrev reads : List Float
  reads = take k (drop f w)

  abbrev mixed : List Float
  mixed = take k (drop (f + k) w)

  input_long : length (take f w) ≡ f
  input_long = length-take-le f w (omega (arith, fits.work_is))

  module _ (r : List Float) (e : length r ≡ f) where
    -- row i of those read
    pub read_set : over (f + i * f) r w ≡ laid (take f w) (set_row f i r reads) mixed (take f (drop (f + k + k) w)) (drop (f + k + k + f) w)
    unfolding joined_rows
    read_set =
        row-set f f 16 i w h r e (omega (arith, fits.work_is))
        ∙ ap (λ (l : List Float). take f w ++ (set_row f i r reads ++ l)) (from_mixed 16 f w)

    -- row i of those mixed
    pub mixed-set : over (f + k + i * f) r w ≡ laid (take f w) reads (set_row f i r mixed) (take f (drop (f + k + k) w)) (drop (f + k + k + f) w)
    unfolding joined_rows
    mixed-set =
        row-set f (f + k) 16 i w h r e (omega (arith, fits.work_is))
        ∙ (λ x. take-add f k w x ++ (set_row f i r mixed ++ cut (f + k + k) w f x))
        ∙ append_assoc (take f w) reads (set_row f i r mixed ++ (take f (drop (f + k + k) w) ++ drop (f + k + k + f) w))

  -- where row i lies of the rows read, and of those mixed
  pub read_at : take f (drop (f + i * f) w) ≡ row f i reads
  read_at = row_lies f f 16 i w h

  pub mixed_at_lem : take f (drop (f + k + i * f) w) ≡ row f i mixed
  mixed_at_lem = row_lies f (f + k) 16 i w h

  abbrev b : ℕ
  b = f + k + i * f

  room : b + f ≤ length w
  room = omega (arith, row_ends i 16 f h, fits.work_is)

  -- step 4 of line i: its row through the bands, and then the input added to it
  module _ (tail : Bool) (fs gs : List Filter) (x y : List Float)
      (eg : gs ≡ over (3 * i) (three_of (bands_end (three (3 * i) fs) (take (b + f - b) (drop b w)))) fs)
      (ex : x ≡ bands_out (three (3 * i) fs) (take (b + f - b) (drop b w))) where
    abbrev out : List Float
    out = bands_out (three (3 * i) fs) (row f i mixed)

    out_is : x ≡ out
    out_is = ex ∙ ap (bands_out (three (3 * i) fs)) (lent b f w ∙ mixed_at_lem)

    out_long : length x ≡ f
    out_long = ap length ex ∙ bands_length (three (3 * i) fs) (take (b + f - b) (drop b w)) ∙ lent_long b w f room

    abbrev w₁ : List Float
    w₁ = put_mid b (b + f - b) w x

    w₁-is : w₁ ≡ over b x w
    w₁-is = come_back b w f x out_long

    w₁-long : length w₁ ≡ length w
    w₁-long = ap length w₁-is ∙ over-length b w f x out_long room

    -- set again
    set_again : (s : List Float) → length s ≡ f → over b s w₁ ≡ over b s w
    set_again s l = ap (over b s) w₁-is ∙ over_again b w f x out_long room s l

    abbrev lent-all : List Float
    lent-all = take (b + f - 0) (drop 0 w₁)

    -- a tail adds nothing, and what was lent is back as it was
    as_lent : y ≡ lent-all → put_mid 0 (b + f - 0) w₁ y ≡ over b out w
    as_lent e =
        let q = first_of (b + f) w₁ (omega (arith, w₁-long, room)) in
        q.1 y ∙ rw (e, q.0, take-append-drop (b + f) w₁) (w₁-is ∙ ap (λ (l : List Float). over b l w) out_is)

    with_input : y ≡ added_first f lent-all → put_mid 0 (b + f - 0) w₁ y ≡ over b (plus out (take f w)) w
    with_input e =
        let before : 0 + f ≤ b = omega arith in
        let g : b + f ≤ length w₁ = omega (arith, w₁-long, room) in
        let here : take f (drop b w₁) ≡ out = ap (λ (l : List Float). take f (drop b l)) w₁-is ∙ over_here b w f x out_long room ∙ out_is in
        let first : take f (drop 0 w₁) ≡ take f w = ap (take f) w₁-is ∙ over_front b w x (omega (arith, room)) f (omega arith) in
        added_in 0 b f w₁ before g y e ∙ set_again (sum 0 b f w₁ before g) (sum_long 0 b f w₁ before g) ∙ rw (here, first) refl

    pub line_laid_lem : y ≡ cond tail lent-all (added_first f lent-all)
        → (gs ≡ line_ends wall f i fs true w) × (put_mid 0 (b + f - 0) w₁ y ≡ line_laid wall f i tail fs true w)
    unfolding line_ends line_laid rows_of
    line_laid_lem ey = (eg ∙ rw (lent b f w, mixed_at_lem) refl, go tail ey)
      where
        go : (t : Bool) → y ≡ cond t lent-all (added_first f lent-all)
            → put_mid 0 (b + f - 0) w₁ y ≡ laid (take f w) reads (set_row f i (cond t out (plus out (take f w))) mixed) (take f (drop (f + k + k) w)) (drop (f + k + k + f) w)
        go true e = as_lent e ∙ mixed-set out (ap length (sym out_is) ∙ out_long)
        go false e =
            let lo : length out ≡ f = ap length (sym out_is) ∙ out_long in
            let l : length (plus out (take f w)) ≡ f = length-plus out (take f w) ∙ omega (arith, lo, input_long) in
            with_input e ∙ mixed-set (plus out (take f w)) l
