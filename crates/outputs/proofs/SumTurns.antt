-- The turns of the loop that adds each row read to the output. Assumes nothing.
use mathlib.Core.Path.{◌≡◌, refl, sym, ap, ◌∙◌}
use mathlib.Core.List.{List, ◌++◌}
use Prim.Native.Nat.{ℕ, suc, ◌+◌, ◌*◌, ◌-◌, ◌<◌, ◌≤◌}
use native.Mathlib.Nat.{zero-add, sub-zero}
use native.Mathlib.Omega.{arith}
use lib.Ieee.{Float}
use lib.ListN.{length, take, drop, replicate, length-append, length-take, length-drop, length-replicate, take-append-drop}
use lib.Seq.{take_at, drop_at, drop-drop, take_all, take-take, length-take-le}
use borrow.Rule.Slice.PartMut.{put_mid}
use Rattle.samples.specs.Binary32.{+0}
use Rattle.samples.proofs.Turns.{more}
use Rattle.samples.proofs.Lists.{in_front, to_end, over_last}
use Rattle.samples.proofs.Rows.{Left, all_left, row_fits, row_done}
use Rattle.stages.specs.Lines.{plus, sum_rows}
use Rattle.stages.specs.Steps.{added_first}
use Rattle.rows.proofs.SumTurns.{sum, sum_long, added_in}

-- ---- the rows read summed into the last row, at `at`: b is where row i begins, and `front` is all before the sum

abbrev pub Summing : ℕ → ℕ → ℕ → List Float → List Float → ℕ → ℕ → List Float → Type 0
Summing n f at front X i b rows =
    Left n f i b (n * f) × (length rows ≡ at + f) × (take at rows ≡ front)
    × (sum_rows f (n - i) (drop at rows) (drop b (take (n * f) front)) ≡ X)

sum_more : (f n : ℕ) (s rows : List Float) → sum_rows f (suc n) s rows ≡ sum_rows f n (plus s (take f rows)) (drop f rows)
unfolding sum_rows
sum_more f n s rows = refl

module _ (n f at : ℕ) (front X : List Float) (h : n * f ≤ at) where
  pub sum_holds : (w : List Float) → length w ≡ at + f → front ≡ take at w → X ≡ sum_rows f n (drop at w) (take (n * f) front) → Summing n f at front X 0 0 w
  sum_holds w l e x = (all_left n f 0 (n * f) (zero-add (n * f)), l, sym e, rw sub-zero (sym x))

  module _ (i b : ℕ) (rows : List Float) where
    pub sum-turn : (last : List Float) → i < n → Summing n f at front X i b rows → last ≡ added_first f (take (length rows - b) (drop b rows))
        → Summing n f at front X (i + 1) (b + f) (put_mid b (length rows - b) rows last)
    sum-turn last hi v q =
        let reads = take (n * f) front in
        let fits = row_fits n f i b (n * f) v.0 hi in
        let g : at + f ≤ length rows = omega (arith, v.1) in
        let before : b + f ≤ at = omega arith in
        let row = sum b at f rows before g in
        let long = sum_long b at f rows before g in
        let first : length (take at rows) ≡ at = length-take-le at rows (omega arith) in
        let read : take f (drop b reads) ≡ take f (drop b rows) = rw (← v.2, take-take (n * f) at rows h) (in_front b rows f (n * f) fits) in
        let here : take f (drop at rows) ≡ drop at rows = take_all f (drop at rows) (simp length-drop (omega (arith, v.1))) in
        let ex = rw (more n i hi, sum_more f (n - (i + 1)) (drop at rows) (drop b reads), read, drop-drop f b reads) at v.3 in
        rw (v.1, added_in b at f rows before g last (rw v.1 at q), over_last at rows row (omega (arith, v.1, long))) (
          row_done n f i b (n * f) v.0 hi,
          simp length-append (omega arith),
          take_at (take at rows) row at first ∙ v.2,
          rw (drop_at (take at rows) row at first, here) ex,
        )

    pub sum_done : n ≤ i → Summing n f at front X i b rows → rows ≡ front ++ X
    unfolding sum_rows
    sum_done hi v =
        let z : n - i ≡ 0 = omega arith in
        sym (take-append-drop at rows) ∙ rw (v.2, rw z at v.3) refl

-- ---- the output begins as +0

module _ (at f : ℕ) (w last : List Float) (h : length w ≡ at + f) (q : last ≡ replicate (length (take (length w - at) (drop at w))) +0) where
  cleared : put_mid at (length w - at) w last ≡ take at w ++ replicate f +0
  cleared =
      let m = to_end at w (omega arith) in
      let l : length (take (length w - at) (drop at w)) ≡ f = rw (m.0, length-drop) (omega arith) in
      m.1 last ∙ rw (q, l) refl

  pub cleared_long : length (put_mid at (length w - at) w last) ≡ at + f
  cleared_long = ap length cleared ∙ simp (length-append, length-take, length-replicate) (omega arith)

  pub sum_of : (n : ℕ) → n * f ≤ at → let w₀ = put_mid at (length w - at) w last in
      take at w₀ ++ sum_rows f n (drop at w₀) (take (n * f) (take at w₀)) ≡ take at w ++ sum_rows f n (replicate f +0) (take (n * f) w)
  sum_of n g =
      let l = length-take-le at w (omega arith) in
      let t = ap (take at) cleared ∙ take_at (take at w) (replicate f +0) at l in
      let d = ap (drop at) cleared ∙ drop_at (take at w) (replicate f +0) at l in
      rw (t, d, take-take (n * f) at w g) refl
