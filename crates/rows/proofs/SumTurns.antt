-- One row added to a later one, and the turns of the loop that adds the input to each mixed row. Assumes nothing.
use mathlib.Core.Path.{◌≡◌, refl, sym, ap, ◌∙◌}
use mathlib.Core.List.{List, ◌++◌, append_assoc}
use Prim.Native.Nat.{ℕ, ◌+◌, ◌-◌, ◌<◌, ◌≤◌}
use native.Mathlib.Omega.{arith}
use lib.Ieee.{Float}
use lib.ListN.{length, take, drop, length-take, length-drop}
use lib.Seq.{drop-drop, take-add, take-take, length-take-le}
use borrow.Rule.Slice.PartMut.{put_mid, Post-is}
use Rattle.samples.specs.Lists.{over}
use Rattle.samples.proofs.Turns.{more, all_done}
use Rattle.samples.proofs.Lists.{drop-take, over_front, over-length, over_done, over-left}
use Rattle.samples.proofs.Rows.{Left, row_fits, row_done, none_left}
use Rattle.stages.specs.Lines.{plus, add_rows}
use Rattle.stages.specs.Steps.{added_first}
use Rattle.stages.proofs.RowLaws.{length-plus, added_first_lem}

-- ---- the row at a added to a later one, at `at`

module _ (a at f : ℕ) (w : List Float) (h : a + f ≤ at) (g : at + f ≤ length w) where
  abbrev pub sum : List Float
  sum = plus (take f (drop at w)) (take f (drop a w))

  pub sum_long : length sum ≡ f
  sum_long = length-plus (take f (drop at w)) (take f (drop a w)) ∙ simp (length-take, length-drop) (omega arith)

  -- by a stretch that begins with the one and ends with the other
  pub added_in : (last : List Float) → last ≡ added_first f (take (at + f - a) (drop a w)) → put_mid a (at + f - a) w last ≡ over at sum w
  unfolding over
  added_in last q =
      let d = at - a in
      let x = drop a w in
      let y = take (d + f) x in
      let k : at + f - a ≡ d + f = omega arith in
      let e : at ≡ a + d = omega arith in
      let lx : d + f ≤ length x = simp length-drop (omega arith) in
      let t1 : take d y ≡ take d x = take-take d (d + f) x (omega arith) in
      let t2 : drop d y ≡ take f (drop d x) = drop-take d x f in
      let t3 : take f y ≡ take f x = take-take f (d + f) x (omega arith) in
      let j : drop d x ≡ drop at w = drop-drop d a w ∙ ap (λ (m : ℕ). drop m w) (sym e) in
      let got : last ≡ take d x ++ sum = rw k at q ∙ added_first_lem f d y (omega arith) (length-take-le (d + f) x lx) ∙ rw (t1, t2, t3, j) refl in
      let front : take at w ≡ take a w ++ take d x = ap (λ (m : ℕ). take m w) e ∙ take-add a d w in
      rw (got, Post-is a (at + f) w (omega arith), sum_long, front) (simp append_assoc)

-- ---- the input added to each row: e is where row i begins

abbrev pub Adding : ℕ → ℕ → List Float → List Float → ℕ → ℕ → ℕ → List Float → Type 0
Adding n f input X len i e rows =
    Left n f i e len × (length rows ≡ len) × (f ≤ e) × (take f rows ≡ input) × (take e rows ++ add_rows f (n - i) input (drop e rows) ≡ X)

module _ (n f : ℕ) (input X : List Float) (len i e : ℕ) (rows : List Float) where
  pub add_turn : (last : List Float) → i < n → Adding n f input X len i e rows → last ≡ added_first f (take (e + f - 0) (drop 0 rows))
      → Adding n f input X len (i + 1) (e + f) (put_mid 0 (e + f - 0) rows last)
  unfolding add_rows
  add_turn last h v q =
      let room : e + f ≤ length rows = omega (arith, row_fits n f i e len v.0 h) in
      let first : 0 + f ≤ e = omega (arith, v.2) in
      let row = sum 0 e f rows first room in
      let long = sum_long 0 e f rows first room in
      let ex = rw (more n i h, drop-drop f e rows) at v.4 in
      rw (added_in 0 e f rows first room last q) (
        row_done n f i e len v.0 h,
        over-length e rows f row long room ∙ v.1,
        omega arith,
        over_front e rows row (omega arith) f v.2 ∙ v.3,
        rw (over_done e rows f row long room, over-left e rows f row long room, v.3, append_assoc) ex,
      )

  pub add_done : n ≤ i → Adding n f input X len i e rows → rows ≡ X
  unfolding add_rows
  add_done h v =
      let z : n - i ≡ 0 = omega arith in
      all_done rows e (omega (arith, none_left n f i e len v.0 h)) ∙ rw z at v.4
