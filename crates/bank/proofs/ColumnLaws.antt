-- Rows that lie one after the other, by column: what stands in a column, and what a column put there leaves of each row. Assumes nothing.
use mathlib.Core.Path.{◌≡◌, refl, ap, ◌∙◌}
use mathlib.Core.List.{List, [], ◌∷◌}
use Prim.Native.Nat.{ℕ, zero, suc, ◌+◌, ◌*◌, ◌<◌}
use native.Mathlib.Nat.{le-add_right}
use native.Mathlib.Omega.{arith}
use lib.Ieee.{Float, nan}
use lib.ListN.{length, get_or, take, drop, set}
use lib.Seq.{drop-drop, take-set-le, take-set-lt, drop-set-lt, drop-set-add, get_or-take, get_or-drop}
use Rattle.samples.specs.Lists.{row}
use Rattle.samples.proofs.Rows.{next_row}
use Rattle.lanes.specs.declared.four.Four.{Four}
use Rattle.lanes.specs.Four.{at}
use Rattle.bank.specs.Tile.{four_at, four_put}

-- ---- ys put one below the other, the first at b: each f further on than the one before

abbrev put_all : ℕ → ℕ → List Float → List Float → List Float
put_all f b [] rows = rows
put_all f b (y ∷ ys) rows = put_all f (f + b) ys (set rows b y)

module _ (f : ℕ) where
  -- those that begin in the second row leave the first, and are, of the rows after it, put where they were
  take_below : (b : ℕ) (ys rows : List Float) → take f (put_all f (f + b) ys rows) ≡ take f rows
  take_below b [] rows = refl
  take_below b (y ∷ ys) rows =
      take_below (f + b) ys (set rows (f + b) y) ∙ take-set-le f rows (f + b) y (le-add_right f b)

  drop-below : (b : ℕ) (ys rows : List Float) → drop f (put_all f (f + b) ys rows) ≡ put_all f b ys (drop f rows)
  drop-below b [] rows = refl
  drop-below b (y ∷ ys) rows =
      drop-below (f + b) ys (set rows (f + b) y) ∙ ap (put_all f (f + b) ys) (drop-set-add f rows b y)

  -- a column from sample t of the first row on
  module _ (t : ℕ) (h : t < f) where
    after_first : (y : Float) (ys rows : List Float) → drop f (put_all f t (y ∷ ys) rows) ≡ put_all f t ys (drop f rows)
    after_first y ys rows = drop-below t ys (set rows t y) ∙ ap (put_all f t ys) (drop-set-lt f rows t y h)

    row-all : (ys : List Float) (k : ℕ) (rows : List Float) → k < length ys
        → row f k (put_all f t ys rows) ≡ set (row f k rows) t (get_or ys k nan)
    row-all [] k rows g = absurd (omega arith)
    row-all (y ∷ ys) zero rows g = take_below t ys (set rows t y) ∙ take-set-lt f rows t y h
    row-all (y ∷ ys) (suc k) rows g =
        ap (row f k) (after_first y ys rows) ∙ row-all ys k (drop f rows) (omega arith)

    rest_all : (ys rows : List Float) → drop (length ys * f) (put_all f t ys rows) ≡ drop (length ys * f) rows
    rest_all [] rows = refl
    rest_all (y ∷ ys) rows =
        rw (next_row (length ys) f, ← drop-drop (length ys * f) f rows, ← drop-drop (length ys * f) f (put_all f t (y ∷ ys) rows), after_first y ys rows)
        (rest_all ys (drop f rows))

-- ---- the column of four rows

module _ (f t : ℕ) (h : t < f) (rows : List Float) where
  pub column_at : (k : ℕ) → k < 4 → at k (four_at f t rows) ≡ get_or (row f k rows) t nan
  unfolding four_at
  column_at zero g = rw (get_or-take f rows t nan h) refl
  column_at (suc zero) g = rw (get_or-take f (drop f rows) t nan h, get_or-drop) refl
  column_at (suc (suc zero)) g = rw (get_or-take f (drop f (drop f rows)) t nan h, get_or-drop, get_or-drop) refl
  column_at (suc (suc (suc zero))) g = rw (get_or-take f (drop f (drop f (drop f rows))) t nan h, get_or-drop, get_or-drop, get_or-drop) refl
  column_at (suc (suc (suc (suc k)))) g = absurd (omega arith)

  pub row_put : (y : Four) (k : ℕ) → k < 4 → row f k (four_put f t y rows) ≡ set (row f k rows) t (at k y)
  unfolding four_put
  row_put y k g = row-all f t h (y.v0 ∷ y.v1 ∷ y.v2 ∷ y.v3 ∷ []) k rows g ∙ ap (set (row f k rows) t) (at_list k g)
    where
      at_list : (k : ℕ) → k < 4 → get_or (y.v0 ∷ y.v1 ∷ y.v2 ∷ y.v3 ∷ []) k nan ≡ at k y
      at_list zero g = refl
      at_list (suc zero) g = refl
      at_list (suc (suc zero)) g = refl
      at_list (suc (suc (suc zero))) g = refl
      at_list (suc (suc (suc (suc k)))) g = absurd (omega arith)

  pub rest_put : (y : Four) → drop (4 * f) (four_put f t y rows) ≡ drop (4 * f) rows
  unfolding four_put
  rest_put y = rest_all f t h (y.v0 ∷ y.v1 ∷ y.v2 ∷ y.v3 ∷ []) rows
