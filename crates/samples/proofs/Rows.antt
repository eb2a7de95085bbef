-- Rows of f elements that lie one after the other: where each begins and ends, a row read and a row set, and what is left of the rows as a
-- loop goes through them. Over the type of the elements, the width and the index. Assumes nothing.
use mathlib.Core.Path.{◌≡◌, refl, sym, ap, ◌∙◌}
use mathlib.Core.List.{List, ◌++◌, append_assoc}
use Prim.Native.Nat.{ℕ, zero, suc, ◌+◌, ◌*◌, ◌-◌, ◌<◌, ◌≤◌}
use native.Mathlib.Nat.{zero-add, add-zero, add_comm, zero-mul, one-mul, suc-mul, add-mul, mul-le-mul_right, sub-zero}
use native.Mathlib.Omega.{arith}
use lib.ListN.{length, take, drop, length-take, length-drop, take-append-drop}
use lib.Seq.{take-add, drop-drop, length-take-le}
use Rattle.samples.specs.Lists.{over, row, set_row}
use Rattle.samples.proofs.Lists.{cut, in_front, part_long, over-after, over_within}

-- one row more
pub next_row : (n f : ℕ) → suc n * f ≡ f + n * f
next_row n f = suc-mul n f ∙ add_comm (n * f) f

-- row i of n ends within them
pub row_ends : (i n f : ℕ) → i < n → i * f + f ≤ n * f
row_ends i n f h = omega (arith, suc-mul i f, mul-le-mul_right f h)

-- ---- row i, read and set

module _ {A : Type 0} (f : ℕ) where
  pub row_long : (n i : ℕ) (rows : List A) → i < n → n * f ≤ length rows → length (row f i rows) ≡ f
  row_long zero i rows h e = elim h [ ]
  row_long (suc n) zero rows h e = simp length-take (omega (arith, suc-mul n f))
  row_long (suc n) (suc i) rows h e = row_long n i (drop f rows) (omega arith) (simp length-drop (omega (arith, suc-mul n f)))

  -- it begins at i * f
  pub row_at : (i : ℕ) (rows : List A) → row f i rows ≡ take f (drop (i * f) rows)
  row_at zero rows = rw zero-mul refl
  row_at (suc i) rows = row_at i (drop f rows) ∙ rw (drop-drop, next_row) refl

  pub over-row : (i : ℕ) (r rows : List A) → length r ≡ f → over (i * f) r rows ≡ set_row f i r rows
  unfolding over set_row
  over-row zero r rows e = rw (zero-mul, zero-add, e) refl
  over-row (suc i) r rows e =
      let k : f + i * f + length r ≡ f + (i * f + length r) = omega arith in
      rw (next_row, take-add f (i * f) rows, k, ← drop-drop (i * f + length r) f rows, append_assoc)
      (ap (λ (l : List A). take f rows ++ l) (over-row i r (drop f rows) e))

  -- of the n rows that lie in w from a on
  module _ (a n i : ℕ) (w : List A) (h : i < n) where
    pub row_lies : take f (drop (a + i * f) w) ≡ row f i (take (n * f) (drop a w))
    row_lies =
        sym (row_at i (take (n * f) (drop a w)) ∙ in_front (i * f) (drop a w) f (n * f) (row_ends i n f h) ∙ ap (take f) (drop-drop (i * f) a w))

    pub row-set : (r : List A) → length r ≡ f → a + n * f ≤ length w
        → over (a + i * f) r w ≡ take a w ++ (set_row f i r (take (n * f) (drop a w)) ++ drop (a + n * f) w)
    row-set r e g =
        let rows = take (n * f) (drop a w) in
        let after = drop (a + n * f) w in
        let whole : w ≡ take a w ++ (rows ++ after) = sym (take-append-drop a w) ∙ ap (λ (l : List A). take a w ++ l) (cut a w (n * f)) in
        let fits : i * f + length r ≤ length rows = omega (arith, row_ends i n f h, part_long a w (n * f) g) in
        ap (over (a + i * f) r) whole
        ∙ over-after r a (i * f) (take a w) (rows ++ after) (length-take-le a w (omega arith))
        ∙ ap (λ (l : List A). take a w ++ l) (over_within r (i * f) rows after fits ∙ ap (λ (l : List A). l ++ after) (over-row i r rows e))

-- ---- of n rows of f those from row i on are left: the first of them begins at b, and the last ends at len

abbrev pub Left : ℕ → ℕ → ℕ → ℕ → ℕ → Type 0
Left n f i b len = (i ≤ n) × (b + (n - i) * f ≡ len)

pub all_left : (n f b len : ℕ) → b + n * f ≡ len → Left n f 0 b len
all_left n f b len e = (omega arith, rw (sub-zero n) e)

module _ (n f i b len : ℕ) (l : Left n f i b len) where
  -- m rows of them
  module _ (m : ℕ) (h : i + m ≤ n) where
    split : b + (m * f + (n - (i + m)) * f) ≡ len
    split =
        let e : n - i ≡ m + (n - (i + m)) = omega arith in
        rw (e, add-mul) at l.1

    pub rows_fit : b + m * f ≤ len
    rows_fit = omega (arith, split)

    pub rows_done : Left n f (i + m) (b + m * f) len
    rows_done = (h, omega (arith, split))

  -- one
  pub row_fits : i < n → b + f ≤ len
  row_fits h = rw one-mul at (rows_fit 1 (omega arith))

  pub row_done : i < n → Left n f (i + 1) (b + f) len
  row_done h = rw one-mul at (rows_done 1 (omega arith))

  pub none_left : n ≤ i → b ≡ len
  none_left h = let z : n - i ≡ 0 = omega arith in sym (add-zero b) ∙ (rw (z, zero-mul) at l.1)
