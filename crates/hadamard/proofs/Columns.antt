-- Sums of columns, from the left and with one column more; and the columns of rows. Assumes nothing.
use mathlib.Core.Path.{◌≡◌, refl, ap}
use mathlib.Core.Bool.{Bool}
use mathlib.Core.List.{List, [], ◌∷◌, ◌++◌}
use Prim.Native.Nat.{ℕ, zero, suc, ◌+◌, ◌*◌, ◌<◌}
use native.Mathlib.Nat.{zero-add, zero-mul, suc-mul, not-suc-le-zero}
use native.Mathlib.Numerals.{add-one}
use native.Mathlib.Omega.{arith}
use lib.ListN.{length, get_or, drop}
use lib.Seq.{drop-cons, get_or-drop}
use lib.Ieee.{Float, nan}
use Rattle.hadamard.specs.Mix.{minus, plus_minus, sum_from, sum_of}
use Rattle.hadamard.specs.Rows.{column}

-- ---- sums

pub sum_start : (r : ℕ) (xs : List Float) → 0 < length xs → sum_from r 1 (get_or xs 0 nan) (drop 1 xs) ≡ sum_of r xs
sum_start r [] h = absurd (not-suc-le-zero h)
sum_start r (x ∷ xs) h = refl

-- from the left: column c is taken off what is left
pub sum-turn : (r c : ℕ) (sum : Float) (xs : List Float) {m : Bool} {sum' : Float}
    → c < length xs → m ≡ minus r c → sum' ≡ plus_minus m sum (get_or xs c nan)
    → sum_from r (c + 1) sum' (drop (c + 1) xs) ≡ sum_from r c sum (drop c xs)
sum-turn r c sum xs h p q = rw (drop-cons xs c nan h, q, p, add-one) refl

-- one column more, column n
pub sum_more : (r c n : ℕ) (sum x : Float) (xs : List Float) → c + length xs ≡ n
    → sum_from r c sum (xs ++ (x ∷ [])) ≡ plus_minus (minus r n) (sum_from r c sum xs) x
sum_more r c n sum x [] e = let q : c ≡ n = omega arith in rw q
sum_more r c n sum x (y ∷ ys) e = sum_more r (suc c) n (plus_minus (minus r c) sum y) x ys (omega arith)

-- ---- columns

-- the sample at t of row n
at_row : (f t n : ℕ) (rows : List Float) → get_or (drop f rows) (n * f + t) nan ≡ get_or rows (suc n * f + t) nan
at_row f t n rows = let e : f + (n * f + t) ≡ suc n * f + t = omega (arith, suc-mul n f) in rw (get_or-drop, e)

module _ (f t : ℕ) where
  pub column-length : (n : ℕ) (rows : List Float) → length (column n f t rows) ≡ n
  column-length zero rows = refl
  column-length (suc n) rows = ap suc (column-length n (drop f rows))

  pub column_more : (n : ℕ) (rows : List Float) → column (suc n) f t rows ≡ column n f t rows ++ (get_or rows (n * f + t) nan ∷ [])
  column_more zero rows = rw (zero-mul, zero-add)
  column_more (suc n) rows = rw (column_more n (drop f rows), at_row)

-- rows of one sample are one column
pub one_column : (xs : List Float) → column (length xs) 1 0 xs ≡ xs
one_column [] = refl
one_column (x ∷ xs) = ap (λ (l : List Float). x ∷ l) (one_column xs)
