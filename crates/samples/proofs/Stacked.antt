-- Rows that lie one after the other as a function of the line: which row lies where, and what setting one row makes of them. Assumes nothing.
use Prim.Native.Nat.{ℕ, zero, suc, ◌+◌, ◌*◌, ◌<◌, ◌≤◌}
use mathlib.Core.Path.{◌≡◌, refl, sym, ap, ◌∙◌}
use mathlib.Core.List.{List, [], ◌++◌, append-nil, append_assoc}
use native.Mathlib.Nat.{zero-mul, not-suc-le-zero}
use native.Mathlib.Omega.{arith}
use lib.ListN.{length, get_or, take, drop, length-append, drop_of_length-le}
use lib.Seq.{take_at, drop_at, take-add, take_all, get_or-take, get_or-drop}
use Rattle.samples.specs.Lists.{over, row, set_row}
use Rattle.samples.proofs.Rows.{next_row, row_at}

module _ {A : Type 0} where
  -- n rows: g 0, then g 1, and so on
  abbrev pub stacked : ℕ → (ℕ → List A) → List A
  stacked zero g = []
  stacked (suc n) g = g 0 ++ stacked n (λ i. g (suc i))

  -- two functions that agree on the first n lines
  pub stacked_same : (n : ℕ) (g h : ℕ → List A) → ((i : ℕ) → i < n → g i ≡ h i) → stacked n g ≡ stacked n h
  stacked_same zero g h e = refl
  stacked_same (suc n) g h e = λ i. e 0 (omega arith) i ++ stacked_same n (λ j. g (suc j)) (λ j. h (suc j)) (λ j b. e (suc j) (omega arith)) i

  pub length_stacked : (f n : ℕ) (g : ℕ → List A) → ((i : ℕ) → i < n → length (g i) ≡ f) → length (stacked n g) ≡ n * f
  length_stacked f zero g e = sym (zero-mul f)
  length_stacked f (suc n) g e =
      length-append (g 0) (stacked n (λ i. g (suc i)))
      ∙ omega (arith, e 0 (omega arith), length_stacked f n (λ i. g (suc i)) (λ i b. e (suc i) (omega arith)), next_row n f)

  -- what is cut into rows and stacked again
  pub stacked_rows : (f n : ℕ) (xs : List A) → stacked n (λ i. row f i xs) ≡ take (n * f) xs
  stacked_rows f zero xs = rw zero-mul refl
  stacked_rows f (suc n) xs = rw next_row (ap (λ (l : List A). take f xs ++ l) (stacked_rows f n (drop f xs)) ∙ sym (take-add f (n * f) xs))

  pub stacked_all : (f n : ℕ) (xs : List A) → length xs ≡ n * f → stacked n (λ i. row f i xs) ≡ xs
  stacked_all f n xs e = stacked_rows f n xs ∙ take_all (n * f) xs (omega arith)

  module _ (f : ℕ) where
    -- row i of n rows of f, whatever lies after them
    pub row_stacked : (n : ℕ) (g : ℕ → List A) (rest : List A) (i : ℕ) → i < n → ((j : ℕ) → j < n → length (g j) ≡ f)
        → row f i (stacked n g ++ rest) ≡ g i
    row_stacked zero g rest i h e = absurd (not-suc-le-zero h)
    row_stacked (suc n) g rest zero h e =
        rw (append_assoc (g 0) (stacked n (λ j. g (suc j))) rest) (take_at (g 0) _ f (e 0 (omega arith)))
    row_stacked (suc n) g rest (suc i) h e =
        rw (append_assoc (g 0) (stacked n (λ j. g (suc j))) rest, drop_at (g 0) (stacked n (λ j. g (suc j)) ++ rest) f (e 0 (omega arith)))
        (row_stacked n (λ j. g (suc j)) rest i (omega arith) (λ j b. e (suc j) (omega arith)))

    -- set to h i, the rows are those of a function that differs at i alone
    pub set_stacked : (n : ℕ) (g h : ℕ → List A) (rest : List A) (i : ℕ) → i < n → ((j : ℕ) → j < n → length (g j) ≡ f)
        → ((j : ℕ) → (j ≡ i → ⊥) → g j ≡ h j) → set_row f i (h i) (stacked n g ++ rest) ≡ stacked n h ++ rest
    unfolding set_row
    set_stacked zero g h rest i b e same = absurd (not-suc-le-zero b)
    set_stacked (suc n) g h rest zero b e same =
        let later : stacked n (λ j. g (suc j)) ≡ stacked n (λ j. h (suc j)) = stacked_same n _ _ (λ j c. same (suc j) (λ q. omega arith)) in
        rw (append_assoc (g 0) (stacked n (λ j. g (suc j))) rest, drop_at (g 0) (stacked n (λ j. g (suc j)) ++ rest) f (e 0 (omega arith)), later)
        (sym (append_assoc (h 0) (stacked n (λ j. h (suc j))) rest))
    set_stacked (suc n) g h rest (suc i) b e same =
        let first : g 0 ≡ h 0 = same 0 (λ q. omega arith) in
        let later = set_stacked n (λ j. g (suc j)) (λ j. h (suc j)) rest i (omega arith) (λ j c. e (suc j) (omega arith)) (λ j q. same (suc j) (λ p. q (omega arith))) in
        rw (
          append_assoc (g 0) (stacked n (λ j. g (suc j))) rest,
          take_at (g 0) (stacked n (λ j. g (suc j)) ++ rest) f (e 0 (omega arith)),
          drop_at (g 0) (stacked n (λ j. g (suc j)) ++ rest) f (e 0 (omega arith)),
          later,
          first,
        )
        (sym (append_assoc (h 0) (stacked n (λ j. h (suc j))) rest))

    -- the same of rows after which nothing lies
    pub row_of : (n : ℕ) (g : ℕ → List A) (i : ℕ) → i < n → ((j : ℕ) → j < n → length (g j) ≡ f) → row f i (stacked n g) ≡ g i
    row_of n g i h e = rw append-nil at (row_stacked n g [] i h e)

    pub set_of : (n : ℕ) (g h : ℕ → List A) (i : ℕ) → i < n → ((j : ℕ) → j < n → length (g j) ≡ f)
        → ((j : ℕ) → (j ≡ i → ⊥) → g j ≡ h j) → set_row f i (h i) (stacked n g) ≡ stacked n h
    set_of n g h i b e same = rw (append-nil (stacked n g), append-nil (stacked n h)) at (set_stacked n g h [] i b e same)

    -- ---- a row by where it begins

    pub get_or-row : (i k : ℕ) (xs : List A) (d : A) → k < f → get_or (row f i xs) k d ≡ get_or xs (i * f + k) d
    get_or-row i k xs d h = rw (row_at f i xs, get_or-take f (drop (i * f) xs) k d h, get_or-drop) refl

  -- the last rows of all, from k on
  pub over_end : (k : ℕ) (r xs ys : List A) → length xs ≡ k → length ys ≡ length r → over k r (xs ++ ys) ≡ xs ++ r
  unfolding over
  over_end k r xs ys lx ly =
      let none : length (xs ++ ys) ≤ k + length r = rw length-append (omega arith) in
      rw (take_at xs ys k lx, drop_of_length-le (xs ++ ys) none, append-nil) refl
