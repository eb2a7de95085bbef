-- What a call leaves of a list, and rows that lie one after the other.
use Rattle.std.specs.Prelude.{Bool, true, ◌&&◌, List, [], ◌∷◌, ◌++◌, ℕ, zero, suc, ◌+◌, length, take, drop}

-- xs with ys from place `at` on, and all else as it was
unfoldable pub over : {A : Type 0} → ℕ → List A → List A → List A
over at ys xs = take at xs ++ (ys ++ drop (at + length ys) xs)

-- row i of rows of f, and the rows with r in its place
abbrev pub row : {A : Type 0} → ℕ → ℕ → List A → List A
row f zero rows = take f rows
row f (suc i) rows = row f i (drop f rows)

unfoldable pub set_row : {A : Type 0} → ℕ → ℕ → List A → List A → List A
set_row f zero r rows = r ++ drop f rows
set_row f (suc i) r rows = take f rows ++ set_row f i r (drop f rows)

-- p holds of each element at its place, the places counted from k
abbrev pub all_from : {A : Type 0} → (ℕ → A → Bool) → ℕ → List A → Bool
all_from p k [] = true
all_from p k (x ∷ xs) = p k x && all_from p (suc k) xs
