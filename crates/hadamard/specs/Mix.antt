-- The mix of one sample of each line (R3.26 to R3.29), here of n lines, and times k.
use Rattle.std.specs.Prelude.{Bool, cond, ◌&&◌, List, [], ◌∷◌, ◌++◌, ℕ, zero, suc, ◌%◌, eqb, Float, Err}
use Rattle.std.specs.Int.Bits.{bit_and}
use Rattle.std.specs.Int.Count.{ones}
use Rattle.std.specs.Float.{binary32}
use Rattle.std.specs.Float.Ieee.{of_bits}
use Rattle.samples.specs.Binary32.{◌⊕◌, ◌⊖◌, ◌⊗◌, +0}
use Rattle.samples.specs.Answers.{Answer, Accepted, need}
use Rattle.samples.specs.declared.Refusal.TheVariants.{BadLength}

-- R3.26: the sign of row r and column c
unfoldable pub minus : ℕ → ℕ → Bool
minus r c = eqb (ones (bit_and r c) % 2) 1

-- a sum with one number more, with a minus or without
abbrev pub plus_minus : Bool → Float → Float → Float
plus_minus m sum x = cond m (sum ⊖ x) (sum ⊕ x)

-- R3.27: the columns from c on, onto the sum of those before them
abbrev pub sum_from : ℕ → ℕ → Float → List Float → Float
sum_from r c sum [] = sum
sum_from r c sum (x ∷ xs) = sum_from r (suc c) (plus_minus (minus r c) sum x) xs

-- R3.27: the sum begins with x[0] itself, which no row takes with a minus, and not with +0, to which -0 adds as +0
abbrev pub sum_of : ℕ → List Float → Float
sum_of r [] = +0
sum_of r (x ∷ xs) = sum_from r 1 x xs

-- R3.28: y[r], the sum and then the factor
unfoldable pub mix_at : Float → ℕ → List Float → Float
mix_at k r xs = sum_of r xs ⊗ k

-- g 0, then g 1, and so on to g (n - 1): of lists, and of elements
abbrev pub joined : {A : Type 0} → ℕ → (ℕ → List A) → List A
joined zero g = []
joined (suc n) g = joined n g ++ g n

abbrev pub each : {A : Type 0} → ℕ → (ℕ → A) → List A
each n g = joined n (λ i. g i ∷ [])

-- y[0] to y[n - 1]
unfoldable pub mixed : ℕ → Float → List Float → List Float
mixed n k xs = each n (λ r. mix_at k r xs)

-- the factor 0.25
abbrev pub quarter : Float
quarter = of_bits binary32 0x3e80_0000

-- R3.29: how many lines the mix on its own is of
abbrev pub width : ℕ
width = 16

-- R3.29: a float of each line in both
unfoldable pub judged_sample : ℕ → ℕ → Answer
judged_sample x y = need (eqb x width && eqb y width) (Err BadLength) Accepted
