-- R2.37: the search for the first sample that isn't finite.
use Rattle.std.specs.Prelude.{Bool, true, false, cond, List, [], ◌∷◌, ℕ, suc, Option, Some, None, Float}
use Rattle.samples.specs.Binary32.{finite}

-- the first sample that is not finite, the places counted from k
abbrev pub first_from : ℕ → List Float → Option ℕ
first_from k [] = None
first_from k (x ∷ xs) = cond (finite x) (first_from (suc k) xs) (Some k)

abbrev pub first_bad : List Float → Option ℕ
first_bad xs = first_from 0 xs

-- whether a search found nothing
abbrev pub nothing : Option ℕ → Bool
nothing (Some k) = false
nothing None = true

-- R2.17, R4.14: no sample is bad
abbrev pub all_finite : List Float → Bool
all_finite xs = nothing (first_bad xs)
