-- What a pass over a row leaves. Private functions alone cite it.
use Rattle.std.specs.Prelude.{Bool, List, ℕ, length, get_or, Float}
use Rattle.std.specs.Float.{nan}
use Rattle.hadamard.specs.Mix.{each, plus_minus, sum_of}
use Rattle.hadamard.specs.Rows.{column}

-- to each sample of a row its like in another, with a minus or without
unfoldable pub signed : Bool → List Float → List Float → List Float
signed m xs row = each (length row) (λ t. plus_minus m (get_or row t nan) (get_or xs t nan))

-- to each sample of a row its like in xs, with a minus or without, and then its like in ys
unfoldable pub signed_twice : Bool → Bool → List Float → List Float → List Float → List Float
signed_twice m m' xs ys row = each (length row) (λ t. plus_minus m' (plus_minus m (get_or row t nan) (get_or xs t nan)) (get_or ys t nan))

-- sample t of the first n rows, summed by the signs of row r
unfoldable pub row_sum : ℕ → ℕ → ℕ → List Float → ℕ → Float
row_sum r n f w t = sum_of r (column n f t w)
