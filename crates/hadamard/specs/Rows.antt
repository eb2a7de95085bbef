-- The mix of rows: n rows that were read, and after them n mixed rows, all of equal length.
use Rattle.std.specs.Prelude.{◌≡◌, List, [], ◌∷◌, ◌++◌, ℕ, zero, suc, ◌*◌, ◌/◌, ◌%◌, eqb, length, get_or, take, drop, Float, Err}
use Rattle.std.specs.Float.{nan}
use Rattle.samples.specs.Answers.{Answer, Accepted, need}
use Rattle.samples.specs.declared.Refusal.TheVariants.{BadLength}
use Rattle.hadamard.specs.Mix.{each, joined, mix_at, mixed}

-- sample t of each of n rows of f samples
abbrev pub column : ℕ → ℕ → ℕ → List Float → List Float
column zero f t rows = []
column (suc n) f t rows = get_or rows t nan ∷ column n f t (drop f rows)

-- R3.30: sample t of mixed row r is y[r] of the samples t that were read
unfoldable pub mixed_row : ℕ → ℕ → Float → List Float → ℕ → List Float
mixed_row n f k reads r = each f (λ t. mix_at k r (column n f t reads))

-- the n mixed rows, one after the other
unfoldable pub mixed_rows : ℕ → ℕ → Float → List Float → List Float
mixed_rows n f k reads = joined n (mixed_row n f k reads)

-- R3.30: of rows that are one sample long it is the mix of that sample
abbrev pub OneSample : Type 0
OneSample = (n : ℕ) (k : Float) (xs : List Float) → length xs ≡ n → mixed_rows n 1 k xs ≡ mixed n k xs

-- R3.31: a multiple of 2 n, which with no lines is 0 alone
unfoldable pub judged_rows : ℕ → ℕ → Answer
judged_rows n len = need (eqb (len % (2 * n)) 0) (Err BadLength) Accepted

-- R3.31: the rows that were read as they were, and the mixed rows of them
unfoldable pub rows_mixed : ℕ → Float → List Float → List Float
rows_mixed n k rows =
    let f = length rows / (2 * n) in
    let reads = take (n * f) rows in
    reads ++ mixed_rows n f k reads
