-- What steps 3 and 4 of n lines leave of the rows lent and of the filters: where the rows don't fit, all is as it was (R3.37).
use Rattle.std.specs.Prelude.{ℕ, ◌*◌, Bool, cond, List, ◌++◌, Float, length, take, drop}
use Rattle.iir.specs.declared.Filter.{Filter}
use Rattle.unit.specs.Layout.{filter_at}
use Rattle.stages.specs.Frame.{LineRows, line_rows}
use Rattle.rows.specs.Fits.{lines_fit}

-- R4.6 to R4.9: steps 3 and 4 from the input and the n rows read after it
abbrev pub lines_in : ℕ → ℕ → Float → Bool → List Filter → List Float → LineRows
lines_in n f k tail fs rows = line_rows n f k tail fs (take f rows) (take (n * f) (drop f rows))

unfoldable pub lines_laid : ℕ → ℕ → Float → Bool → List Filter → List Float → List Float
lines_laid n f k tail fs rows =
    cond (lines_fit n f (length rows)) (take f rows ++ (take (n * f) (drop f rows) ++ (lines_in n f k tail fs rows).put)) rows

unfoldable pub lines_ends : ℕ → ℕ → Float → Bool → List Filter → List Float → List Filter
lines_ends n f k tail fs rows = cond (lines_fit n f (length rows)) ((lines_in n f k tail fs rows).filters ++ drop (filter_at n) fs) fs
