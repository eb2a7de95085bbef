-- Steps 2 to 4 of a frame, over the lines. Rows of f samples lie one after the other: each definition does the first, and then n rows more.
use Rattle.std.specs.Prelude.{ℕ, zero, suc, ◌+◌, Float, get_or, take, drop}
use mathlib.Core.List.{List, [], ◌∷◌, ◌++◌, zip_with}
use Rattle.std.specs.Float.{nan}
use Rattle.samples.specs.Binary32.{◌⊕◌}
use Rattle.delay.specs.declared.Cursors.{Cursors}
use Rattle.delay.specs.Ring.{read}
use Rattle.delay.specs.Calls.{both}
use Rattle.iir.specs.declared.Filter.{Filter}
use Rattle.iir.specs.declared.Bands.{Bands}
use Rattle.iir.specs.Step.{from_coefficients}
use Rattle.iir.specs.Runs.{run_out, bands_end}
use Rattle.unit.specs.Layout.{bands_len, per_filter}

-- what a list of filters holds past its end
abbrev pub no_filter : Filter
no_filter = record { a1 = nan; a2 = nan; b0 = nan; b1 = nan; b2 = nan; x1 = nan; x2 = nan; y1 = nan; y2 = nan }

-- R4.3, R1.16: step 1, new filters of the coefficients, five each
unfoldable pub filters_of : ℕ → List Float → List Filter
filters_of zero cs = []
filters_of (suc n) cs =
    from_coefficients (get_or cs 0 nan) (get_or cs 1 nan) (get_or cs 2 nan) (get_or cs 3 nan) (get_or cs 4 nan) ∷ filters_of n (drop per_filter cs)

-- R4.5: step 2, the rows read of n lines, from line i on. ls are the lengths of the rings, which the store holds one after the other
unfoldable pub read_rows : ℕ → ℕ → ℕ → List ℕ → List Cursors → List Float → List Float
read_rows f zero i ls cs store = []
read_rows f (suc n) i ls cs store =
    read (take (get_or ls i 0) store) (get_or cs i (both 0)).read.0 f ++ read_rows f n (i + 1) ls cs (drop (get_or ls i 0) store)

-- R4.7: step 4. Each row through one filter of its line, the first through filter k: a line has three, so the next line's is k + 3
unfoldable pub band_rows : ℕ → ℕ → ℕ → List Filter → List Float → List Float
band_rows f zero k fs rows = []
band_rows f (suc n) k fs rows = run_out (get_or fs k no_filter) (take f rows) ++ band_rows f n (k + bands_len) fs (drop f rows)

-- the three filters from k on
abbrev pub three : ℕ → List Filter → Bands
three k fs = record { f0 = get_or fs k no_filter; f1 = get_or fs (k + 1) no_filter; f2 = get_or fs (k + 2) no_filter }

abbrev pub three_of : Bands → List Filter
three_of b = b.f0 ∷ b.f1 ∷ b.f2 ∷ []

-- R4.7: the filters after their rows, three a line
unfoldable pub band_ends : ℕ → ℕ → ℕ → List Filter → List Float → List Filter
band_ends f zero k fs rows = []
band_ends f (suc n) k fs rows = three_of (bands_end (three k fs) (take f rows)) ++ band_ends f n (k + bands_len) fs (drop f rows)

-- one row added to another, sample by sample
abbrev pub plus : List Float → List Float → List Float
plus xs ys = zip_with ◌⊕◌ xs ys

-- R4.8: the input added to each row
unfoldable pub add_rows : ℕ → ℕ → List Float → List Float → List Float
add_rows f zero input rows = []
add_rows f (suc n) input rows = plus (take f rows) input ++ add_rows f n input (drop f rows)

-- R4.10: step 5, each row onto the sum of those before it
unfoldable pub sum_rows : ℕ → ℕ → List Float → List Float → List Float
sum_rows f zero sum rows = sum
sum_rows f (suc n) sum rows = sum_rows f n (plus sum (take f rows)) (drop f rows)
