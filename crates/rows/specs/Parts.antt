-- Step 4 in the work memory of a unit of model m, if there is `room` for its frame: else all is as it was (R3.37).
use Rattle.std.specs.Prelude.{ℕ, Bool, cond, List, Float}
use Rattle.samples.specs.Lists.{over, row, set_row}
use Rattle.iir.specs.declared.Filter.{Filter}
use Rattle.iir.specs.Runs.{bands_out, bands_end}
use Rattle.unit.specs.Layout.{Model, filter_at}
use Rattle.stages.specs.Lines.{three, three_of, plus}
use Rattle.rows.specs.Rows.{Rows, rows_of, laid}

-- R5.13: step 4 of line i. Its three filters are those from 3 i on, and a tail adds no input
abbrev pub line_in : ℕ → ℕ → Bool → List Filter → Rows → List Float
line_in f i tail fs r =
    let out = bands_out (three (filter_at i) fs) (row f i r.mixed) in
    cond tail out (plus out r.input)

-- R5.13, R5.17: the work memory after it
unfoldable pub line_laid : Model → ℕ → ℕ → Bool → List Filter → Bool → List Float → List Float
line_laid m f i tail fs room work =
    let r = rows_of m.lines f work in
    cond room (laid r.input r.reads (set_row f i (line_in f i tail fs r) r.mixed) r.output r.rings) work

-- R5.13, R5.17: and the filters
unfoldable pub line_ends : Model → ℕ → ℕ → List Filter → Bool → List Float → List Filter
line_ends m f i fs room work =
    cond room (over (filter_at i) (three_of (bands_end (three (filter_at i) fs) (row f i (rows_of m.lines f work).mixed))) fs) fs
