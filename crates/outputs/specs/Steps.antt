-- Step 5 of n lines in a work memory (R4.10 to R4.12, R5.14).
use Rattle.std.specs.Prelude.{ℕ, Bool, cond, List, Float, length}
use Rattle.samples.specs.Lists.{over}
use Rattle.iir.specs.declared.Filter.{Filter}
use Rattle.unit.specs.Room.{AllpassRings}
use Rattle.unit.specs.Layout.{filter_at}
use Rattle.unit.specs.declared.Rings.{Rings}
use Rattle.stages.specs.Frame.{OutputRow, output_row}
use Rattle.rows.specs.Rows.{Rows, rows_of, laid}
use Rattle.rows.specs.Fits.{output_fits}

-- R4.10 to R4.12, R5.15: step 5 from the rows read and the floats of the allpass rings p, the sum divided by d
abbrev pub output_in : ℕ → ℕ → Float → AllpassRings → List Filter → Rows → OutputRow
output_in n f d p fs r = output_row n f d p.lengths p.cursors fs r.rings r.reads

-- R5.14, R5.17: the work memory after it, if there is `room` for such a frame: else all is as it was (R3.37)
unfoldable pub output_laid : ℕ → ℕ → Float → AllpassRings → List Filter → Bool → List Float → List Float
output_laid n f d p fs room work =
    let r = rows_of n f work in
    let x = output_in n f d p fs r in
    cond room (laid r.input r.reads r.mixed x.out x.rings) work

-- R5.14, R5.17: and the filters. The tone's three are those after the lines'
unfoldable pub output_ends : ℕ → ℕ → Float → AllpassRings → List Filter → Bool → List Float → List Filter
output_ends n f d p fs room work = cond room (over (filter_at n) (output_in n f d p fs (rows_of n f work)).filters fs) fs

-- both where n, f and the length of the memory are judged (R3.37)
abbrev pub output_made : ℕ → ℕ → Float → Rings → List Filter → List Float → List Float
output_made n f d r fs work = output_laid n f d r.passes fs (output_fits n f r.passes.lengths (length work)) work

abbrev pub output_after : ℕ → ℕ → Float → Rings → List Filter → List Float → List Filter
output_after n f d r fs work = output_ends n f d r.passes fs (output_fits n f r.passes.lengths (length work)) work
