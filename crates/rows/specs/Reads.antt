-- One line read into the work memory.
use Rattle.std.specs.Prelude.{ℕ, Bool, ◌&&◌, cond, List, ltb, eqb, Float, get_or}
use Rattle.samples.specs.Lists.{row, set_row}
use Rattle.delay.specs.Calls.{both, get_out}
use Rattle.unit.specs.declared.Rings.{Rings}
use Rattle.unit.specs.Layout.{Model, stretch, store_len}
use Rattle.unit.specs.Room.{rings_hold}
use Rattle.rows.specs.Rows.{Rows, rows_of, laid}
use Rattle.rows.specs.Fits.{work_for}

-- R4.5: step 2 of line i of the rings r. A row that its ring doesn't give stays as it is (R3.37)
abbrev pub read_in : ℕ → Rings → ℕ → List Float → Rows → List Float
read_in f r i store rows = get_out (stretch r.lines.lengths i store) (get_or r.lines.cursors i (both 0)) (row f i rows.reads)

-- the work memory after it, if there is `room` for such a frame
unfoldable pub read_laid : Model → ℕ → Rings → ℕ → Bool → List Float → List Float → List Float
read_laid m f r i room store work =
    let rows = rows_of m.lines f work in
    cond room (laid rows.input (set_row f i (read_in f r i store rows) rows.reads) rows.mixed rows.output rows.rings) work

-- line i is one of the model's, and the memory is one of rings of the lengths ls and of frames of f samples
abbrev pub line_room : Model → ℕ → List ℕ → ℕ → ℕ → ℕ → Bool
line_room m f ls i store work = ltb i m.lines && (work_for m f work && (rings_hold f ls && eqb store (store_len m ls)))
