-- What the steps on rows ask of the memory lent (R3.37).
use Rattle.std.specs.Prelude.{ℕ, ◌+◌, ◌%◌, Bool, ◌&&◌, List, leb, eqb}
use Rattle.samples.specs.Sizes.{frame_ok}
use Rattle.delay.specs.Calls.{longest_ring}
use Rattle.unit.specs.Layout.{Model, wall, total, places_of, work_len}

-- from one line to all of the wall unit's, and rows no longer than a ring may be
unfoldable pub few_rows : ℕ → ℕ → Bool
few_rows n f = leb 1 n && (leb n wall.lines && leb f longest_ring)

-- `len` floats are the input, n rows read and n mixed
unfoldable pub lines_fit : ℕ → ℕ → ℕ → Bool
lines_fit n f len = few_rows n f && eqb len (places_of n f).output

-- `len` floats are the input, n rows read, n mixed, the output, and allpass rings of the lengths ps
unfoldable pub output_fits : ℕ → ℕ → List ℕ → ℕ → Bool
output_fits n f ps len = few_rows n f && (eqb (f % 4) 0 && eqb len ((places_of n f).rings + total ps))

-- a work memory is one of frames of f samples
abbrev pub work_for : Model → ℕ → ℕ → Bool
work_for m f work = frame_ok f && eqb work (work_len m f)
