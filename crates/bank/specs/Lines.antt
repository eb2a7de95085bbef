-- Rows that lie one after the other, each through the bands of its line.
use Rattle.std.specs.Prelude.{ℕ, List, [], ◌∷◌, ◌++◌, Float, take, drop}
use Rattle.iir.specs.declared.Bands.{Bands}
use Rattle.iir.specs.Runs.{bands_out, bands_end}
use Rattle.lanes.specs.declared.band_lanes.FourBands.{FourBands}

-- the bands of four lines in their order
abbrev pub lines : FourBands → List Bands
lines b = b.b0 ∷ b.b1 ∷ b.b2 ∷ b.b3 ∷ []

-- R4.7: each row of f samples through the bands of its line, and what lies after them as it was
unfoldable pub lines_out : ℕ → List Bands → List Float → List Float
lines_out f [] rows = rows
lines_out f (b ∷ bs) rows = bands_out b (take f rows) ++ lines_out f bs (drop f rows)

-- the filters after them
unfoldable pub lines_end : ℕ → List Bands → List Float → List Bands
lines_end f [] rows = []
lines_end f (b ∷ bs) rows = bands_end b (take f rows) ∷ lines_end f bs (drop f rows)
