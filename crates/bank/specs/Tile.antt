-- Rows as columns: those of one time side by side. Private functions alone cite it.
use Rattle.std.specs.Prelude.{ℕ, ◌+◌, ◌*◌, ◌<◌, ◌≡◌, List, [], ◌∷◌, Float, length, map, get_or, take, drop, set}
use Rattle.std.specs.Float.{nan}
use Rattle.samples.specs.Lists.{over, row}
use Rattle.iir.specs.declared.Bands.{Bands}
use Rattle.iir.specs.Runs.{bands_out, bands_end}
use Rattle.lanes.specs.declared.four.Four.{Four}
use Rattle.lanes.specs.declared.band_lanes.BandLanes.{BandLanes}
use Rattle.lanes.specs.Four.{at}
use Rattle.lanes.specs.BandLanes.{bands_at}

-- sample t of each of four rows of f samples, and the rows with others there
unfoldable pub four_at : ℕ → ℕ → List Float → Four
four_at f t rows =
    record { v0 = get_or rows t nan; v1 = get_or rows (f + t) nan; v2 = get_or rows (f + (f + t)) nan; v3 = get_or rows (f + (f + (f + t))) nan }

unfoldable pub four_put : ℕ → ℕ → Four → List Float → List Float
four_put f t y rows =
    set (set (set (set rows t y.v0) (f + t) y.v1) (f + (f + t)) y.v2) (f + (f + (f + t))) y.v3

-- line k's samples in a tile
abbrev pub strand : ℕ → List Four → List Float
strand k tile = map (at k) tile

-- ---- what is said of each of four lines

-- the bands of the four lines in their order
abbrev pub lined : (ℕ → Bands) → List Bands
lined b = b 0 ∷ b 1 ∷ b 2 ∷ b 3 ∷ []

-- the tile holds as many samples of its row, from t on
abbrev pub Filled : ℕ → ℕ → List Float → List Four → Type 0
Filled f t rows tile = (k : ℕ) → k < 4 → strand k tile ≡ take (length tile) (drop t (row f k rows))

-- its row holds the tile's samples from t on, and what lies after the rows is as it was
abbrev pub Stored : ℕ → ℕ → List Four → List Float → List Float → Type 0
Stored f t tile rows last =
    ((k : ℕ) → k < 4 → row f k last ≡ over t (strand k tile) (row f k rows)) × (drop (4 * f) last ≡ drop (4 * f) rows)
    × (length last ≡ length rows)

-- its samples have gone through its bands: from b to g, from the tile to the last
abbrev pub Played : BandLanes → BandLanes → List Four → List Four → Type 0
Played b g tile last =
    (k : ℕ) → (strand k last ≡ bands_out (bands_at k b) (strand k tile)) × (bands_at k g ≡ bands_end (bands_at k b) (strand k tile))

-- its row holds, from t on, what its bands g make of the m samples there; h are the bands after them
abbrev pub Turned : ℕ → ℕ → ℕ → BandLanes → BandLanes → List Float → List Float → Type 0
Turned f t m g h rows last =
    ((k : ℕ) → k < 4
    → let xs = take m (drop t (row f k rows)) in
    (row f k last ≡ over t (bands_out (bands_at k g) xs) (row f k rows)) × (bands_at k h ≡ bands_end (bands_at k g) xs))
    × (drop (4 * f) last ≡ drop (4 * f) rows) × (length last ≡ length rows)
