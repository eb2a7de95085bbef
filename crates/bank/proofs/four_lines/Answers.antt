-- `bank::four_lines` meets its contract. Assumes nothing.
use mathlib.Core.Path.{◌≡◌, refl}
use Rattle.lanes.specs.declared.band_lanes.FourBands.{FourBands}
use Rattle.lanes.specs.Lanes.{packed, lane}
use Rattle.lanes.specs.BandLanes.{by_band, bands_at}
use Rattle.bank.specs.Lines.{lines}
use Rattle.bank.specs.Tile.{lined}
use Rattle.bank.proofs.four_lines.Goals as goal

-- the bands of four lines, packed and looked up again
bank_lines : (b : FourBands) → lined (λ k. bands_at k (by_band b)) ≡ lines b
unfolding by_band packed lane
bank_lines b = refl

pub returns : goal.returns
returns c =
    let same = bank_lines c.args.b in
    let ends = rw (c.by_band.ensures, same) at c.run_rows-g.ensures.value in
    let outs = rw (c.by_band.ensures, same) at c.run_rows-g.ensures.rows_after in
    record {
      value = rw (c.bands_at.ensures, c.bands_at-2.ensures, c.bands_at-3.ensures, c.bands_at-4.ensures) ends;
      rows_after = outs;
    }
