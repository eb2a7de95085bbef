-- The three bands of four lines, side by side.
use Rattle.std.specs.Prelude.{ℕ}
use Rattle.iir.specs.declared.Bands.{Bands}
use Rattle.lanes.specs.declared.band_lanes.FourBands.{FourBands}
use Rattle.lanes.specs.declared.four.Four.{Four}
use Rattle.lanes.specs.declared.band_lanes.BandLanes.{BandLanes}
use Rattle.lanes.specs.Lanes.{packed, lane, step_all}

-- the bands of four lines, band by band
unfoldable pub by_band : FourBands → BandLanes
by_band b =
    record {
      l0 = packed b.b0.f0 b.b1.f0 b.b2.f0 b.b3.f0;
      l1 = packed b.b0.f1 b.b1.f1 b.b2.f1 b.b3.f1;
      l2 = packed b.b0.f2 b.b1.f2 b.b2.f2 b.b3.f2;
    }

-- the bands of line k
abbrev pub bands_at : ℕ → BandLanes → Bands
bands_at k g = record { f0 = lane k g.l0; f1 = lane k g.l1; f2 = lane k g.l2 }

-- R3.25: the bands after one sample of each line. What comes out of a band goes into the next
unfoldable pub step_bands : BandLanes → Four → BandLanes
step_bands g x =
    let l0 = step_all g.l0 x in
    let l1 = step_all g.l1 l0.y1 in
    record { l0 = l0; l1 = l1; l2 = step_all g.l2 l1.y1 }
