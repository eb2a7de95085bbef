-- A line alone: each band two samples behind the one before it. Private functions alone cite it.
use Rattle.std.specs.Prelude.{List, [], ◌∷◌, Float}
use Rattle.samples.specs.Binary32.{+0}
use Rattle.iir.specs.declared.Filter.{Filter}
use Rattle.iir.specs.declared.Bands.{Bands}
use Rattle.iir.specs.Step.{from_coefficients, step}
use Rattle.iir.specs.Runs.{run_out, run_end}
use Rattle.lanes.specs.declared.four.Four.{Four}
use Rattle.lanes.specs.declared.lanes.Lanes.{Lanes}
use Rattle.bank.specs.declared.line.Last.{Last}
use Rattle.lanes.specs.Four.{beside}
use Rattle.lanes.specs.Lanes.{packed, lane, step_all}

-- after the first four samples: band 0 has taken all of them, band 1 two, and band 2 none; the fourth place is idle
unfoldable pub first_four : Bands → Four → Lanes
first_four b x =
    let f0 = step b.f0 x.v0 in
    let f1 = step f0 x.v1 in
    packed (step (step f1 x.v2) x.v3) (step (step b.f1 f0.y1) f1.y1) b.f2 (from_coefficients +0 +0 +0 +0 +0)

-- after band 0 takes x, and each of the others what the one before it gave two turns ago
unfoldable pub behind : Lanes → Float → Lanes
behind l x = step_all l (beside x l.y2.v0 l.y2.v1 +0)

-- what the bands have still to take, with the samples that are left for band 0: a band has given two that the next has not taken
abbrev to_band1 : Filter → List Float → List Float
to_band1 f xs = f.y2 ∷ f.y1 ∷ run_out f xs

abbrev to_band2 : Filter → Filter → List Float → List Float
to_band2 f g xs = g.y2 ∷ g.y1 ∷ run_out g (to_band1 f xs)

-- what comes out in the end, and the bands then
unfoldable pub outs : Lanes → List Float → List Float
outs l xs = run_out (lane 2 l) (to_band2 (lane 0 l) (lane 1 l) xs)

unfoldable pub ends : Lanes → List Float → Bands
ends l xs =
    record {
      f0 = run_end (lane 0 l) xs;
      f1 = run_end (lane 1 l) (to_band1 (lane 0 l) xs);
      f2 = run_end (lane 2 l) (to_band2 (lane 0 l) (lane 1 l) xs);
    }

-- four samples in their order
abbrev pub in_turn : Four → List Float
in_turn y = y.v0 ∷ y.v1 ∷ y.v2 ∷ y.v3 ∷ []

-- with none left: the last four samples, and the bands
unfoldable pub last_four : Lanes → Last
last_four l =
    let g0 = step (lane 1 l) l.y2.v0 in
    let g1 = step g0 l.y1.v0 in
    let h0 = step (lane 2 l) l.y2.v1 in
    let h1 = step h0 l.y1.v1 in
    let h2 = step h1 g0.y1 in
    let h3 = step h2 g1.y1 in
    record { b = record { f0 = lane 0 l; f1 = g1; f2 = h3 }; y = beside h0.y1 h1.y1 h2.y1 h3.y1 }
