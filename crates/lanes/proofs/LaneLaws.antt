-- One sample of four lines side by side is one sample of each. Assumes nothing.
use mathlib.Core.Path.{◌≡◌, refl}
use mathlib.Core.List.{List, ◌∷◌}
use Prim.Native.Nat.{ℕ, zero, suc}
use lib.Ieee.{Float}
use Rattle.iir.specs.Step.{out_of, step}
use Rattle.iir.specs.Runs.{bands_out, bands_end}
use Rattle.iir.proofs.Laws.{peel, peel_end}
use Rattle.lanes.specs.declared.four.Four.{Four}
use Rattle.lanes.specs.declared.lanes.Lanes.{Lanes}
use Rattle.lanes.specs.declared.band_lanes.BandLanes.{BandLanes}
use Rattle.lanes.specs.Four.{at}
use Rattle.lanes.specs.Lanes.{lane, step_all}
use Rattle.lanes.specs.BandLanes.{bands_at, step_bands}

-- line k's filter after the step is its filter's step
pub lane-step : (k : ℕ) (l : Lanes) (x : Four) → lane k (step_all l x) ≡ step (lane k l) (at k x)
unfolding lane step_all step out_of
lane-step zero l x = refl
lane-step (suc zero) l x = refl
lane-step (suc (suc zero)) l x = refl
lane-step (suc (suc (suc k))) l x = refl

-- one sample of line k's row goes through its three bands
module _ (k : ℕ) (g : BandLanes) (x : Four) {l r : List Float} (e : l ≡ at k x ∷ r) where
  pub bank_out : bands_out (bands_at k g) l ≡ at k (step_bands g x).l2.y1 ∷ bands_out (bands_at k (step_bands g x)) r
  unfolding bands_out step_bands lane
  bank_out =
      let h = step_bands g x in
      let p0 = peel (lane k g.l0) (lane-step k g.l0 x) e in
      let p1 = peel (lane k g.l1) (lane-step k g.l1 h.l0.y1) p0 in
      peel (lane k g.l2) (lane-step k g.l2 h.l1.y1) p1

  pub bank_end : bands_end (bands_at k g) l ≡ bands_end (bands_at k (step_bands g x)) r
  unfolding bands_end step_bands lane
  bank_end =
      let h = step_bands g x in
      let p0 = peel (lane k g.l0) (lane-step k g.l0 x) e in
      let p1 = peel (lane k g.l1) (lane-step k g.l1 h.l0.y1) p0 in
      λ i. record {
        f0 = peel_end (lane k g.l0) (lane-step k g.l0 x) e i;
        f1 = peel_end (lane k g.l1) (lane-step k g.l1 h.l0.y1) p0 i;
        f2 = peel_end (lane k g.l2) (lane-step k g.l2 h.l1.y1) p1 i;
      }
