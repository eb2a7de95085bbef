-- A line alone, each band two samples behind the one before it, gives what three runs give. Assumes nothing.
use mathlib.Core.Path.{◌≡◌, refl}
use mathlib.Core.List.{List, [], ◌∷◌, ◌++◌}
use lib.Ieee.{Float}
use Rattle.iir.specs.declared.Bands.{Bands}
use Rattle.iir.specs.Step.{out_of, step}
use Rattle.iir.specs.Runs.{bands_out, bands_end}
use Rattle.lanes.specs.declared.four.Four.{Four}
use Rattle.lanes.specs.declared.lanes.Lanes.{Lanes}
use Rattle.lanes.specs.Lanes.{packed, lane, step_all}
use Rattle.bank.specs.Behind.{first_four, behind, outs, ends, in_turn, last_four}

-- the first four samples
module _ (b : Bands) (x : Four) (xs : List Float) where
  pub begun-outs : bands_out b (in_turn x ++ xs) ≡ outs (first_four b x) xs
  unfolding bands_out outs first_four packed lane step out_of
  begun-outs = refl

  pub begun-ends : bands_end b (in_turn x ++ xs) ≡ ends (first_four b x) xs
  unfolding bands_end ends first_four packed lane step out_of
  begun-ends = refl

-- one turn: band 2 gives a sample
module _ (l : Lanes) (x : Float) (xs : List Float) where
  pub behind-outs : outs l (x ∷ xs) ≡ (behind l x).y1.v2 ∷ outs (behind l x) xs
  unfolding outs behind lane step_all step out_of
  behind-outs = refl

  pub behind-ends : ends l (x ∷ xs) ≡ ends (behind l x) xs
  unfolding ends behind lane step_all step out_of
  behind-ends = refl

-- none left
module _ (l : Lanes) where
  pub ended-outs : outs l [] ≡ in_turn (last_four l).y
  unfolding outs last_four lane step out_of
  ended-outs = refl

  pub ended-ends : ends l [] ≡ (last_four l).b
  unfolding ends last_four lane step out_of
  ended-ends = refl
