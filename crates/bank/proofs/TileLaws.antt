-- A tile by line: what stands in a column, and what a column set there leaves of each line's samples. Assumes nothing.
use Rattle.std.proofs.Common.{◌≡◌, refl, ℕ, zero, suc, ◌<◌, List, [], ◌∷◌, Float, length, get_or, set, arith}
use Rattle.std.proofs.Math.ListN.{length-map}
use Rattle.std.proofs.lemmas.List.{map-set}
use Rattle.lanes.specs.declared.four.Four.{Four}
use Rattle.lanes.specs.Four.{at}
use Rattle.bank.specs.Tile.{strand}

module _ (k : ℕ) where
  pub strand_long : (tile : List Four) → length (strand k tile) ≡ length tile
  strand_long tile = length-map tile (at k)

  pub strand_at : (tile : List Four) (j : ℕ) (d : Four) (z : Float) → j < length tile → get_or (strand k tile) j z ≡ at k (get_or tile j d)
  strand_at [] j d z h = absurd (omega arith)
  strand_at (y ∷ tile) zero d z h = refl
  strand_at (y ∷ tile) (suc j) d z h = strand_at tile j d z (omega arith)

  pub strand-set : (tile : List Four) (j : ℕ) (y : Four) → strand k (set tile j y) ≡ set (strand k tile) j (at k y)
  strand-set tile j y = map-set (at k) tile j y
