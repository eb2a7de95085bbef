-- What is judged of the work memory of n lines, by its rows. Assumes nothing.
use mathlib.Core.Path.{◌≡◌, ap, ◌∙◌}
use mathlib.Core.Bool.{Bool, ◌&&◌}
use mathlib.Core.List.{List, ◌++◌}
use Prim.Native.Nat.{ℕ, ◌+◌, ◌*◌}
use lib.Ieee.{Float}
use lib.ListN.{take, drop}
use Rattle.search.specs.Search.{all_finite}
use Rattle.search.proofs.Finite.{finite-append}
use Rattle.iir.specs.declared.Filter.{Filter}
use Rattle.stages.specs.Settle.{filters_finite}
use Rattle.rows.specs.Rows.{rows_of}
use Rattle.rows.proofs.RowsOf.{from_mixed}
use Rattle.frame.specs.Parts.{rows_finite}

module _ (n f : ℕ) (w : List Float) where
  abbrev k : ℕ
  k = n * f

  -- what is judged of them
  pub judged_rows_lem : (fs : List Filter) → (filters_finite fs && all_finite (drop (f + k) w)) ≡ rows_finite fs (rows_of n f w)
  unfolding rows_finite rows_of
  judged_rows_lem fs =
      ap (λ (b : Bool). filters_finite fs && b)
      (ap all_finite (from_mixed n f w)
      ∙ finite-append (take k (drop (f + k) w)) (take f (drop (f + k + k) w) ++ drop (f + k + k + f) w)
      ∙ ap (λ (b : Bool). all_finite (take k (drop (f + k) w)) && b) (finite-append (take f (drop (f + k + k) w)) (drop (f + k + k + f) w)))
