-- The turn of the loop that makes the filters of coefficients. Assumes nothing.
use mathlib.Core.Path.{◌≡◌, refl, ◌∙◌}
use mathlib.Core.List.{List, ◌∷◌, ◌++◌}
use Prim.Native.Nat.{ℕ, ◌+◌, ◌-◌, ◌<◌}
use native.Mathlib.Nat.{add-zero}
use lib.Ieee.{Float, nan}
use lib.ListN.{length, get_or, take, drop, set}
use lib.Seq.{drop-drop, get_or-drop}
use Rattle.samples.proofs.Turns.{more, stored}
use Rattle.iir.specs.declared.Filter.{Filter}
use Rattle.iir.specs.Step.{from_coefficients}
use Rattle.stages.specs.Lines.{no_filter, filters_of}

-- the filters so far, then those of the coefficients from k on
pub filters_turn : (n i k : ℕ) (cs : List Float) (fs X : List Filter) (g : Filter) → i < n → i < length fs
    → g ≡ from_coefficients (get_or cs k nan) (get_or cs (k + 1) nan) (get_or cs (k + 2) nan) (get_or cs (k + 3) nan) (get_or cs (k + 4) nan)
    → take i fs ++ filters_of (n - i) (drop k cs) ≡ X → take (i + 1) (set fs i g) ++ filters_of (n - (i + 1)) (drop (k + 5) cs) ≡ X
unfolding filters_of
filters_turn n i k cs fs X g h l e q =
    let at : (j : ℕ) → get_or (drop k cs) j nan ≡ get_or cs (k + j) nan = λ j. get_or-drop k cs j nan in
    let left : filters_of (n - i) (drop k cs) ≡ g ∷ filters_of (n - (i + 1)) (drop (k + 5) cs) =
    rw (more n i h, at 0, at 1, at 2, at 3, at 4, add-zero k, drop-drop 5 k cs, e) refl in
    stored fs i no_filter l g left ∙ q
