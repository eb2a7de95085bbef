-- The turns of the loop over a line alone: what holds as sample i is put, why it holds at the next, and what it says at the end. Assumes
-- nothing.
use mathlib.Core.Path.{◌≡◌, refl, sym, ap, ◌∙◌}
use mathlib.Core.List.{List, [], ◌∷◌, ◌++◌}
use Prim.Native.Nat.{ℕ, ◌+◌, ◌-◌, ◌<◌, ◌≤◌}
use native.Mathlib.Omega.{arith}
use lib.Ieee.{Float, nan}
use lib.ListN.{length, get_or, take, drop, set, length-set, drop_of_length-le}
use lib.Seq.{drop-set-lt}
use Rattle.samples.proofs.Turns.{next, stored}
use Rattle.iir.specs.declared.Bands.{Bands}
use Rattle.iir.specs.Runs.{bands_out, bands_end}
use Rattle.lanes.specs.declared.four.Four.{Four}
use Rattle.lanes.specs.declared.lanes.Lanes.{Lanes}
use Rattle.bank.specs.declared.line.Last.{Last}
use Rattle.lanes.specs.Four.{beside}
use Rattle.bank.specs.Behind.{first_four, behind, outs, ends, in_turn, last_four}
use Rattle.bank.proofs.BehindLaws.{begun-outs, begun-ends, behind-outs, behind-ends, ended-outs, ended-ends}

-- n samples are to be put before the last four
abbrev pub Behind : ℕ → Lanes → List Float → ℕ → Lanes → List Float → Type 0
Behind n b xs₀ i l xs =
    (n + 4 ≡ length xs₀) × (i ≤ n) × (length xs ≡ length xs₀) × (take i xs ++ outs l (drop (i + 4) xs) ≡ outs b (drop 4 xs₀))
    × (ends l (drop (i + 4) xs) ≡ ends b (drop 4 xs₀))

module _ (n : ℕ) (b : Lanes) (xs₀ : List Float) (i : ℕ) (l : Lanes) (xs : List Float) (v : Behind n b xs₀ i l xs) where
  pub one_put : (h : Lanes) → i < n → h ≡ behind l (get_or xs (i + 4) nan) → Behind n b xs₀ (i + 1) h (set xs i h.y1.v2)
  one_put h lt e =
      let x = get_or xs (i + 4) nan in
      let w = (behind l x).y1.v2 in
      let on : i + 1 + 4 ≡ i + 4 + 1 = omega arith in
      let past : drop (i + 1 + 4) (set xs i w) ≡ drop (i + 4 + 1) xs =
      drop-set-lt (i + 1 + 4) xs i w (omega arith) ∙ ap (λ (k : ℕ). drop k xs) on in
      let left : drop (i + 4) xs ≡ x ∷ drop (i + 1 + 4) (set xs i w) = next xs (i + 4) nan (omega (arith, v.0, v.2)) ∙ ap (λ (r : List Float). x ∷ r) (sym past) in
      let out = ap (outs l) left ∙ behind-outs l x (drop (i + 1 + 4) (set xs i w)) in
      let end = ap (ends l) left ∙ behind-ends l x (drop (i + 1 + 4) (set xs i w)) in
      rw e (v.0, omega arith, length-set xs i w ∙ v.2, stored xs i nan (omega (arith, v.0, v.2)) w out ∙ v.3, sym end ∙ v.4)

  pub all_put : n ≤ i → (ends l [] ≡ ends b (drop 4 xs₀)) × (length xs ≡ length xs₀) × (take (length xs₀ - 4) xs ++ outs l [] ≡ outs b (drop 4 xs₀))
  all_put h =
      let none = drop_of_length-le xs {i = i + 4} (omega (arith, v.0, v.2)) in
      let at : length xs₀ - 4 ≡ i = omega (arith, v.0, v.1) in
      (rw none at v.4, v.2, rw at (rw none at v.3))

-- ---- the first four samples, and the last

-- the first four
abbrev pub firsts : List Float → Four
firsts xs = beside (get_or xs 0 nan) (get_or xs 1 nan) (get_or xs 2 nan) (get_or xs 3 nan)

firsts_and_rest : (xs : List Float) → 4 ≤ length xs → xs ≡ in_turn (firsts xs) ++ drop 4 xs
firsts_and_rest [] h = absurd (omega arith)
firsts_and_rest (x ∷ []) h = absurd (omega arith)
firsts_and_rest (x ∷ y ∷ []) h = absurd (omega arith)
firsts_and_rest (x ∷ y ∷ z ∷ []) h = absurd (omega arith)
firsts_and_rest (x ∷ y ∷ z ∷ w ∷ xs) h = refl

-- a row whose first four samples have begun it, and whose last four are put
pub line_done : (b : Bands) (xs₀ xs last : List Float) (l : Lanes) (r : Last) → 4 ≤ length xs₀
    → (ends l [] ≡ ends (first_four b (firsts xs₀)) (drop 4 xs₀)) × (length xs ≡ length xs₀)
    × (take (length xs₀ - 4) xs ++ outs l [] ≡ outs (first_four b (firsts xs₀)) (drop 4 xs₀))
    → r ≡ last_four l → last ≡ take (length xs - 4) xs ++ in_turn r.y → (r.b ≡ bands_end b xs₀) × (last ≡ bands_out b xs₀)
line_done b xs₀ xs last l r h v er el =
    let whole = firsts_and_rest xs₀ h in
    rw er (
      sym (ended-ends l) ∙ v.0 ∙ sym (ap (bands_end b) whole ∙ begun-ends b (firsts xs₀) (drop 4 xs₀)),
      rw (er, v.1, ← ended-outs l) at el ∙ v.2 ∙ sym (ap (bands_out b) whole ∙ begun-outs b (firsts xs₀) (drop 4 xs₀)),
    )
