-- The total of the first lengths of a list, and a total judged by taking one length after the other off what is left. Assumes nothing.
use mathlib.Core.Path.{◌≡◌, refl, sym, ◌∙◌}
use Rattle.std.specs.List.{fold}
use Rattle.std.specs.Prelude.{sum}
use mathlib.Core.Bool.{Bool, true, false}
use mathlib.Core.List.{List, [], ◌∷◌}
use Prim.Native.Nat.{ℕ, zero, suc, ◌+◌, ◌-◌, ◌<◌, ◌≤◌}
use native.Mathlib.Numerals.{add-one}
use native.Mathlib.Omega.{arith}
use lib.Dec.{eqb}
use lib.ListN.{length, get_or, take}
use lib.Seq.{take_all}
use borrow.Author.Tests.{eqb-true, eqb-false, eq-eqb, ne_eqb}
use Rattle.unit.specs.Layout.{total}

pub total_next : (k : ℕ) (ps : List ℕ) → total (take (suc k) ps) ≡ total (take k ps) + get_or ps k 0
unfolding total
total_next zero [] = refl
total_next (suc k) [] = refl
total_next zero (p ∷ ps) = omega arith
total_next (suc k) (p ∷ ps) = omega (arith, total_next k ps)

pub total_front : (k : ℕ) (ps : List ℕ) → total (take k ps) ≤ total ps
unfolding total
total_front zero ps = omega arith
total_front (suc k) [] = omega arith
total_front (suc k) (p ∷ ps) = omega (arith, total_front k ps)

-- what is left of len after i lengths
module _ (ps : List ℕ) (len i rest : ℕ) (e : rest + total (take i ps) ≡ len) where
  pub ring_summed : get_or ps i 0 ≤ rest → rest - get_or ps i 0 + total (take (i + 1) ps) ≡ len
  ring_summed h = rw add-one (omega (arith, total_next i ps))

  pub ring_over : rest < get_or ps i 0 → false ≡ eqb len (total ps)
  ring_over h = sym (ne_eqb len (total ps) (λ (q : len ≡ total ps). omega (arith, total_next i ps, total_front (suc i) ps)))

  pub rings_summed : length ps ≤ i → eqb rest 0 ≡ eqb len (total ps)
  rings_summed h = go (eqb rest 0) refl
    where
      k : rest + total ps ≡ len
      k = let all : take i ps ≡ ps = take_all i ps h in rw all at e

      go : (b : Bool) → eqb rest 0 ≡ b → b ≡ eqb len (total ps)
      go true q = let l = eqb-true rest 0 q in sym (eq-eqb len (total ps) (omega (arith, k, l)))
      go false q = let l = eqb-false rest 0 q in sym (ne_eqb len (total ps) (λ (z : len ≡ total ps). l (omega (arith, k, z))))

-- and with more behind them
pub total_beyond : (ps : List ℕ) (len base : ℕ) → base ≤ len → eqb (len - base) (total ps) ≡ eqb len (total ps + base)
total_beyond ps len base h = go (eqb (len - base) (total ps)) refl
  where
    go : (b : Bool) → eqb (len - base) (total ps) ≡ b → b ≡ eqb len (total ps + base)
    go true q = let l = eqb-true (len - base) (total ps) q in sym (eq-eqb len (total ps + base) (omega arith))
    go false q = let l = eqb-false (len - base) (total ps) q in sym (ne_eqb len (total ps + base) (λ (z : len ≡ total ps + base). l (omega (arith, z))))

pub total_short : (ps : List ℕ) (len base : ℕ) → len < base → false ≡ eqb len (total ps + base)
total_short ps len base h = sym (ne_eqb len (total ps + base) (λ (z : len ≡ total ps + base). omega (arith, z)))

-- as std sums them
fold_total : (a : ℕ) (ps : List ℕ) → fold ◌+◌ a ps ≡ a + total ps
unfolding total
fold_total a [] = omega arith
fold_total a (p ∷ ps) = fold_total (a + p) ps ∙ omega arith

pub total_sum : (ps : List ℕ) → sum ps ≡ total ps
total_sum ps = fold_total 0 ps ∙ omega arith
