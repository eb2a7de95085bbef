-- The wall unit's memory is laid out as R1.19 to R1.22 say. Assumes nothing.
use native.Mathlib.Omega.{arith}
use native.Mathlib.Nat.{add-mul}
use mathlib.Core.Path.{◌≡◌}
use mathlib.Core.List.{[], ◌∷◌}
use Prim.Native.Nat.{ℕ, zero, suc, ◌<◌}
use Rattle.unit.specs.Layout.{lengths_from, total, store_len, work_len, StoreIs, WorkIs, RingBegins, RingsBegin, PassesBegin, RowsBegin}

pub store_is : StoreIs
unfolding store_len total lengths_from
store_is u = omega arith

pub work_is : WorkIs
unfolding work_len total
work_is f = omega arith

-- four equal numbers make two equal lists
four : {a a' b b' c c' d d' : ℕ} → a ≡ a' → b ≡ b' → c ≡ c' → d ≡ d' → a ∷ b ∷ c ∷ d ∷ [] ≡ a' ∷ b' ∷ c' ∷ d' ∷ []
four p q r s = λ i. p i ∷ q i ∷ r i ∷ s i ∷ []

pub passes_begin : PassesBegin
unfolding total lengths_from
passes_begin u = four (omega arith) (omega arith) (omega arith) (omega arith)

pub rows_begin : RowsBegin
unfolding total
rows_begin f i =
    (omega (arith, add-mul 1 i f), omega (arith, add-mul 17 i f), omega arith, four (omega arith) (omega arith) (omega arith) (omega arith))

-- one of four
one_of_four : (P : ℕ → Type 0) → P 0 → P 1 → P 2 → P 3 → (n : ℕ) → n < 4 → P n
one_of_four P a b c d zero h = a
one_of_four P a b c d (suc zero) h = b
one_of_four P a b c d (suc (suc zero)) h = c
one_of_four P a b c d (suc (suc (suc zero))) h = d
one_of_four P a b c d (suc (suc (suc (suc n)))) h = absurd (omega arith)

pub rings_begin : RingsBegin
unfolding total lengths_from
rings_begin u q r hq hr =
    one_of_four (λ (q : ℕ). RingBegins u q r)
    (one_of_four (RingBegins u 0) (omega arith) (omega arith) (omega arith) (omega arith) r hr)
    (one_of_four (RingBegins u 1) (omega arith) (omega arith) (omega arith) (omega arith) r hr)
    (one_of_four (RingBegins u 2) (omega arith) (omega arith) (omega arith) (omega arith) r hr)
    (one_of_four (RingBegins u 3) (omega arith) (omega arith) (omega arith) (omega arith) r hr)
    q
    hq
