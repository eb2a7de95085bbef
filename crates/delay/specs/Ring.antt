-- R3.6: a ring is its view from a cursor. Reading takes from the view's front, writing puts back there.
use Rattle.std.specs.Prelude.{cond, List, [], ◌∷◌, ◌++◌, ℕ, zero, suc, ◌+◌, ◌-◌, ltb, Float, length, get_or, take, drop, set}
use Rattle.std.specs.Float.{nan}
use Rattle.delay.specs.declared.Four.{Four}

-- the view from position k: the ring as it lies from k on, round to k again
unfoldable pub rotl : {A : Type 0} → ℕ → List A → List A
rotl k xs = drop k xs ++ take k xs

-- R3.7: a position m that has run past the end at most once
unfoldable pub wrap : ℕ → ℕ → ℕ
wrap l m = cond (ltb m l) m (m - l)

-- R3.8: n samples from position k on, the front of the view
unfoldable pub read : {A : Type 0} → List A → ℕ → ℕ → List A
read ring k n = take n (rotl k ring)

-- R3.9: the ring with xs from position k on. They take the front of the view, which is then turned back
unfoldable pub write : {A : Type 0} → List A → ℕ → List A → List A
write ring k xs = rotl (length ring - k) (xs ++ drop (length xs) (rotl k ring))

-- ---- R3.11, R3.12: one sample after the other, each with the wrap test

-- R3.7: the position n samples on from k
unfoldable pub ahead : ℕ → ℕ → ℕ → ℕ
ahead l zero k = k
ahead l (suc n) k = ahead l n (wrap l (k + 1))

-- the n samples from position k on: those of a shorter ring come again
unfoldable pub read_each : List Float → ℕ → ℕ → List Float
read_each ring k zero = []
read_each ring k (suc n) = get_or ring k nan ∷ read_each ring (wrap (length ring) (k + 1)) n

-- the ring with xs from position k on: in a shorter ring the last one wins
unfoldable pub write_each : List Float → ℕ → List Float → List Float
write_each ring k [] = ring
write_each ring k (x ∷ xs) = write_each (set ring k x) (wrap (length ring) (k + 1)) xs

-- four samples by value: as a list, and made of one
abbrev pub list_of : Four → List Float
list_of x = x.0 ∷ x.1 ∷ x.2 ∷ x.3 ∷ []

abbrev pub four_of : List Float → Four
four_of xs = record { 0 = get_or xs 0 nan; 1 = get_or xs 1 nan; 2 = get_or xs 2 nan; 3 = get_or xs 3 nan }
