-- The signs of two rows and two columns next to each other, of which the first is even: three are alike, and the fourth is the other one.
-- Assumes nothing.
use mathlib.Core.Path.{◌≡◌, refl}
use mathlib.Core.Bool.{not}
use Prim.Native.Nat.{ℕ, zero, suc, ◌+◌, ◌-◌, ◌*◌, ◌/◌, ◌%◌, ◌<◌, min}
use native.Mathlib.Nat.{zero-add, zero-min, min-zero}
use native.Mathlib.Omega.{arith}
use lib.Bits.{bit_and, and_step}
use lib.Count.{ones, ones_step}
use lib.Dec.{eqb}
use Rattle.hadamard.specs.Mix.{minus}

-- the ones that two numbers share: in their lowest digits, and in the rest
shared : (r c : ℕ) → ones (bit_and r c) ≡ min (r % 2) (c % 2) + ones (bit_and (r / 2) (c / 2))
shared r c =
    let q = bit_and (r / 2) (c / 2) in
    let low : min (r % 2) (c % 2) < 2 = omega arith in
    let rest : (q * 2 + min (r % 2) (c % 2)) / 2 ≡ q = omega arith in
    let digit : (q * 2 + min (r % 2) (c % 2)) % 2 ≡ min (r % 2) (c % 2) = omega arith in
    rw (and_step r c, ones_step (q * 2 + min (r % 2) (c % 2)), rest, digit) refl

turned : (m : ℕ) → m < 2 → eqb (1 - m) 1 ≡ not (eqb m 1)
turned zero h = refl
turned (suc zero) h = refl
turned (suc (suc m)) h = absurd (omega arith)

-- one more is odd where the count is even
flip : (n : ℕ) → eqb ((1 + n) % 2) 1 ≡ not (eqb (n % 2) 1)
flip n = let e : (1 + n) % 2 ≡ 1 - n % 2 = omega arith in rw e (turned (n % 2) (omega arith))

module _ (r c : ℕ) (er : r % 2 ≡ 0) (ec : c % 2 ≡ 0) where
  half_r : (r + 1) / 2 ≡ r / 2
  half_r = omega arith

  half_c : (c + 1) / 2 ≡ c / 2
  half_c = omega arith

  odd_r : (r + 1) % 2 ≡ 1
  odd_r = omega arith

  odd_c : (c + 1) % 2 ≡ 1
  odd_c = omega arith

  pub same_right : minus r (c + 1) ≡ minus r c
  unfolding minus
  same_right = rw (shared r (c + 1), shared r c, half_c, er, zero-min ((c + 1) % 2), zero-min (c % 2)) refl

  pub same_down : minus (r + 1) c ≡ minus r c
  unfolding minus
  same_down = rw (shared (r + 1) c, shared r c, half_r, ec, min-zero ((r + 1) % 2), min-zero (r % 2)) refl

  pub other : minus (r + 1) (c + 1) ≡ not (minus r c)
  unfolding minus
  other = rw (shared (r + 1) (c + 1), shared r c, half_r, half_c, odd_r, odd_c, er, ec, zero-add) (flip (ones (bit_and (r / 2) (c / 2))))
