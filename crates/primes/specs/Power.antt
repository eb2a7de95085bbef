-- The power of a prime that is nearest to a number, in ratio.
use Rattle.std.specs.Prelude.{◌≡◌, ℕ, zero, suc, ◌+◌, ◌-◌, ◌*◌, ◌^◌, ◌<◌, ◌≤◌, min, max, cond, ◌≢◌, nat_lt}
use Rattle.primes.specs.Table.{primes_len, prime_at}

-- R6.13: of v, v·p, v·p², .. the first with x² < v²·p; after n of them the next, untested
unfoldable pub power_from : ℕ → ℕ → ℕ → ℕ → ℕ
power_from zero p x v = v
power_from (suc n) p x v = let next = power_from n p x (v * p) in cond (nat_lt (x * x) (v * v * p)) v next

-- R6.12, R6.13: the first power of p with x² < v²·p, from 1 on. p to the x, which is above x, passes untested
abbrev pub nearest_power : ℕ → ℕ → ℕ
nearest_power p x = power_from x p x 1

-- R6.14: m is the exponent of the power nearest to x
abbrev pub IsExponent : ℕ → ℕ → ℕ → Type 0
IsExponent p x zero = x * x < p
IsExponent p x (suc k) = let m = suc k in (p ^ (2 * m - 1) ≤ x * x) × (x * x < p ^ (2 * m + 1))

-- R6.14: `nearest_power` is that power, of any p from 2 on and at any x (p to the 0 at 0)
abbrev pub Nearest : Type 0
Nearest = (p x : ℕ) → 2 ≤ p → (m : ℕ) × (nearest_power p x ≡ p ^ m) × IsExponent p x m

-- R6.14: there is one such m only
abbrev pub OneExponent : Type 0
OneExponent = (p x m n : ℕ) → 2 ≤ p → IsExponent p x m → IsExponent p x n → m ≡ n

-- R6.15: the larger over the smaller of x and it is at most that of x and any power of p, multiplied out
abbrev pub NearestInRatio : Type 0
NearestInRatio = (p x k : ℕ) → 2 ≤ p → max x (nearest_power p x) * min x (p ^ k) ≤ max x (p ^ k) * min x (nearest_power p x)

-- R6.15: no x lies as near to one power of a prime of the table as to the next
abbrev pub NeverATie : Type 0
NeverATie = (i m x : ℕ) → i < primes_len → x * x ≢ prime_at i ^ (2 * m + 1)
