-- The two tables: sixteen primes, and four ring delays.
use Rattle.std.specs.Prelude.{◌≡◌, ℕ, zero, suc, ◌+◌, ◌-◌, ◌%◌, ◌<◌, ◌≤◌, Bool, true, cond, not, ◌&&◌, List, [], ◌∷◌, ◌≢◌, nat_eq, slice_index}

-- R6.7, R2.14: how many primes there are, one a line; an index is below it
abbrev pub primes_len : ℕ
primes_len = 16

-- R6.7: the primes
abbrev pub primes : List ℕ
primes = 2 ∷ 3 ∷ 5 ∷ 7 ∷ 11 ∷ 13 ∷ 17 ∷ 19 ∷ 23 ∷ 29 ∷ 31 ∷ 37 ∷ 41 ∷ 43 ∷ 47 ∷ 53 ∷ []

abbrev pub prime_at : ℕ → ℕ
prime_at index = slice_index primes index

-- R1.9: the four delays, and R1.10: which of them is a line's
abbrev pub delays : List ℕ
delays = 225 ∷ 341 ∷ 441 ∷ 556 ∷ []

abbrev pub delay_at : ℕ → ℕ
delay_at line = slice_index delays (line % 4)

-- n is a prime: no number from 2 to n - 1 divides it
pub record Prime (n : ℕ) : Type 0 where
  pub above_one : 2 ≤ n
  pub undivided : (d : ℕ) → 2 ≤ d → d < n → n % d ≢ 0

-- f holds of no number below k
abbrev pub none : (ℕ → Bool) → ℕ → Bool
none f zero = true
none f (suc k) = not (f k) && none f k

-- trial division of n by 2 to n - 1
abbrev pub passes : ℕ → Bool
passes n = none (λ k. nat_eq (n % (k + 2)) 0) (n - 2)

-- the numbers that pass it, of k numbers from n on
abbrev pub passing : ℕ → ℕ → List ℕ
passing zero n = []
passing (suc k) n = cond (passes n) (n ∷ passing k (suc n)) (passing k (suc n))

-- R6.7: the table holds the primes up to 53, in order, those of the 52 numbers from 2 on that pass trial division. Each entry is a prime
abbrev pub TableIsPrimes : Type 0
TableIsPrimes = (primes ≡ passing 52 2) × ((i : ℕ) → i < primes_len → Prime (prime_at i))
