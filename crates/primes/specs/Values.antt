-- The delay values (R6.8 to R6.12, R6.16 to R6.21).
use Rattle.std.specs.Prelude.{◌≡◌, ℕ, ◌+◌, ◌%◌, ◌≤◌, true, ◌&&◌, List, [], ◌∷◌, pos, ◌==◌, from_bits, nat_le, nat_lt, Float, Err}
use Rattle.std.specs.Float.{binary32}
use Rattle.std.specs.Float.Ieee.{of_int, to_unsigned}
use Rattle.samples.specs.declared.Refusal.TheVariants.{BadSize, BadLength, BadIndex, BadTime}
use Rattle.samples.specs.Answers.{Answer, Accepted, need, accept}
use Rattle.samples.specs.Binary32.{◌⊗◌, ◌⊘◌}
use Rattle.samples.specs.Sizes.{highest_rate, rate_ok}
use Rattle.bands.specs.Times.{time_ok}
use Rattle.primes.specs.declared.Value.{Value}
use Rattle.primes.specs.Table.{primes_len, prime_at}
use Rattle.primes.specs.Power.{nearest_power}

-- R6.21: an answer with its value, which is 0 where it is a refusal
abbrev pub valued : Answer → ℕ → Value
valued a n = record { answer = a; value = accept a n 0 }

-- R6.8, R6.9: the least delay. 0x3e19_999a is the binary32 nearest to 0.15, and 0x4180_0000 is 16
abbrev pub delay_min : Float → ℕ → ℕ
delay_min time rate = to_unsigned 64 (from_bits binary32 0x3e19_999a ⊗ time ⊗ of_int binary32 (pos rate) ⊘ from_bits binary32 0x4180_0000)

-- R6.11: its range, and with it that of x, at most 192,100
abbrev pub MinRange : Type 0
MinRange = (time : Float) (rate : ℕ) → time_ok time ≡ true → rate ≤ highest_rate → delay_min time rate ≤ 192000

-- R6.11, R6.12: x, and the power of the line's prime nearest to it
abbrev pub value_from : ℕ → ℕ → ℕ → ℕ
value_from least random index = nearest_power (prime_at index) (least + random % 101)

-- R6.20: a value for each random number, the lines counted from i on
abbrev pub values_from : ℕ → ℕ → List ℕ → List ℕ
values_from least i [] = []
values_from least i (r ∷ rs) = value_from least r i ∷ values_from least (i + 1) rs

-- R2.16: 6 for a time; R6.16: 4 for an index
abbrev pub judged_time : Float → Answer
judged_time time = need (time_ok time) (Err BadTime) Accepted

abbrev pub judged_index : ℕ → Answer
judged_index index = need (nat_lt index primes_len) (Err BadIndex) Accepted

-- R6.18: 4 for x, then for the index
abbrev pub judged_power : ℕ → ℕ → Answer
judged_power x index = need (nat_le x 200000) (Err BadIndex) (judged_index index)

-- R6.17: 2, then 6; R6.19: 4 between them
abbrev pub judged_min : Float → ℕ → Answer
judged_min time rate = need (rate_ok rate) (Err BadSize) (judged_time time)

abbrev pub judged_value : Float → ℕ → ℕ → Answer
judged_value time rate index = need (rate_ok rate) (Err BadSize) (need (nat_lt index primes_len) (Err BadIndex) (judged_time time))

-- R6.20: 2, then 3 unless both slices have one for each prime, then 6
abbrev pub judged_values : Float → ℕ → ℕ → ℕ → Answer
judged_values time rate randoms out = need (rate_ok rate) (Err BadSize) (need (randoms == primes_len && out == primes_len) (Err BadLength) (judged_time time))
