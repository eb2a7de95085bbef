-- R7.1: how the channels of a buffer lie in a slice. One lies behind the other; interleaved it is frame after frame, a
-- frame being one sample of each channel. Either way it is rows of equal length, and the columns of the one are the rows of the other.
use Rattle.std.specs.Prelude.{◌≡◌, List, [], ◌∷◌, ◌++◌, ℕ, zero, suc, ◌+◌, ◌*◌, ◌<◌, length, get_or, drop, Float}
use Rattle.std.specs.Float.{nan}

-- the first sample of each of n rows, the rows `row` samples long
abbrev pub first_of_each : ℕ → ℕ → List Float → List Float
first_of_each row zero xs = []
first_of_each row (suc n) xs = get_or xs 0 nan ∷ first_of_each row n (drop row xs)

-- k columns of n rows, one after another
abbrev pub columns : ℕ → ℕ → ℕ → List Float → List Float
columns row n zero xs = []
columns row n (suc k) xs = first_of_each row n xs ++ columns row n k (drop 1 xs)

-- R7.2: interleave. There are as many frames as samples in a channel
abbrev pub interleaved : ℕ → ℕ → List Float → List Float
interleaved channels samples buffer = columns samples channels samples buffer

-- R7.3: deinterleave. There are as many channels as samples in a frame
abbrev pub deinterleaved : ℕ → ℕ → List Float → List Float
deinterleaved channels samples source = columns channels samples channels source

-- where sample t of channel c lies then (R7.2, R7.3)
abbrev pub InterleavedAt : Type 0
InterleavedAt =
    (channels samples : ℕ) (xs : List Float) (c t : ℕ) → c < channels → t < samples
    → get_or (interleaved channels samples xs) (t * channels + c) nan ≡ get_or xs (c * samples + t) nan

abbrev pub DeinterleavedAt : Type 0
DeinterleavedAt =
    (channels samples : ℕ) (xs : List Float) (c t : ℕ) → c < channels → t < samples
    → get_or (deinterleaved channels samples xs) (c * samples + t) nan ≡ get_or xs (t * channels + c) nan

-- each undoes the other
abbrev pub DeinterleavedInterleaved : Type 0
DeinterleavedInterleaved =
    (channels samples : ℕ) (xs : List Float) → length xs ≡ channels * samples → deinterleaved channels samples (interleaved channels samples xs) ≡ xs

abbrev pub InterleavedDeinterleaved : Type 0
InterleavedDeinterleaved =
    (channels samples : ℕ) (xs : List Float) → length xs ≡ channels * samples → interleaved channels samples (deinterleaved channels samples xs) ≡ xs
