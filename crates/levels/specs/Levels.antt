-- What scaling and mixing give.
use Rattle.std.specs.Prelude.{List, [], ◌∷◌, map, ℕ, zero, suc, take, drop, replicate, pos, Float}
use Rattle.std.specs.Float.{binary32}
use Rattle.std.specs.Float.Ieee.{of_bits, of_int}
use Rattle.samples.specs.Binary32.{◌⊕◌, ◌⊗◌, ◌⊘◌, +0}

-- R7.5: scale
abbrev pub scaled : Float → List Float → List Float
scaled volume xs = map (λ x. x ⊗ volume) xs

-- R7.6: mix, the other one's sample first
abbrev pub buffers_mixed : List Float → List Float → List Float
buffers_mixed [] other = other
buffers_mixed (x ∷ xs) [] = []
buffers_mixed (x ∷ xs) (y ∷ other) = (y ⊕ x) ∷ buffers_mixed xs other

-- R7.7: n channels of a buffer mixed into a row, in order
abbrev pub channels_summed : ℕ → ℕ → List Float → List Float → List Float
channels_summed samples zero row buffer = row
channels_summed samples (suc n) row buffer = channels_summed samples n (buffers_mixed (take samples buffer) row) (drop samples buffer)

-- R7.7: the share of one channel
unfoldable pub share : ℕ → Float
share channels = of_bits binary32 0x3f80_0000 ⊘ of_int binary32 (pos channels)

-- R7.7: downmix
unfoldable pub downmixed : ℕ → ℕ → List Float → List Float
downmixed channels samples buffer = scaled (share channels) (channels_summed samples channels (replicate samples +0) buffer)
