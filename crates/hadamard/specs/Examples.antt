-- Three sums at which another order of steps gives another number.
use Rattle.std.specs.Prelude.{◌≡◌, [], ◌∷◌}
use Rattle.std.specs.Float.{binary32}
use Rattle.std.specs.Float.Ieee.{of_bits}
use Rattle.hadamard.specs.Mix.{sum_of, mix_at, quarter}

pub record MixExamples : Type 0 where
  -- R3.27: left to right, 1 and twice 2^-24 are 1: each 2^-24 is lost by itself, where both together are not
  pub left_to_right : sum_of 0 (of_bits binary32 0x3f80_0000 ∷ of_bits binary32 0x3380_0000 ∷ of_bits binary32 0x3380_0000 ∷ []) ≡ of_bits binary32 0x3f80_0000
  -- R3.28: the factor last, two largest numbers are an infinity: times 0.25 first, their sum is finite
  pub factor_last : mix_at quarter 0 (of_bits binary32 0x7f7f_ffff ∷ of_bits binary32 0x7f7f_ffff ∷ []) ≡ of_bits binary32 0x7f80_0000
  -- R3.27: a sum that begins with x[0] keeps -0: from +0 it is +0
  pub minus_zero : sum_of 0 (of_bits binary32 0x8000_0000 ∷ of_bits binary32 0x8000_0000 ∷ []) ≡ of_bits binary32 0x8000_0000
