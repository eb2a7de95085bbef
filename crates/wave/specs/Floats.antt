-- R11.13: the floats of a stretch of bytes.
use Rattle.std.specs.Prelude.{cond, List, ℕ, ltb, eqb, ℤ, pos, Float}
use Rattle.std.specs.Float.{binary32}
use Rattle.std.specs.Float.Ieee.{minus, of_int}
use Rattle.samples.specs.Binary32.{◌⊘◌}
use Rattle.wire.specs.Wire.{unpacked, decoded}

-- the whole number of 16 bits in two's complement
abbrev pub signed_of : ℕ → ℤ
signed_of n = cond (ltb n 32768) (pos n) (minus n 65536)

-- the float of 16 bits: their number, divided by 32,768
unfoldable pub short_sample : ℕ → Float
short_sample n = of_int binary32 (signed_of n) ⊘ of_int binary32 (pos 32768)

-- n floats, two bytes each
abbrev pub shorts : ℕ → List ℕ → List Float
shorts n bytes = unpacked 2 short_sample n bytes

-- n floats of a take's stretch, by its tag
unfoldable pub floats_of : ℕ → ℕ → List ℕ → List Float
floats_of tag n bytes = cond (eqb tag 1) (shorts n bytes) (decoded n bytes)
