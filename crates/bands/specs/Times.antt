-- The three reverb times, one for each band.
use Rattle.std.specs.Prelude.{Bool, cond, ◌&&◌, from_bits, Float}
use Rattle.std.specs.Float.{binary32}
use Rattle.std.specs.Float.Ieee.{le, lt, eq}
use Rattle.samples.specs.Binary32.{+0}
use Rattle.bands.specs.declared.Times.{Times}

-- R1.3: a time. A NaN is below nothing, an infinity is above 100, and -0 is no less than +0. 0x42c8_0000 is 100
unfoldable pub time_ok : Float → Bool
time_ok x = le +0 x && le x (from_bits binary32 0x42c8_0000)

abbrev pub times_ok : Times → Bool
times_ok t = time_ok t.low && (time_ok t.mid && time_ok t.high)

-- R6.1: the larger of two numbers, and the first of two that are equal; where one is no number, the other
unfoldable pub larger : Float → Float → Float
larger x y = cond (lt x y) y (cond (eq x x) x y)

-- R6.1: the time that the tail is counted by
abbrev pub largest : Times → Float
largest t = larger (larger t.low t.mid) t.high
