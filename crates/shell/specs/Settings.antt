-- What the program is set to (R9.1 to R9.3).
use Rattle.std.specs.Prelude.{List, [], ◌∷◌, ◌++◌, ℕ, zero, suc, ℤ, pos, negsuc, Float}
use Rattle.std.specs.Float.{binary32}
use Rattle.std.specs.Float.Ieee.{of_bits}
use Rattle.samples.specs.Binary32.{+0}
use Rattle.bands.specs.declared.Times.{Times}
use Rattle.unit.specs.Layout.{wall, lengths, store_len, work_len}
use Rattle.unit.specs.Fresh.{fresh_unit}

-- R9.1: F and the rate
abbrev pub frame : ℕ
frame = 128

abbrev pub rate : ℕ
rate = 48000

-- R9.2: the floats of store and work memory, what a unit of that frame takes
abbrev pub store_floats : ℕ
store_floats = store_len wall (lengths wall (fresh_unit wall rate frame))

abbrev pub work_floats : ℕ
work_floats = work_len wall frame

-- R9.1: the times. 0x3dcc_cccd is the float nearest to 0.1
abbrev pub times : Times
times = record { low = of_bits binary32 0x3dcc_cccd; mid = of_bits binary32 0x3dcc_cccd; high = of_bits binary32 0x3dcc_cccd }

-- R9.3: the coefficients of a filter that multiplies
abbrev pub multiplier : Float → List Float
multiplier b0 = +0 ∷ +0 ∷ b0 ∷ +0 ∷ +0 ∷ []

-- 0x3f00_0000 is 0.5, and 0x3f80_0000 is 1
abbrev pub halves : List Float
halves = multiplier (of_bits binary32 0x3f00_0000)

abbrev pub lets_by : List Float
lets_by = multiplier (of_bits binary32 0x3f80_0000)

-- R9.3: bands 0 to 2 of n lines
unfoldable pub line_gains : ℕ → List Float
line_gains zero = []
line_gains (suc n) = halves ++ (lets_by ++ (lets_by ++ line_gains n))

-- R9.3, R1.15: all filters, the tone's last
unfoldable pub coefficients : List Float
coefficients = line_gains wall.lines ++ (lets_by ++ (lets_by ++ lets_by))

-- R9.11: how many tail calls a count asks for, none where it is below 0
abbrev pub calls : ℤ → ℕ
calls (pos n) = n
calls (negsuc n) = 0
