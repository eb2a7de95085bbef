-- The coefficients as the code makes them, filter by filter, are those of the program. Assumes nothing.
use mathlib.Core.Path.{◌≡◌, refl}
use mathlib.Core.Bool.{cond, ◌&&◌}
use mathlib.Core.List.{List}
use Prim.Native.Nat.{ℕ, zero, suc, ◌+◌, ◌*◌, ◌%◌}
use lib.Dec.{ltb, eqb}
use lib.Ieee.{Float, binary32, of_bits}
use lib.ListN.{set, replicate}
use Rattle.samples.specs.Binary32.{+0}
use Rattle.shell.specs.Settings.{line_gains, coefficients}

-- by what filter k multiplies
abbrev pub factor : ℕ → Float
factor k = cond (ltb k 48 && eqb (k % 3) 0) (of_bits binary32 0x3f00_0000) (of_bits binary32 0x3f80_0000)

-- the coefficients once the first n filters have their factors
unfoldable pub filled : ℕ → List Float
filled zero = replicate 255 +0
filled (suc n) = set (filled n) (5 * n + 2) (factor n)

pub none_filled : replicate 255 +0 ≡ filled 0
unfolding filled
none_filled = refl

pub one_more : (n : ℕ) → set (filled n) (5 * n + 2) (factor n) ≡ filled (suc n)
unfolding filled
one_more n = refl

pub all_filled : filled 51 ≡ coefficients
unfolding filled coefficients line_gains
all_filled = refl
