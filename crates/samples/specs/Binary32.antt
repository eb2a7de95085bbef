-- The words of IEEE 754 binary32 that every definition of the unit is written in.
use Rattle.std.specs.Prelude.{Bool, true, false, zero, suc, pos, negsuc, Float}
use Rattle.std.specs.Float.{nan, inf, fin, binary32}
use Rattle.std.specs.Float.Ieee.{add, sub, mul, div, of_bits}

infixl 65 ◌⊕◌ ◌⊖◌
infixl 70 ◌⊗◌ ◌⊘◌
-- R3.1, R3.2: each step is rounded on its own, to the nearest float, ties to the even one
abbrev pub ◌⊕◌ : Float → Float → Float
x ⊕ y = add binary32 x y

abbrev pub ◌⊖◌ : Float → Float → Float
x ⊖ y = sub binary32 x y

abbrev pub ◌⊗◌ : Float → Float → Float
x ⊗ y = mul binary32 x y

abbrev pub ◌⊘◌ : Float → Float → Float
x ⊘ y = div binary32 x y

-- R3.3: the zero without a minus, all 32 bits 0
abbrev pub +0 : Float
+0 = of_bits binary32 0

-- R3.4: a number, and no infinity
unfoldable pub finite : Float → Bool
finite nan = false
finite (inf s) = false
finite (fin s m e) = true

-- R3.3: exactly +0, since -0 is another float
unfoldable pub plus_zero : Float → Bool
plus_zero nan = false
plus_zero (inf s) = false
plus_zero (fin s (suc m) e) = false
plus_zero (fin true zero e) = false
plus_zero (fin false zero (negsuc k)) = false
plus_zero (fin false zero (pos (suc k))) = false
plus_zero (fin false zero (pos zero)) = true
