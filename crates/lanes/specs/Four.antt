-- Four numbers, one of each line.
use Rattle.std.specs.Prelude.{ℕ, zero, suc, Float}
use Rattle.lanes.specs.declared.four.Four.{Four}

-- one number of each line in turn
abbrev pub beside : Float → Float → Float → Float → Four
beside v0 v1 v2 v3 = record { v0 = v0; v1 = v1; v2 = v2; v3 = v3 }

-- line k's number; the last line's is also that of every k past it
abbrev pub at : ℕ → Four → Float
at zero a = a.v0
at (suc zero) a = a.v1
at (suc (suc zero)) a = a.v2
at (suc (suc (suc k))) a = a.v3

-- op of two such, line by line
abbrev pub lanewise : (Float → Float → Float) → Four → Four → Four
lanewise op a b =
    record { v0 = op a.v0 b.v0; v1 = op a.v1 b.v1; v2 = op a.v2 b.v2; v3 = op a.v3 b.v3 }
