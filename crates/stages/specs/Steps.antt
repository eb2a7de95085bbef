-- Steps on one stretch of memory, whatever rows it holds.
use Rattle.std.specs.Prelude.{ℕ, ◌+◌, ◌-◌, cond, List, ◌++◌, map, leb, Float, length, take, drop}
use Rattle.samples.specs.Binary32.{◌⊘◌}
use Rattle.stages.specs.Lines.{plus}

-- R4.8, R4.10: the first f samples are added to the last f. A stretch that has no two such rows stays as it is
unfoldable pub added_first : ℕ → List Float → List Float
added_first f xs = let at = length xs - f in cond (leb (f + f) (length xs)) (take at xs ++ plus (drop at xs) (take f xs)) xs

-- R4.10: the sum divided
abbrev pub divided : Float → List Float → List Float
divided d xs = map (λ x. x ⊘ d) xs

-- as much of src as dst has room for, from the front, and the rest of dst as it was
abbrev pub copied : List Float → List Float → List Float
copied src dst = take (length dst) src ++ drop (length src) dst
