-- One turn of each loop. Assumes nothing.
use mathlib.Core.Path.{◌≡◌}
use mathlib.Core.List.{List, ◌++◌}
use Prim.Native.Nat.{ℕ, ◌+◌, ◌-◌, ◌<◌}
use lib.ListN.{drop}
use lib.Seq.{drop-drop}
use lib.Ieee.{Float}
use Rattle.samples.proofs.Turns.{more}
use Rattle.audio_buffer.specs.Layout.{first_of_each, columns}

-- of the columns from t on: the next
pub columns_more : (row : ℕ) (xs : List Float) (n k t : ℕ) → t < k
    → columns row n (k - t) (drop t xs) ≡ first_of_each row n (drop t xs) ++ columns row n (k - (t + 1)) (drop (t + 1) xs)
columns_more row xs n k t h = rw (more k t h, drop-drop)
