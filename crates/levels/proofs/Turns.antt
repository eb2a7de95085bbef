-- One turn of the loop over the channels. Assumes nothing.
use mathlib.Core.Path.{◌≡◌}
use mathlib.Core.List.{List}
use Prim.Native.Nat.{ℕ, ◌+◌, ◌-◌, ◌<◌}
use lib.ListN.{take, drop}
use lib.Seq.{drop-drop}
use lib.Ieee.{Float}
use Rattle.samples.proofs.Turns.{more}
use Rattle.levels.specs.Levels.{buffers_mixed, channels_summed}

-- of the sum of the channels from `at` on: the next channel
pub summed_more : (samples at : ℕ) (buffer row : List Float) (n i : ℕ) → i < n
    → channels_summed samples (n - i) row (drop at buffer) ≡ channels_summed samples (n - (i + 1)) (buffers_mixed (take samples (drop at buffer)) row) (drop (at + samples) buffer)
summed_more samples at buffer row n i h = rw (more n i h, ← drop-drop samples at buffer)
