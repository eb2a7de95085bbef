-- `hadamard::mix_at`. The invariant: the columns after those summed, onto the sum so far, give the whole sum. Assumes nothing.
use mathlib.Core.Path.{◌≡◌}
use Prim.Native.Nat.{◌+◌}
use lib.ListN.{drop}
use Rattle.hadamard.specs.Mix.{sum_from, sum_of}
use Rattle.hadamard.proofs.mix_at.Given as goal

abbrev pub invariant-loop-i : goal.invariant-loop-i
invariant-loop-i l = sum_from l.r (l.i + 1) l.sum (drop (l.i + 1) l.x) ≡ sum_of l.r l.x
