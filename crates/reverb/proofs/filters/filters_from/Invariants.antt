-- `reverb::filters::filters_from`. The invariant: the filters so far, then those of the coefficients left, are the answer. Assumes nothing.
use mathlib.Core.Path.{◌≡◌}
use mathlib.Core.List.{◌++◌}
use Prim.Native.Nat.{◌*◌, ◌≤◌, ◌-◌}
use lib.ListN.{length, take, drop}
use Rattle.stages.specs.Lines.{filters_of}
use Rattle.reverb.proofs.filters.filters_from.Given as goal

abbrev pub invariant-loop-i : goal.invariant-loop-i
invariant-loop-i l =
    (l.i ≤ 51) × (length l.f-items ≡ 51) × (take l.i l.f-items ++ filters_of (51 - l.i) (drop (5 * l.i) l.coefficients) ≡ filters_of 51 l.coefficients)
