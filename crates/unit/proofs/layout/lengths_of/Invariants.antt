-- `unit::layout::lengths_of`. The invariant: the lengths so far, then those left, are the answer. Assumes nothing.
use mathlib.Core.Path.{◌≡◌}
use mathlib.Core.List.{◌++◌}
use Prim.Native.Nat.{◌≤◌, ◌-◌}
use lib.ListN.{length, take}
use Rattle.unit.specs.UnitState.{of_state}
use Rattle.unit.specs.Layout.{wall, lengths_from}
use Rattle.unit.proofs.layout.lengths_of.Given as goal

abbrev pub invariant-loop-i : goal.invariant-loop-i
invariant-loop-i l =
    (l.i ≤ 16) × (length l.l-items ≡ 16) × (take l.i l.l-items ++ lengths_from wall (of_state l.s).settings (16 - l.i) l.i ≡ lengths_from wall (of_state l.s).settings 16 0)
