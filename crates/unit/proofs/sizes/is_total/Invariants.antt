-- `unit::sizes::is_total`. The invariant: what is left, and the lengths so far, are all. Assumes nothing.
use Rattle.std.proofs.Common.{◌≡◌, ◌≤◌, ◌+◌, length, take}
use Rattle.unit.specs.Layout.{total}
use Rattle.unit.proofs.sizes.is_total.Given as goal

abbrev pub invariant-loop-l : goal.invariant-loop-l
invariant-loop-l l = (l.l-index ≤ length l.ls) × (l.left + total (take l.l-index l.ls) ≡ l.len)
