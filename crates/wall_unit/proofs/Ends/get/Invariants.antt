-- `wall_unit::Ends::get` is safe, ends and counts no more than there is room for: each turn fills more of it. Assumes nothing.
use Rattle.std.proofs.Common.{length, ◌-◌, ◌≤◌, ◌≡◌}
use Rattle.wall_unit.proofs.Ends.get.Given as goal

abbrev pub invariant-loop-n : goal.invariant-loop-n
invariant-loop-n g l = (length l.bytes ≡ length l.initial.bytes) × (l.n ≤ length l.initial.bytes)

abbrev pub decreases-loop-n : goal.decreases-loop-n
decreases-loop-n g l = length l.initial.bytes - l.n
