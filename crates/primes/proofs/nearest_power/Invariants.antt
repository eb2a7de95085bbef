-- `primes::nearest_power`. The invariant: v is a power of p that is the one looked for or lies below it, and is at most 53 · 200,000. The measure
-- is what x is above v. Assumes nothing.
use Rattle.std.proofs.Common.{◌+◌, ◌-◌, ◌≤◌}
use Rattle.primes.proofs.Power.{Reached}
use Rattle.primes.proofs.nearest_power.Given as goal

abbrev pub invariant-loop-v : goal.invariant-loop-v
invariant-loop-v l = (1 ≤ l.v) × (l.v ≤ 10600000) × Reached l.p l.x l.v

abbrev pub decreases-loop-v : goal.decreases-loop-v
decreases-loop-v l = l.x + 1 - l.v
