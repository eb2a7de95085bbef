-- `primes::set_values`. The invariant: what is set, and the values of the random numbers that are left, are all the values. Assumes nothing.
use Rattle.std.proofs.Common.{◌≡◌, ◌++◌, take, drop}
use Rattle.primes.specs.Values.{values_from}
use Rattle.primes.proofs.set_values.Given as goal

abbrev pub invariant-loop-i : goal.invariant-loop-i
invariant-loop-i l = take l.i l.out ++ values_from l.least l.i (drop l.i l.randoms) ≡ values_from l.least 0 l.randoms
