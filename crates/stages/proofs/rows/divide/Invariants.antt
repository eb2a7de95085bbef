-- `stages::rows::divide`. The invariant: what is done, then the quotients of what is left. Assumes nothing.
use Rattle.std.proofs.Common.{◌≡◌, ◌≤◌, ◌++◌, length, take, drop}
use Rattle.stages.specs.Steps.{divided}
use Rattle.stages.proofs.rows.divide.Given as goal

abbrev pub invariant-loop-x : goal.invariant-loop-x
invariant-loop-x l =
    (l.x-index ≤ length l.initial.xs) × (length l.xs ≡ length l.initial.xs) × (take l.x-index l.xs ++ divided l.divisor (drop l.x-index l.xs) ≡ divided l.divisor l.initial.xs)
