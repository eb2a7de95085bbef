-- `stages::rows::add_at`. The invariant: what is done, then the sums of what is left. Assumes nothing.
use Rattle.std.proofs.Common.{◌≡◌, ◌≤◌, ◌++◌, length, take, drop}
use Rattle.stages.specs.Lines.{plus}
use Rattle.stages.proofs.rows.add_at.Given as goal

abbrev pub invariant-loop-t : goal.invariant-loop-t
invariant-loop-t l =
    (l.t ≤ length l.initial.last) × (length l.last ≡ length l.initial.last) × (take l.t l.last ++ plus (drop l.t l.last) (drop l.t l.front) ≡ plus l.initial.last l.front)
