-- `outputs::sums::sum_lines`. The invariant: all before the output is as it was, and the output so far, with the rows left, sums to the answer.
-- Assumes nothing.
use Prim.Native.Nat.{◌*◌}
use lib.ListN.{take, drop}
use Rattle.stages.specs.Lines.{sum_rows}
use Rattle.outputs.proofs.SumTurns.{Summing}
use Rattle.outputs.proofs.sums.sum_lines.Given as goal

abbrev pub invariant-loop : goal.invariant-loop
invariant-loop l =
    Summing l.n l.f l.at (take l.at l.initial.rows) (sum_rows l.f l.n (drop l.at l.initial.rows) (take (l.n * l.f) (take l.at l.initial.rows))) l.counter l.b l.rows
