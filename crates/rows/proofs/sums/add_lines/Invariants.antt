-- `rows::sums::add_lines`. The invariant: the input is as it was, and the rows before e, then the sums of those left, are the answer. Assumes
-- nothing.
use mathlib.Core.List.{◌++◌}
use Prim.Native.Nat.{◌+◌, ◌*◌}
use lib.ListN.{length, take, drop}
use Rattle.stages.specs.Lines.{add_rows}
use Rattle.rows.proofs.SumTurns.{Adding}
use Rattle.rows.proofs.sums.add_lines.Given as goal

abbrev pub invariant-loop : goal.invariant-loop
invariant-loop l =
    Adding l.n l.f (take l.f l.initial.rows) (take (l.f + l.n * l.f) l.initial.rows ++ add_rows l.f l.n (take l.f l.initial.rows) (drop (l.f + l.n * l.f) l.initial.rows)) (length l.initial.rows) l.counter l.e l.rows
