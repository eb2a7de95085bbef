-- `frame::steps::read_lines`. The invariant: what is read so far, then what is left to read, is the answer. Assumes nothing.
use lib.ListN.{length}
use Rattle.stages.specs.Lines.{read_rows}
use Rattle.frame.proofs.LineTurns.{Reading}
use Rattle.frame.proofs.steps.read_lines.Given as goal

abbrev pub invariant-loop-i : goal.invariant-loop-i
invariant-loop-i l = Reading l.n l.f l.ls l.cs l.store (read_rows l.f l.n 0 l.ls l.cs l.store) (length l.initial.rows) l.i l.a l.b l.rows
