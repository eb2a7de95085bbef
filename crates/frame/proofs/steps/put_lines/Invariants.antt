-- `frame::steps::put_lines`. The invariant: what is put so far, then what is left to put, is the answer. Assumes nothing.
use lib.ListN.{length, take, drop}
use Rattle.unit.specs.Layout.{total}
use Rattle.stages.specs.Settle.{put_rows}
use Rattle.frame.proofs.LineTurns.{Putting}
use Rattle.frame.proofs.steps.put_lines.Given as goal

abbrev pub invariant-loop-i : goal.invariant-loop-i
invariant-loop-i l =
    Putting l.n l.f l.ls l.cs l.rows (put_rows l.f l.n 0 l.ls l.cs l.rows (drop (total (take l.n l.ls)) l.initial.store) l.initial.store) (length l.initial.store) l.i l.a l.b l.store
