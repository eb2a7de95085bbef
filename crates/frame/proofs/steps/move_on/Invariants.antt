-- `frame::steps::move_on`. The invariant: the cursors moved so far, then those left moved, are the answer. Assumes nothing.
use lib.ListN.{length}
use Rattle.stages.specs.Settle.{all_moved}
use Rattle.frame.proofs.LineFills.{Moving}
use Rattle.frame.proofs.steps.move_on.Given as goal

abbrev pub invariant-loop-i : goal.invariant-loop-i
invariant-loop-i l = Moving (length l.ls) l.f l.ls l.initial.cs (all_moved l.f l.ls l.initial.cs) l.i l.cs
