-- `levels::add`. The invariant: what is done, before what is left mixed, is the whole mixed. Assumes nothing.
use mathlib.Core.Path.{◌≡◌}
use mathlib.Core.List.{◌++◌}
use lib.ListN.{take, drop}
use Rattle.levels.specs.Levels.{buffers_mixed}
use Rattle.levels.proofs.add.Given as goal

abbrev pub invariant-loop-i : goal.invariant-loop-i
invariant-loop-i l = take l.i l.other ++ buffers_mixed (drop l.i l.xs) (drop l.i l.other) ≡ buffers_mixed l.xs l.initial.other
