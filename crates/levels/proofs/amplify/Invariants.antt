-- `levels::amplify`. The invariant: what is done, before what is left scaled, is the whole scaled. Assumes nothing.
use mathlib.Core.Path.{◌≡◌}
use mathlib.Core.List.{◌++◌}
use lib.ListN.{take, drop}
use Rattle.levels.specs.Levels.{scaled}
use Rattle.levels.proofs.amplify.Given as goal

abbrev pub invariant-loop-x : goal.invariant-loop-x
invariant-loop-x l = take l.x-index l.xs ++ scaled l.volume (drop l.x-index l.xs) ≡ scaled l.volume l.initial.xs
