-- `mixer::scale_row`. The invariant: what is done, before what is left times k, is the whole times k. Assumes nothing.
use mathlib.Core.Path.{◌≡◌}
use mathlib.Core.List.{◌++◌, map}
use lib.ListN.{take, drop}
use Rattle.samples.specs.Binary32.{◌⊗◌}
use Rattle.mixer.proofs.scale_row.Given as goal

abbrev pub invariant-loop-x : goal.invariant-loop-x
invariant-loop-x l = take l.x-index l.row ++ map (λ x. x ⊗ l.k) (drop l.x-index l.row) ≡ map (λ x. x ⊗ l.k) l.initial.row
