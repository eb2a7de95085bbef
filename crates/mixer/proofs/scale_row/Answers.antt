-- `mixer::scale_row` meets its contract. Assumes nothing.
use native.Mathlib.Omega.{arith}
use mathlib.Core.List.{map}
use mathlib.Core.Path.{refl, ap, ◌∙◌}
use Prim.Native.Nat.{◌≤◌}
use lib.ListN.{length, drop_of_length-le}
use lib.Ieee.{nan}
use Rattle.samples.specs.Binary32.{◌⊗◌}
use Rattle.samples.proofs.Turns.{front, stored, all_done}
use Rattle.mixer.proofs.scale_row.Goals as goal

pub loop-x-init : goal.loop-x-init
loop-x-init c = refl

pub loop-x-preserved : goal.loop-x-preserved
loop-x-preserved c =
    let l = c.loop-x in
    stored l.row l.x-index nan (omega arith) _ (ap (map (λ x. x ⊗ c.args.k)) (front l.row l.x-index nan (omega arith) _)) ∙ l.invariant

pub returns : goal.returns
returns c =
    let l = c.loop-x in
    let h : length l.row ≤ l.x-index = omega arith in
    all_done l.row l.x-index h ∙ rw (drop_of_length-le l.row h) at l.invariant
