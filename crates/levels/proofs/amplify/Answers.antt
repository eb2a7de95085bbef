-- `levels::amplify` meets its contract. Assumes nothing.
use native.Mathlib.Omega.{arith}
use mathlib.Core.Path.{ap, ◌∙◌}
use Prim.Native.Nat.{◌≤◌}
use lib.ListN.{length, drop_of_length-le}
use lib.Ieee.{nan}
use Rattle.samples.proofs.Turns.{front, stored, all_done}
use Rattle.levels.specs.Levels.{scaled}
use Rattle.levels.proofs.amplify.Goals as goal

pub loop-x-preserved : goal.loop-x-preserved
loop-x-preserved c =
    let l = c.loop-x in
    stored l.xs l.x-index nan (omega arith) _ (ap (scaled _) (front l.xs l.x-index nan (omega arith) _)) ∙ l.invariant

pub returns : goal.returns
returns c =
    let l = c.loop-x in
    let h : length l.xs ≤ l.x-index = omega arith in
    all_done l.xs l.x-index h ∙ rw (drop_of_length-le l.xs h) at l.invariant
