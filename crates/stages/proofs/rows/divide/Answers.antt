-- `stages::rows::divide` meets its contract. Assumes nothing.
use mathlib.Core.Path.{ap, ◌∙◌}
use Prim.Native.Nat.{◌≤◌, ◌<◌}
use native.Mathlib.Omega.{arith}
use lib.ListN.{length, length-set, drop_of_length-le}
use lib.Ieee.{nan}
use Rattle.stages.specs.Steps.{divided}
use Rattle.samples.proofs.Turns.{front, stored, all_done}
use Rattle.stages.proofs.rows.divide.Goals as goal

pub loop-x-preserved : goal.loop-x-preserved
loop-x-preserved c =
    let l = c.loop-x in
    let h : l.x-index < length l.xs = omega arith in
    (omega arith, simp length-set (omega arith), stored l.xs l.x-index nan h _ (ap (divided _) (front l.xs l.x-index nan h _)) ∙ l.invariant.2)

pub returns : goal.returns
returns c =
    let l = c.loop-x in
    let h : length l.xs ≤ l.x-index = omega arith in
    all_done l.xs l.x-index h ∙ rw (drop_of_length-le l.xs h) at l.invariant.2
