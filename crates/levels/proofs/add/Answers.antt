-- `levels::add` meets its contract. Assumes nothing.
use native.Mathlib.Omega.{arith}
use mathlib.Core.Path.{sym, ◌∙◌}
use Prim.Native.Nat.{◌≤◌}
use lib.ListN.{length, drop_of_length-le, take-append-drop}
use lib.Ieee.{nan}
use Rattle.samples.proofs.Turns.{next, front, stored}
use Rattle.levels.specs.Levels.{buffers_mixed}
use Rattle.levels.proofs.add.Goals as goal

pub loop-i-preserved : goal.loop-i-preserved
loop-i-preserved c =
    let l = c.loop-i in
    let xs = c.args.xs.now in
    let here = front l.other l.i nan (omega arith) _ in
    stored l.other l.i nan (omega arith) _ (λ i. buffers_mixed (next xs l.i nan (omega arith) i) (here i)) ∙ l.invariant

pub returns : goal.returns
returns c =
    let l = c.loop-i in
    let h : length c.args.xs.now ≤ l.i = omega arith in
    sym (take-append-drop l.i l.other) ∙ rw (drop_of_length-le c.args.xs.now h) at l.invariant
