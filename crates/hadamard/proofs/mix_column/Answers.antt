-- `hadamard::mix_column` meets its contract. Assumes nothing.
use native.Mathlib.Omega.{arith}
use mathlib.Core.Path.{refl, sym, ◌∙◌}
use lib.ListN.{length}
use lib.Ieee.{nan}
use Rattle.samples.proofs.Turns.{copy_more, copy_all}
use Rattle.hadamard.specs.Mix.{mixed}
use Rattle.hadamard.proofs.Laws.{mixed-length, mixed_at_lem}
use Rattle.hadamard.proofs.mix_column.Goals as goal

pub loop-r-init : goal.loop-r-init
loop-r-init c = refl

pub loop-r-preserved : goal.loop-r-preserved
loop-r-preserved c =
    let l = c.loop-r in
    let a = c.args in
    let xs = a.x.now in
    let n = length xs in
    let long = mixed-length n a.k xs in
    let v = c.mix_at.ensures ∙ sym (mixed_at_lem n a.k xs l.r (omega arith)) in
    rw (l.invariant, v) (copy_more (mixed n a.k xs) a.y.now l.r nan (omega arith) (omega arith))

pub returns : goal.returns
returns c =
    let l = c.loop-r in
    let a = c.args in
    let n = mixed-length (length a.x.now) a.k a.x.now in
    l.invariant ∙ copy_all _ _ l.r (omega arith) (omega arith)
