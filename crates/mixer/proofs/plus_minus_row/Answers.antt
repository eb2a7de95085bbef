-- `mixer::plus_minus_row` meets its contract. Assumes nothing.
use native.Mathlib.Omega.{arith}
use mathlib.Core.Path.{refl, ◌∙◌}
use lib.ListN.{get_or}
use lib.Ieee.{nan}
use Rattle.hadamard.specs.Mix.{plus_minus}
use Rattle.mixer.specs.Passes.{signed}
use Rattle.mixer.proofs.Passes.{turn, left, written}
use Rattle.mixer.proofs.plus_minus_row.Goals as goal

pub loop-t-init : goal.loop-t-init
loop-t-init c = refl

pub loop-t-preserved : goal.loop-t-preserved
loop-t-preserved c =
    let l = c.loop-t in
    let a = c.args in
    let still = left l.t (λ t. plus_minus a.m (get_or a.sum.now t nan) (get_or a.xs.now t nan)) a.sum.now (omega arith) in
    rw l.invariant (turn l.t _ a.sum.now (omega arith) (rw (l.invariant, still) at c.plus_minus.ensures))

pub returns : goal.returns
unfolding signed
returns c = c.loop-t.invariant ∙ written c.loop-t.t _ c.args.sum.now (omega arith) (omega arith)
