-- `mixer::start_two` meets its contract. Assumes nothing.
use native.Mathlib.Omega.{arith}
use mathlib.Core.Path.{◌≡◌, refl, ◌∙◌}
use lib.ListN.{length}
use Rattle.mixer.specs.Passes.{signed}
use Rattle.mixer.proofs.Passes.{turn, written}
use Rattle.mixer.proofs.start_two.Goals as goal

pub loop-t-init : goal.loop-t-init
loop-t-init c = (refl, refl)

pub loop-t-preserved : goal.loop-t-preserved
loop-t-preserved c =
    let l = c.loop-t in
    let a = c.args in (
      rw l.invariant.0 (turn l.t _ a.low.now (omega arith) c.plus_minus.ensures),
      rw l.invariant.1 (turn l.t _ a.high.now (omega arith) c.plus_minus-in-loop-t.ensures),
    )

pub returns-clause-low_after : goal.returns-clause-low_after
unfolding signed
returns-clause-low_after c =
    let e : length c.args.low.now ≡ length c.args.xs.now = omega arith in
    rw (← e) (c.loop-t.invariant.0 ∙ written c.loop-t.t _ c.args.low.now (omega arith) (omega arith))

pub returns-clause-high_after : goal.returns-clause-high_after
unfolding signed
returns-clause-high_after c =
    let e : length c.args.high.now ≡ length c.args.xs.now = omega arith in
    rw (← e) (c.loop-t.invariant.1 ∙ written c.loop-t.t _ c.args.high.now (omega arith) (omega arith))
