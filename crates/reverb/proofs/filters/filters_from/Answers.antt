-- `reverb::filters::filters_from` meets its contract. Assumes nothing.
use borrow.Author.Rules.{rules}
use native.Mathlib.Omega.{arith}
use mathlib.Core.Path.{◌≡◌, refl, ◌∙◌}
use Prim.Native.Nat.{◌-◌, ◌+◌, ◌*◌}
use lib.ListN.{length-set}
use Rattle.samples.proofs.Turns.{all_done}
use Rattle.stages.specs.Lines.{filters_of}
use Rattle.reverb.proofs.FilterTurns.{filters_turn}
use Rattle.reverb.proofs.filters.filters_from.Goals as goal

pub loop-i-init : goal.loop-i-init
loop-i-init c = (search rules, search rules, refl)

pub loop-i-preserved : goal.loop-i-preserved
loop-i-preserved c =
    let l = c.loop-i in
    let cs = c.args.coefficients.now in
    let next : 5 * (l.i + 1) ≡ 5 * l.i + 5 = omega arith in (
      omega arith,
      simp length-set l.invariant.1,
      rw next (filters_turn 51 l.i (5 * l.i) cs l.f-items _ _ (omega arith) (omega arith) c.new_from_coefficients.ensures l.invariant.2),
    )

pub returns : goal.returns
unfolding filters_of
returns c =
    let l = c.loop-i in
    let z : 51 - l.i ≡ 0 = omega arith in
    all_done l.f-items l.i (omega arith) ∙ rw z at l.invariant.2
