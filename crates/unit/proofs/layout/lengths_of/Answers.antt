-- `unit::layout::lengths_of` meets its contract. Assumes nothing.
use borrow.Author.Rules.{rules}
use native.Mathlib.Omega.{arith}
use mathlib.Core.Path.{◌≡◌, refl, ap, ◌∙◌}
use Prim.Native.Nat.{ℕ, ◌+◌, ◌-◌}
use lib.ListN.{length-set}
use Rattle.samples.proofs.Turns.{all_done}
use Rattle.unit.specs.UnitState.{of_state}
use Rattle.unit.specs.Layout.{wall, lengths_from}
use Rattle.primes.proofs.Table.{delay_range}
use Rattle.unit.proofs.Ranges.{lengths-turn}
use Rattle.unit.proofs.layout.lengths_of.Goals as goal

pub loop-i-init : goal.loop-i-init
loop-i-init c = (search rules, search rules, refl)

pub overflow_add-l : goal.overflow_add-l
overflow_add-l c =
    let l = c.loop-i in
    omega (arith, delay_range l.i, c.delay.ensures, c.requires)

pub loop-i-preserved : goal.loop-i-preserved
loop-i-preserved c =
    let l = c.loop-i in
    let s = c.args.s in (
      omega arith,
      simp length-set l.invariant.1,
      lengths-turn wall (of_state s).settings 16 l.i _ l.l-items _ c.loop-i-test.true (omega arith) (ap (λ (d : ℕ). d + s.frame) c.delay.ensures) l.invariant.2,
    )

pub returns : goal.returns
unfolding lengths_from
returns c =
    let l = c.loop-i in
    let z : 16 - l.i ≡ 0 = omega arith in
    all_done l.l-items l.i (omega arith) ∙ rw z at l.invariant.2
