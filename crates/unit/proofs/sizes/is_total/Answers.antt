-- `unit::sizes::is_total` meets its contract. Assumes nothing.
use Rattle.std.proofs.Common.{rules}
use native.Mathlib.Nat.{add-zero}
use native.Mathlib.Omega.{arith}
use Rattle.unit.specs.Layout.{total}
use Rattle.unit.proofs.Totals.{ring_over, ring_summed, rings_summed}
use Rattle.unit.proofs.sizes.is_total.Goals as goal

pub returns-then-left-l : goal.returns-then-left-l
returns-then-left-l c = ring_over c.args.ls.now c.args.len c.loop-l.l-index c.loop-l.left c.loop-l.invariant.1 (omega arith)

pub loop-l-init : goal.loop-l-init
unfolding total
loop-l-init c = (search rules, add-zero c.args.len)

pub loop-l-preserved : goal.loop-l-preserved
loop-l-preserved c =
    (omega arith, ring_summed c.args.ls.now c.args.len c.loop-l.l-index c.loop-l.left c.loop-l.invariant.1 (omega arith))

pub returns : goal.returns
unfolding total
returns c = rings_summed c.args.ls.now c.args.len c.loop-l.l-index c.loop-l.left c.loop-l.invariant.1 (search rules)
