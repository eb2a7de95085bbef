-- `unit::layout::ring_start` meets its contract. Assumes nothing.
use Rattle.std.proofs.Common.{rules, ◌≡◌, ◌∙◌, ◌<◌, ◌^◌, take}
use Rattle.std.specs.Prelude.{sum}
use native.Mathlib.Omega.{arith}
use Rattle.unit.proofs.Totals.{total_front, total_sum}
use Rattle.unit.proofs.layout.ring_start.Goals as goal

pub sum-requires-clause-fits : goal.sum-requires-clause-fits
sum-requires-clause-fits c =
    let h : sum (take c.args.i c.args.ls) < 2 ^ 64 = omega (arith, c.requires.1, total_sum (take c.args.i c.args.ls), total_front c.args.i c.args.ls) in
    search rules

pub returns : goal.returns
returns c =
    let e : c.sum.result ≡ sum (take c.args.i c.args.ls) = search rules in
    e ∙ total_sum (take c.args.i c.args.ls)
