-- `outputs::sums::sum_lines` meets its contract. Assumes nothing.
use native.Mathlib.Omega.{arith}
use mathlib.Core.Path.{◌≡◌, refl, ◌∙◌}
use Prim.Native.Nat.{◌+◌, ◌-◌}
use lib.ListN.{length}
use Rattle.outputs.proofs.SumTurns.{cleared_long, sum_holds, sum-turn, sum_done, sum_of}
use Rattle.outputs.proofs.sums.sum_lines.Goals.{Start}
use Rattle.outputs.proofs.sums.sum_lines.Goals as goal

-- the output is the last of the rows
long : (s : goal.Start) → length s.args.rows.now ≡ length s.args.rows.now - s.args.f + s.args.f
long s = omega (arith, s.requires)

pub loop-init : goal.loop-init
loop-init c =
    let e = cleared_long _ c.args.f c.args.rows.now _ (long (goal.at.loop-init c).Start) c.clear.ensures in
    sum_holds c.args.n c.args.f _ _ _ (omega arith) _ e refl refl

pub loop-preserved : goal.loop-preserved
loop-preserved c =
    let l = c.loop in
    sum-turn c.args.n c.args.f _ _ _ (omega arith) l.counter l.b l.rows _ c.loop-test.true l.invariant c.add_first.ensures

pub returns : goal.returns
returns c =
    let l = c.loop in
    sum_done c.args.n c.args.f _ _ _ (omega (arith, c.requires)) l.counter l.b l.rows c.loop-test.false l.invariant
    ∙ sum_of _ c.args.f c.args.rows.now _ (long (goal.at.returns c).Start) c.clear.ensures c.args.n (omega (arith, c.requires))
