-- `rows::sums::add_lines` meets its contract. Assumes nothing.
use native.Mathlib.Omega.{arith}
use mathlib.Core.Path.{refl, sym}
use Prim.Native.Nat.{◌≤◌, ◌+◌}
use native.Mathlib.Nat.{sub-zero}
use lib.ListN.{length}
use Rattle.unit.proofs.PlaceLaws.{placed}
use Rattle.samples.proofs.Rows.{all_left, row_fits}
use Rattle.rows.proofs.SumTurns.{add_turn, add_done}
use Rattle.rows.proofs.sums.add_lines.Goals.{In-loop}
use Rattle.rows.proofs.sums.add_lines.Goals as goal

fits : (c : goal.In-loop) → c.loop.e + c.args.f ≤ length c.loop.rows
fits c =
    let l = c.loop in
    omega (arith, l.invariant.1, row_fits c.args.n c.args.f l.counter l.e _ l.invariant.0 c.loop-test.true)

pub loop-init : goal.loop-init
loop-init c =
    let at = placed c.args.n c.args.f c.requires.0 c.requires.1 c.work_places-p.ensures in
    rw at (all_left c.args.n _ _ _ (sym c.requires.2), refl, omega arith, refl, rw (sub-zero c.args.n) refl)

pub overflow_add-e : goal.overflow_add-e
overflow_add-e c = omega (arith, fits c)

pub slice_bounds-add_first-end : goal.slice_bounds-add_first-end
slice_bounds-add_first-end c = omega (arith, fits c)

pub loop-preserved : goal.loop-preserved
loop-preserved c =
    let l = c.loop in
    add_turn c.args.n c.args.f _ _ _ l.counter l.e l.rows _ c.loop-test.true l.invariant c.add_first.ensures

pub returns : goal.returns
returns c =
    let l = c.loop in
    add_done c.args.n c.args.f _ _ _ l.counter l.e l.rows c.loop-test.false l.invariant
