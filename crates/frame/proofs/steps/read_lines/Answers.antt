-- `frame::steps::read_lines` meets its contract. Assumes nothing.
use native.Mathlib.Omega.{arith}
use mathlib.Core.Path.{refl, sym}
use Prim.Native.Nat.{◌≤◌, ◌+◌}
use native.Mathlib.Nat.{zero-add, sub-zero}
use lib.ListN.{length, get_or}
use Rattle.samples.proofs.Rows.{all_left}
use Rattle.frame.proofs.LineLaws.{turn_fits}
use Rattle.frame.proofs.LineTurns.{read-turn, read_done}
use Rattle.frame.proofs.steps.read_lines.Goals.{In-loop-i}
use Rattle.frame.proofs.steps.read_lines.Goals as goal

fits : (c : goal.In-loop-i) →
    let l = c.loop-i in
    let s = c.args in
    (l.a + get_or s.rings.lines.lengths l.i 0 ≤ length s.store.now) × (l.b + s.f ≤ length s.rows.now)
fits c =
    let l = c.loop-i in
    let s = c.args in
    turn_fits s.f s.rings.lines.lengths s.rings.lines.cursors _ s.n l.i l.a l.invariant.2 c.loop-i-test.true l.b _ l.invariant.0

pub loop-i-init : goal.loop-i-init
loop-i-init c =
    let z = sub-zero c.args.n in
    (all_left _ _ 0 _ (rw zero-add (sym c.requires.rows_are)), refl, rw z c.requires.rings, rw z refl)

pub overflow_add-e : goal.overflow_add-e
overflow_add-e c = omega (arith, fits (goal.at.overflow_add-e c).In-loop-i)

pub overflow_add-t : goal.overflow_add-t
overflow_add-t c = omega (arith, fits (goal.at.overflow_add-t c).In-loop-i)

pub offset_bounds-store-a : goal.offset_bounds-store-a
offset_bounds-store-a c = omega (arith, fits (goal.at.offset_bounds-store-a c).In-loop-i)

pub slice_bounds-get-end : goal.slice_bounds-get-end
slice_bounds-get-end c = omega (arith, fits (goal.at.slice_bounds-get-end c).In-loop-i)

pub slice_bounds-get-end-in-loop-i : goal.slice_bounds-get-end-in-loop-i
slice_bounds-get-end-in-loop-i c = omega (arith, fits (goal.at.slice_bounds-get-end-in-loop-i c).In-loop-i)

pub loop-i-preserved : goal.loop-i-preserved
loop-i-preserved c =
    let l = c.loop-i in
    read-turn c.args.n c.args.f c.args.rings.lines.lengths c.args.rings.lines.cursors c.requires.some c.args.store.now l.rows _ _ l.i l.a l.b _
    c.loop-i-test.true l.invariant c.get.ensures.out_after

pub returns : goal.returns
returns c =
    let l = c.loop-i in
    read_done c.args.n c.args.f c.args.rings.lines.lengths c.args.rings.lines.cursors c.requires.some c.args.store.now l.rows _ _ l.i l.a l.b
    c.loop-i-test.false l.invariant
