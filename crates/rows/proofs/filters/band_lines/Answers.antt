-- `rows::filters::band_lines` meets its contract. Assumes nothing.
use native.Mathlib.Omega.{arith}
use Prim.Native.Nat.{◌+◌, ◌*◌, ◌≤◌}
use lib.ListN.{length}
use Rattle.samples.proofs.Clauses.{with_rows}
use Rattle.rows.proofs.Ways.{done_within}
use Rattle.samples.proofs.Rows.{rows_fit, row_fits}
use Rattle.rows.proofs.BandTurns.{band_start, four-turn, one_turn, band_done}
use Rattle.rows.proofs.filters.band_lines.Goals.{In-loop-i, Then-n-i-ge4}
use Rattle.rows.proofs.filters.band_lines.Goals as goal

-- four rows from b on end within the rows, and so does one
four_fit : (c : goal.Then-n-i-ge4)
    → c.loop-i.b + 4 * c.args.f ≤ length c.loop-i.rows
four_fit c =
    let l = c.loop-i in
    omega (arith, l.invariant.1, rows_fit c.args.n c.args.f l.i l.b _ l.invariant.0 4 (omega arith))

one_fits : (c : goal.In-loop-i) → c.loop-i.b + c.args.f ≤ length c.loop-i.rows
one_fits c =
    let l = c.loop-i in
    omega (arith, l.invariant.1, row_fits c.args.n c.args.f l.i l.b _ l.invariant.0 c.loop-i-test.true)

pub loop-i-init : goal.loop-i-init
loop-i-init c = band_start _ _ _ _ c.requires.1

pub overflow_mul-e : goal.overflow_mul-e
overflow_mul-e c = omega (arith, four_fit c)

pub overflow_add-e : goal.overflow_add-e
overflow_add-e c = omega (arith, four_fit c)

pub slice_bounds-twelve_at-end : goal.slice_bounds-twelve_at-end
slice_bounds-twelve_at-end c = omega (arith, four_fit c)

pub loop-i-preserved-then-n-i-ge4 : goal.loop-i-preserved-then-n-i-ge4
loop-i-preserved-then-n-i-ge4 c =
    let l = c.loop-i in
    let few : 3 * c.args.n ≤ length c.args.fs = omega (arith, c.requires.0, c.well_formed) in
    four-turn c.args.n c.args.f c.args.fs _ _ _ l.i l.b l.gs l.rows _ _ (omega arith) few l.invariant
    c.twelve_at-hs.ensures.value c.twelve_at-hs.ensures.rows_after

pub overflow_add-e-else-n-i-ge4 : goal.overflow_add-e-else-n-i-ge4
overflow_add-e-else-n-i-ge4 c = omega (arith, one_fits (goal.at.overflow_add-e-else-n-i-ge4 c).In-loop-i)

pub slice_bounds-three_at-end : goal.slice_bounds-three_at-end
slice_bounds-three_at-end c = omega (arith, one_fits (goal.at.slice_bounds-three_at-end c).In-loop-i)

pub loop-i-preserved : goal.loop-i-preserved
loop-i-preserved c =
    let l = c.loop-i in
    let few : 3 * c.args.n ≤ length c.args.fs = omega (arith, c.requires.0, c.well_formed) in
    one_turn c.args.n c.args.f c.args.fs _ _ _ l.i l.b l.gs l.rows _ _ c.loop-i-test.true few l.invariant
    (done_within (3 * l.i) 48 _ c.three_at-hs.ensures.value (omega arith)) (done_within (3 * l.i) 48 _ c.three_at-hs.ensures.row_after (omega arith))

pub returns : goal.returns
returns c =
    let l = c.loop-i in with_rows (band_done c.args.n c.args.f c.args.fs _ _ _ l.i l.b l.gs l.rows c.loop-i-test.false l.invariant)
