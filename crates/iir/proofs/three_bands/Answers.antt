-- `iir::three_bands` meets its contract. Assumes nothing.
use Rattle.std.proofs.Common.{◌∙◌, ◌<◌, arith, length}
use lib.Ieee.{nan}
use Rattle.samples.proofs.Turns.{front, stored}
use Rattle.iir.proofs.Laws.{bands_peel, bands_peel_end}
use Rattle.iir.proofs.three_bands.Goals as goal

pub loop-x-preserved : goal.loop-x-preserved
loop-x-preserved c =
    let l = c.loop-x in
    let h : l.x-index < length l.xs = omega arith in
    let v = c.filtered-g-in-loop-x-2.result.y1 in
    let at = front l.xs l.x-index nan h v in
    let e0 = c.filtered-g.ensures in
    let e1 = c.filtered-g-in-loop-x.ensures in
    let e2 = c.filtered-g-in-loop-x-2.ensures in (
      stored l.xs l.x-index nan h v (bands_peel l.g e0 e1 e2 at) ∙ l.invariant.0,
      bands_peel_end l.g e0 e1 e2 at ∙ l.invariant.1,
    )
