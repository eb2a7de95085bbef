-- `iir::run` meets its contract. Assumes nothing.
use Rattle.std.proofs.Common.{◌∙◌, ◌<◌, arith, length, sym}
use lib.Ieee.{nan}
use Rattle.samples.proofs.Turns.{front, stored}
use Rattle.iir.proofs.Laws.{peel, peel_end}
use Rattle.iir.proofs.run.Goals as goal

pub loop-x-preserved : goal.loop-x-preserved
loop-x-preserved c =
    let l = c.loop-x in
    let h : l.x-index < length l.xs = omega arith in
    let v = c.filtered-g.result.y1 in
    let at = front l.xs l.x-index nan h v in
    let e = c.filtered-g.ensures in (
      stored l.xs l.x-index nan h v (peel l.g e at) ∙ l.invariant.0,
      sym (peel_end l.g e at) ∙ l.invariant.1,
    )
