-- `frame::steps::settle` meets its contract. Assumes nothing.
use mathlib.Core.Path.{◌∙◌}
use Rattle.frame.proofs.LineTurns.{settle_join}
use Rattle.frame.proofs.steps.settle.Goals as goal

pub returns : goal.returns
returns c =
    let a = c.args in
    c.put_rings.ensures
    ∙ settle_join a.n a.f a.rings.lines.lengths a.rings.lines.cursors a.rows.now a.allpass.now a.store.now _ c.requires.lines_fit.rings c.requires.allpass_fits
    c.put_lines.ensures
