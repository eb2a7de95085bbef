-- `unit::sizes::work_ok` meets its contract. Assumes nothing.
use mathlib.Core.Path.{sym, ap, ◌∙◌}
use lib.Dec.{eqb}
use Rattle.unit.proofs.Laws.{work_is}
use Rattle.unit.proofs.sizes.work_ok.Goals as goal

pub returns : goal.returns
returns c =
    let a = c.args in
    c.is_sum.ensures ∙ ap (eqb a.work) (sym (work_is a.frame))
