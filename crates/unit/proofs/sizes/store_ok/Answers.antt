-- `unit::sizes::store_ok` meets its contract. Assumes nothing.
use mathlib.Core.Path.{sym, ap, ◌∙◌}
use lib.Dec.{eqb}
use Rattle.unit.specs.UnitState.{of_state}
use Rattle.unit.proofs.Laws.{store_is}
use Rattle.unit.proofs.sizes.store_ok.Goals as goal

pub returns : goal.returns
returns c =
    let a = c.args in
    c.is_sum.ensures ∙ ap (eqb a.store) (sym (store_is (of_state a.s)))
