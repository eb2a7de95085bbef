-- `closing::ends::idle` meets its contract. Assumes nothing.
use mathlib.Core.Path.{ap}
use Rattle.unit.specs.declared.State.{State}
use Rattle.unit.specs.UnitState.{of_state, to_state}
use Rattle.closing.proofs.ends.idle.Goals as goal

pub returns : goal.returns
returns c =
    let a = c.args in
    ap (λ (t : State). to_state (record { settings = (of_state t).settings; cursors = record { lines = a.lines; passes = a.passes }; count = a.count.0; filters = a.filters; held = (of_state t).held }))
    c.fresh_state-t.ensures
