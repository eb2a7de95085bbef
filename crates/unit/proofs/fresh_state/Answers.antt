-- `unit::fresh_state` meets its contract. Assumes nothing.
use Rattle.unit.proofs.fresh_state.Goals as goal

pub returns : goal.returns
returns c = rw c.new_from_coefficients-blank.ensures
