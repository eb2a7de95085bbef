-- `rows::sums::add_input` meets its contract. Assumes nothing.
use Rattle.rows.proofs.sums.add_input.Goals as goal

pub returns : goal.returns
returns c = rw c.if-tail.false c.add_first.ensures
