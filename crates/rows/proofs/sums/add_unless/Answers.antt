-- `rows::sums::add_unless` meets its contract. Assumes nothing.
use Rattle.rows.proofs.sums.add_unless.Goals as goal

pub returns : goal.returns
returns c = rw c.if-tail.false c.add_lines.ensures
