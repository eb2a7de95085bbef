-- `outputs::sums::sum_row` meets its contract. Assumes nothing.
use Rattle.outputs.proofs.OutputJoins.{mean_join}
use Rattle.outputs.proofs.sums.sum_row.Goals as goal

pub returns : goal.returns
returns c =
    let a = c.args in
    mean_join a.n a.f a.divisor a.rows.now _ _ c.requires c.sum_lines.ensures c.divide.ensures
