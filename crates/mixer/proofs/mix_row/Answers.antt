-- `mixer::mix_row` meets its contract. Assumes nothing.
use lib.ListN.{length}
use Rattle.mixer.proofs.Passes.{sum_scaled}
use Rattle.mixer.proofs.mix_row.Goals as goal

pub returns : goal.returns
returns c =
    let a = c.args in
    sum_scaled a.n (length a.row.now) a.r a.k a.reads.now _ _ c.sum_row.ensures c.scale_row.ensures
