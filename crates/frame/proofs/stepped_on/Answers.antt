-- `frame::stepped_on` meets its contract. Assumes nothing.
use Rattle.frame.proofs.stepped_on.Goals as goal

pub returns : goal.returns
returns c =
    let a = c.args in
    λ i. record { ok = a.ok; filters = a.fs; lines = c.move_on.ensures i; passes = c.move_on-2.ensures i }
