-- `bank::line::long_line` meets its contract. Assumes nothing.
use Rattle.bank.proofs.BehindTurns.{line_done}
use Rattle.bank.proofs.line.long_line.Goals as goal

pub returns : goal.returns
returns c =
    let ends =
    line_done c.args.b c.args.xs.now _ _ c.run_behind-l.result c.end-last.result c.requires
    (rw c.begin.ensures at c.run_behind-l.ensures) c.end-last.ensures c.put_last.ensures in
    record { value = ends.0; xs_after = ends.1 }
