-- `unit::room::lent_ok` meets its contract. Assumes nothing.
use Rattle.std.proofs.Common.{rules}
use Rattle.unit.proofs.room.lent_ok.Goals as goal

pub returns : goal.returns
returns c = search rules
