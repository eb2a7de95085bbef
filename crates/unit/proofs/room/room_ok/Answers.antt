-- `unit::room::room_ok` meets its contract. Assumes nothing.
use Rattle.std.proofs.Common.{rules}
use Rattle.unit.specs.Room.{room_ok}
use Rattle.unit.proofs.room.room_ok.Goals as goal

pub returns : goal.returns
unfolding room_ok
returns c = search rules
