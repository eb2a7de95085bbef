-- `unit::room::rings_hold` meets its contract. Assumes nothing.
use Rattle.std.proofs.Common.{rules, ◌≡◌, ◌&&◌, true, ◌↔◌}
use Rattle.std.specs.List.{All}
use lib.Dec.{leb}
use Rattle.unit.specs.Room.{rings_hold}
use Rattle.samples.proofs.Laws.{every}
use Rattle.unit.proofs.room.rings_hold.Goals as goal

pub returns : goal.returns
unfolding rings_hold
returns c =
    let e : (c.all.result ≡ true) ↔ All (λ l. (leb c.args.frame l && leb l 65536) ≡ true) c.args.ls = search rules in
    every _ c.args.ls c.all.result e
