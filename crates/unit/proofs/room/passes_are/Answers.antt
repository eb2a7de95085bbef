-- `unit::room::passes_are` meets its contract. Assumes nothing.
use Rattle.std.proofs.Common.{rules, ◌≡◌, ◌<◌, ℕ, true, ◌↔◌, length}
use lib.Dec.{eqb}
use lib.ListN.{get_or}
use Rattle.unit.specs.Layout.{wall}
use Rattle.unit.specs.Room.{passes_are}
use Rattle.samples.proofs.Laws.{every}
use Rattle.unit.proofs.room.passes_are.Goals as goal

pub returns : goal.returns
unfolding passes_are
returns c =
    let e : (c.all.result ≡ true) ↔ ((i : ℕ) (d : ℕ) → i < length c.args.ls → eqb (get_or c.args.ls i d) (get_or wall.pass_lengths i 0) ≡ true) = search rules in
    every _ c.args.ls c.all.result e
