-- `unit::layout::ring_place` meets its contract. Assumes nothing.
use native.Mathlib.Omega.{arith}
use borrow.Author.Rules.{rules}
use borrow.Author.Tests.{leb-true}
use mathlib.Core.Path.{◌≡◌}
use lib.Dec.{leb}
use lib.ListN.{length}
use Rattle.samples.proofs.Laws.{split_and}
use Rattle.unit.specs.Room.{rings_hold}
use Rattle.unit.proofs.Ranges.{holds_all}
use Rattle.unit.proofs.layout.ring_place.Goals.{Start}
use Rattle.unit.proofs.layout.ring_place.Goals as goal

lines_long : (s : goal.Start) → length s.args.ls ≡ 16
lines_long s = search rules

pub returns-then-not-i-rings_hold : goal.returns-then-not-i-rings_hold
returns-then-not-i-rings_hold c = search rules

pub ring_start-requires : goal.ring_start-requires
ring_start-requires c =
    let a = c.args in
    let p = split_and (leb a.i 16) (rings_hold a.frame a.ls) (search rules) in
    (leb-true a.i 16 p.0, omega (arith, lines_long (goal.at.ring_start-requires c).Start, holds_all a.frame a.ls p.1))

pub returns : goal.returns
returns c = search rules
