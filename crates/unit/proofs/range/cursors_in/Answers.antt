-- `unit::range::cursors_in` meets its contract. Assumes nothing.
use Rattle.std.proofs.Common.{rules, ◌≡◌, ◌<◌, ℕ, true, ◌↔◌, length}
use lib.ListN.{get_or}
use Rattle.delay.specs.declared.Cursors.{Cursors}
use Rattle.unit.specs.Range.{below, cursors_in}
use Rattle.samples.proofs.Laws.{every}
use Rattle.unit.proofs.range.cursors_in.Goals as goal

pub returns : goal.returns
unfolding cursors_in
returns c =
    let e : (c.all.result ≡ true) ↔ ((i : ℕ) (d : Cursors) → i < length c.args.cs.now → below (get_or c.args.ls.now i 0) (get_or c.args.cs.now i d) ≡ true) = search rules in
    every _ c.args.cs.now c.all.result e
