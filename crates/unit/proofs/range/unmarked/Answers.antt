-- `unit::range::unmarked` meets its contract. Assumes nothing.
use Rattle.std.proofs.Common.{rules, ◌≡◌, not, true, ◌↔◌}
use Rattle.std.specs.List.{All}
use Rattle.unit.specs.Range.{unmarked}
use Rattle.samples.proofs.Laws.{every}
use Rattle.unit.proofs.range.unmarked.Goals as goal

pub returns : goal.returns
unfolding unmarked
returns c =
    let e : (c.all.result ≡ true) ↔ All (λ m. not m ≡ true) c.args.marks.now = search rules in
    every _ c.args.marks.now c.all.result e
