-- `unit::range::blank_filters` meets its contract. Assumes nothing.
use Rattle.std.proofs.Common.{rules, ◌≡◌, true, ◌↔◌}
use Rattle.std.specs.List.{All}
use Rattle.iir.specs.Nine.{blank_filter}
use Rattle.unit.specs.Range.{blank_filters}
use Rattle.samples.proofs.Laws.{every}
use Rattle.unit.proofs.range.blank_filters.Goals as goal

pub returns : goal.returns
unfolding blank_filters
returns c =
    let e : (c.all.result ≡ true) ↔ All (λ f. blank_filter f ≡ true) c.args.fs.now = search rules in
    every _ c.args.fs.now c.all.result e
