-- `stages::rows::filters_finite` meets its contract. Assumes nothing.
use Rattle.std.proofs.Common.{rules, ◌≡◌, true, ◌↔◌}
use Rattle.std.specs.List.{All}
use Rattle.iir.specs.Nine.{finite_filter}
use Rattle.samples.proofs.Laws.{every}
use Rattle.stages.specs.Settle.{filters_finite}
use Rattle.stages.proofs.rows.filters_finite.Goals as goal

pub returns : goal.returns
unfolding filters_finite
returns c =
    let e : (c.all.result ≡ true) ↔ All (λ f. finite_filter f ≡ true) c.args.fs = search rules in
    every _ c.args.fs c.all.result e
