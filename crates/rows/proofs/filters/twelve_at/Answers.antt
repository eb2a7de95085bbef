-- `rows::filters::twelve_at` meets its contract. Assumes nothing.
use native.Mathlib.Omega.{arith}
use mathlib.Core.Path.{ap, ◌∙◌}
use mathlib.Core.List.{List}
use Rattle.samples.specs.Lists.{over}
use Rattle.iir.specs.declared.Bands.{Bands}
use Rattle.rows.specs.Workers.{threes_of}
use Rattle.rows.proofs.BandTurns.{twelve_set}
use Rattle.rows.proofs.filters.twelve_at.Goals as goal

pub returns : goal.returns
returns c =
    let b0 = c.three_of-b0.ensures in
    let b1 = c.three_of-b1.ensures in
    let b2 = c.three_of-b2.ensures in
    let b3 = c.three_of-b3.ensures in
    let ends = rw (b0, b1, b2, b3) at c.four_lines-h.ensures.value in
    let outs = rw (b0, b1, b2, b3) at c.four_lines-h.ensures.rows_after in
    let stored = twelve_set c.args.k c.four_lines-h.result c.args.fs (omega (arith, c.requires, c.well_formed)) in record {
      value = rw (c.with_three.ensures, c.with_three-g2.ensures, c.with_three-g1.ensures, c.with_three-g0.ensures)
          (stored ∙ ap (λ (l : List Bands). over c.args.k (threes_of l) c.args.fs) ends);
      rows_after = outs;
    }
