-- `rows::filters::three_at` meets its contract. Assumes nothing.
use mathlib.Core.Path.{refl, ap, ◌∙◌}
use borrow.Author.Tests.{le-leb, lt-leb}
use Rattle.samples.specs.Lists.{over}
use Rattle.iir.specs.declared.Bands.{Bands}
use Rattle.stages.specs.Lines.{three_of}
use Rattle.rows.proofs.filters.three_at.Goals as goal

pub returns-then-k-gt-TONE : goal.returns-then-k-gt-TONE
returns-then-k-gt-TONE c = rw (lt-leb c.args.k 48 c.if-k-gt-TONE.true) (record { value = refl; row_after = refl })

pub returns : goal.returns
returns c =
    let ends = rw c.three_of.ensures at c.one_line-h.ensures.value in
    let outs = rw c.three_of.ensures at c.one_line-h.ensures.xs_after in rw (le-leb c.args.k 48 c.if-k-gt-TONE.false) (record { value = c.with_three.ensures ∙ ap (λ (b : Bands). over c.args.k (three_of b) c.args.fs) ends; row_after = outs })
