-- `outputs::output_row` meets its contract. Assumes nothing.
use Rattle.samples.proofs.Clauses.{with_work}
use Rattle.rows.proofs.Ways.{shut, let_in}
use Rattle.rows.proofs.RowFits.{output_of_lem}
use Rattle.outputs.proofs.OutputJoins.{no_output}
use mathlib.Core.Path.{ap}
use mathlib.Core.Bool.{not}
use Rattle.outputs.proofs.output_row.Goals as goal

pub returns-then-not-output_fits : goal.returns-then-not-output_fits
returns-then-not-output_fits c =
    let a = c.args in rw (shut _ _ c.output_fits.ensures (ap not c.if-not-output_fits.true)) (with_work (no_output a.n a.f a.divisor a.rings.passes a.fs a.work.now))

pub output_in-requires : goal.output_in-requires
output_in-requires c =
    output_of_lem _ _ _ _ (let_in _ _ c.output_fits.ensures (ap not c.if-not-output_fits.false))

pub returns : goal.returns
returns c = rw (let_in _ _ c.output_fits.ensures (ap not c.if-not-output_fits.false)) (record { value = c.output_in.ensures.value; work_after = c.output_in.ensures.work_after })
