-- `outputs::make_output` meets its contract. Assumes nothing.
use Rattle.samples.proofs.Clauses.{with_work}
use Rattle.unit.specs.Layout.{wall}
use Rattle.unit.specs.Room.{passes_with}
use Rattle.rows.proofs.Ways.{shut, let_in}
use Rattle.rows.proofs.RowsOf.{work_fits}
use Rattle.outputs.proofs.OutputJoins.{no_output}
use mathlib.Core.Path.{ap}
use mathlib.Core.Bool.{not}
use Rattle.outputs.proofs.make_output.Goals as goal

pub returns-then-not-work_for : goal.returns-then-not-work_for
returns-then-not-work_for c =
    let a = c.args in rw (shut _ _ c.work_for.ensures (ap not c.if-not-work_for.true)) (with_work (no_output 16 a.f wall.divisor (passes_with wall a.qs) a.fs a.work.now))

pub wall_output-requires : goal.wall_output-requires
wall_output-requires c =
    work_fits _ _ (let_in _ _ c.work_for.ensures (ap not c.if-not-work_for.false))

pub returns : goal.returns
returns c = rw (let_in _ _ c.work_for.ensures (ap not c.if-not-work_for.false)) (record { value = c.wall_output.ensures.value; work_after = c.wall_output.ensures.work_after })
