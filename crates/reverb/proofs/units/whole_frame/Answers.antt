-- `reverb::units::whole_frame` meets its contract. Assumes nothing.
use Rattle.samples.proofs.Clauses.{with_memory}
use Rattle.unit.specs.UnitState.{of_state}
use Rattle.judges.proofs.Fits.{rings_are}
use Rattle.reverb.proofs.WholeParts.{ended}
use Rattle.reverb.proofs.units.whole_frame.Goals as goal

pub returns : goal.returns
returns c =
    let a = c.args in
    let g = c.run_frame-r.ensures in with_memory (ended a.s a.tail a.fs a.count.0 a.store.now a.work.now a.output.now c.requires _
    (rings_are (of_state a.s) _ _ _ _ c.requires c.rings_of.ensures) _ _ _ _ _ g.value g.store_after g.work_after g.output_after c.conclude.ensures)
