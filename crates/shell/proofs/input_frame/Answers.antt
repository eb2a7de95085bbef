-- `shell::input_frame` meets its contract: what its calls ensure, one after the other. Assumes nothing.
use native.Mathlib.Omega.{arith}
use mathlib.Core.Path.{◌≡◌}
use lib.ListN.{length}
use Rattle.unit.specs.UnitState.{of_state}
use Rattle.unit.proofs.Laws.{work_is}
use Rattle.machine.specs.Whole as Play
use Rattle.shell.specs.Settings.{frame, work_floats}
use Rattle.shell.proofs.Said.{frame_ends_lem}
use Rattle.shell.proofs.input_frame.Goals.{After-apply-arg-3-1}
use Rattle.shell.proofs.input_frame.Goals as goal

pub returns : goal.returns
returns c =
    let a = c.args in
    let long : length a.work.now ≡ work_floats = omega (arith, (goal.at.returns c).After-apply-arg-3-1, work_is frame) in
    let g = frame_ends_lem (of_state a.s) a.store.now a.work.now _ _ _ _ a.out.now _
    (λ i. Play.apply (c.times.ensures i) (c.coefficients.ensures i) (c.decode.ensures i))
    (omega arith) (omega arith) (c.apply-a.ensures.value, (c.apply-a.ensures.store_after, (c.apply-a.ensures.work_after, c.apply-a.ensures.output_after))) c.encode.ensures in record { value = g.0; store_after = g.1.0; work_after = g.1.1.0; out_after = g.1.1.1; work_len = long }
