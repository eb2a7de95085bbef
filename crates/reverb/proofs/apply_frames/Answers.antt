-- `reverb::apply_frames` meets its contract. Assumes nothing.
use mathlib.Core.Path.{◌≡◌}
use Prim.Native.Nat.{◌/◌}
use lib.ListN.{length}
use Rattle.samples.proofs.Clauses.{with_memory}
use Rattle.std.proofs.Common.{rules}
use Rattle.samples.specs.Answers.{Accepted, accepted}
use Rattle.unit.specs.UnitState.{of_state}
use Rattle.unit.specs.Layout.{wall}
use Rattle.judges.specs.Judges.{judged_frames}
use Rattle.machine.specs.Ending.{lend}
use Rattle.machine.specs.Several.{singly}
use Rattle.reverb.proofs.SeveralTurns.{all_let_by}
use Rattle.reverb.proofs.apply_frames.Goals.{In_default}
use mathlib.Core.Path.{ap}
use Rattle.reverb.proofs.apply_frames.Goals as goal

-- a call that the judgement has let by
through :
    (c : goal.In_default)
    → let a = c.args in
    judged_frames wall (of_state a.s) a.t a.coefficients.now (length a.input.now) (length a.store.now) (length a.work.now) (length a.output.now) ≡ Accepted
through c = search rules

pub play_frames-requires : goal.play_frames-requires
play_frames-requires c = through (goal.at.play_frames-requires c).In_default

pub returns : goal.returns
returns c =
    let a = c.args in
    let due = judged_frames wall (of_state a.s) a.t a.coefficients.now (length a.input.now) (length a.store.now) (length a.work.now) (length a.output.now) in
    let g = c.play_frames.ensures in with_memory (all_let_by due
    (singly wall a.t a.coefficients.now a.s.frame (length a.input.now / a.s.frame) (lend a.s a.store.now a.work.now) a.input.now a.output.now)
    a.s a.store.now a.work.now a.output.now _ _ _ _ (ap accepted (through (goal.at.returns c).In_default)) (g.value, (g.store_after, (g.work_after, g.output_after))))
