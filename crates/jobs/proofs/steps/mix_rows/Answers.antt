-- `jobs::steps::mix_rows` meets its contract. Assumes nothing.
use native.Mathlib.Omega.{arith}
use Rattle.unit.proofs.PlaceLaws.{placed, Placed, each}
use Rattle.jobs.proofs.Laid.{mix_laid_lem}
use Rattle.jobs.proofs.steps.mix_rows.Goals.{After-work_places-p}
use Rattle.jobs.proofs.steps.mix_rows.Goals as goal

spots : (c : goal.After-work_places-p) → Placed c.work_places-p.result 16 c.args.f
spots c = each 16 _ (placed 16 _ (omega arith) (omega (arith, c.requires.short)) c.work_places-p.ensures)

pub returns : goal.returns
returns c =
    mix_laid_lem c.args.f c.args.work.now c.requires _ _ _ _ (spots (goal.at.returns c).After-work_places-p).reads (spots (goal.at.returns c).After-work_places-p).output (c.mix_rows.ensures.value, c.mix_rows.ensures.rows_after)
