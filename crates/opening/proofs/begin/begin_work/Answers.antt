-- `opening::begin::begin_work` meets its contract. Assumes nothing.
use native.Mathlib.Omega.{arith}
use lib.ListN.{length}
use Rattle.unit.specs.UnitState.{of_state}
use Rattle.unit.proofs.PlaceLaws.{placed, Placed, each}
use Rattle.opening.proofs.Opened.{begin_laid, lines_before}
use Rattle.opening.proofs.begin.begin_work.Goals.{After-work_places-p, Start}
use Rattle.opening.proofs.begin.begin_work.Goals as goal

module _ (c : goal.After-work_places-p) where
  abbrev s : goal.Start
  s = c.before.before.before.before.before.before.before.before

  spots : Placed c.work_places-p.result 16 s.args.s.frame
  spots = each 16 _ (placed 16 _ (omega arith) (omega (arith, s.requires.0.short)) c.work_places-p.ensures)

pub overflow_sub-a-2 : goal.overflow_sub-a-2
overflow_sub-a-2 c =
    let p = s c in
    omega (arith, spots c, lines_before (of_state p.args.s) (length p.args.store.now) p.requires.1, p.requires.0.work_is)

pub returns : goal.returns
returns c =
    let p = s (goal.at.returns c).After-work_places-p in
    begin_laid (of_state p.args.s) p.args.store.now _ _ (length p.args.work.now) _ (spots (goal.at.returns c).After-work_places-p).rings p.requires.0 p.requires.1
    c.clear.ensures c.copy.ensures
