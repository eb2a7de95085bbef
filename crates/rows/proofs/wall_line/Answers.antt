-- `rows::wall_line` meets its contract. Assumes nothing.
use native.Mathlib.Omega.{arith}
use mathlib.Core.Path.{◌≡◌}
use lib.ListN.{length}
use Prim.Native.Nat.{◌+◌, ◌*◌, ◌≤◌}
use Rattle.samples.proofs.Clauses.{with_work}
use Rattle.unit.specs.Layout.{total, places_of}
use Rattle.unit.proofs.PlaceLaws.{placed, Placed, each}
use Rattle.rows.proofs.Ways.{done_within}
use Rattle.samples.proofs.Rows.{row_ends}
use Rattle.rows.proofs.LineLaid.{line_laid_lem}
use Rattle.rows.proofs.wall_line.Goals.{After-work_places-p, Start}
use Rattle.rows.proofs.wall_line.Goals as goal

at : (c : goal.After-work_places-p) → c.work_places-p.result ≡ places_of 16 c.args.f
at c = placed 16 _ (omega arith) (omega (arith, c.requires.1.short)) c.work_places-p.ensures

-- the row ends within the memory, which is short
module _ (c : goal.After-work_places-p) where
  abbrev s : goal.Start
  s = c.before.before.before

  spots : Placed c.work_places-p.result 16 s.args.f
  spots = each 16 _ (at c)

  within : s.args.f + 16 * s.args.f + s.args.i * s.args.f + s.args.f ≤ length s.args.work.now
  within = omega (arith, row_ends s.args.i 16 s.args.f s.requires.0, s.requires.1.work_is)

  short : length s.args.work.now ≤ 34 * 1024 + 1348
  unfolding total
  short = omega (arith, s.requires.1.short, s.requires.1.work_is)

pub returns : goal.returns
returns c =
    let p = s (goal.at.returns c).After-work_places-p in
    let a = p.args in
    let few : 3 * a.i ≤ 48 = omega (arith, p.requires.0) in rw (at (goal.at.returns c).After-work_places-p) (with_work (line_laid_lem a.f a.i a.work.now p.requires.0 p.requires.1 a.tail a.fs _ _ _
    (done_within (3 * a.i) 48 _ (rw (at (goal.at.returns c).After-work_places-p) at c.three_at-gs.ensures.value) few)
    (done_within (3 * a.i) 48 _ (rw (at (goal.at.returns c).After-work_places-p) at c.three_at-gs.ensures.row_after) few)
    (rw (at (goal.at.returns c).After-work_places-p) at c.add_input.ensures)))
