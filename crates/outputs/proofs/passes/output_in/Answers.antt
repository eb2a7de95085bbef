-- `outputs::passes::output_in` meets its contract. Assumes nothing.
use borrow.Author.Rules.{rules}
use native.Mathlib.Omega.{arith}
use mathlib.Core.Path.{◌≡◌}
use Prim.Native.Nat.{◌*◌, ◌≤◌}
use Rattle.samples.proofs.Clauses.{with_work}
use Rattle.unit.specs.Layout.{places_of}
use Rattle.unit.proofs.PlaceLaws.{placed, Placed, each}
use Rattle.rows.proofs.Ways.{done_within}
use Rattle.outputs.proofs.OutputJoins.{output_join}
use Rattle.outputs.proofs.passes.output_in.Goals.{After-work_places-p, Start}
use Rattle.outputs.proofs.passes.output_in.Goals as goal

module _ (c : goal.After-work_places-p) where
  abbrev s : goal.Start
  s = c.before.before.before

  at : c.work_places-p.result ≡ places_of s.args.n s.args.f
  at = placed _ _ s.requires.0 s.requires.1 c.work_places-p.ensures

  spots : Placed c.work_places-p.result s.args.n s.args.f
  spots = each _ _ at

pub returns : goal.returns
returns c =
    let p = s (goal.at.returns c).After-work_places-p in
    let a = p.args in
    let few : 3 * a.n ≤ 48 = omega (arith, p.requires.0) in with_work (output_join a.n a.f a.divisor a.passes a.fs a.work.now p.requires.2 p.requires.3 (at (goal.at.returns c).After-work_places-p)
    _ _ _ _ (search (rules, c.sum_row.auto)) c.sum_row.ensures c.pass_both.ensures
    (done_within (3 * a.n) 48 _ c.three_at.ensures.value few, done_within (3 * a.n) 48 _ c.three_at.ensures.row_after few))
