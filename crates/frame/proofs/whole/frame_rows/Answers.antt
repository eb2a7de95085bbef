-- `frame::whole::frame_rows` meets its contract. Assumes nothing.
use borrow.Author.Rules.{rules}
use mathlib.Core.Path.{◌≡◌}
use Rattle.samples.proofs.Clauses.{with_work}
use Rattle.unit.specs.Layout.{places_of}
use Rattle.unit.proofs.PlaceLaws.{placed, Placed, each}
use Rattle.frame.proofs.RowJoins.{frame_join}
use Rattle.frame.proofs.whole.frame_rows.Goals.{After-work_places-p, Start}
use Rattle.frame.proofs.whole.frame_rows.Goals as goal

module _ (c : goal.After-work_places-p) where
  abbrev s : goal.Start
  s = c.before.before.before.before

  at : c.work_places-p.result ≡ places_of s.args.n s.args.f
  at = placed _ _ s.requires.few s.requires.small c.work_places-p.ensures

  spots : Placed c.work_places-p.result s.args.n s.args.f
  spots = each _ _ at

pub play_lines-gs-requires : goal.play_lines-gs-requires
play_lines-gs-requires c = record { lines_fit = search rules; rows_fit = (search rules, search (rules, spots (goal.at.play_lines-gs-requires c).After-work_places-p)) }

pub returns : goal.returns
returns c =
    let p = s (goal.at.returns c).After-work_places-p in
    let a = p.args in with_work (frame_join a.n a.f a.factor a.divisor a.tail a.rings a.fs a.store.now a.work.now p.requires (at (goal.at.returns c).After-work_places-p)
    _ _ _ _ _ c.copy.ensures c.play_lines-gs.auto.rows (c.play_lines-gs.ensures.value, c.play_lines-gs.ensures.rows_after) (c.output_row.ensures.value, c.output_row.ensures.work_after))
