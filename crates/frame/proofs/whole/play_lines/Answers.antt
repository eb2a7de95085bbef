-- `frame::whole::play_lines` meets its contract. Assumes nothing.
use borrow.Author.Rules.{rules}
use mathlib.Core.Path.{◌≡◌}
use Rattle.samples.proofs.Clauses.{with_rows}
use Rattle.unit.specs.Layout.{places_of}
use Rattle.unit.proofs.PlaceLaws.{placed, Placed, each}
use Rattle.frame.proofs.RowJoins.{lines_join}
use Rattle.frame.proofs.whole.play_lines.Goals.{After-work_places-p, Start}
use Rattle.frame.proofs.whole.play_lines.Goals as goal

module _ (c : goal.After-work_places-p) where
  abbrev s : goal.Start
  s = c.before.before.before.before

  at : c.work_places-p.result ≡ places_of s.args.n s.args.f
  at = placed _ _ s.requires.lines_fit.few s.requires.lines_fit.small c.work_places-p.ensures

  spots : Placed c.work_places-p.result s.args.n s.args.f
  spots = each _ _ at

pub returns : goal.returns
returns c =
    let p = s (goal.at.returns c).After-work_places-p in
    let a = p.args in with_rows (lines_join a.n a.f a.factor a.tail a.fs a.rows.now _ p.requires.rows_fit.0 p.requires.lines_fit.few p.requires.lines_fit.small p.requires.rows_fit.1 (at (goal.at.returns c).After-work_places-p)
    _ _ _ (search (rules, c.read_lines.auto)) c.read_lines.ensures (c.line_rows.ensures.value, c.line_rows.ensures.rows_after))
