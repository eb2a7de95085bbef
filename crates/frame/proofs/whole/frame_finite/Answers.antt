-- `frame::whole::frame_finite` meets its contract. Assumes nothing.
use mathlib.Core.Path.{◌≡◌, ap, ◌∙◌}
use mathlib.Core.Bool.{◌&&◌}
use lib.ListN.{drop}
use Rattle.search.specs.Search.{all_finite}
use Rattle.samples.proofs.Lists.{end_is}
use Rattle.unit.specs.declared.layout.Places.{Places}
use Rattle.unit.specs.Layout.{places_of}
use Rattle.unit.proofs.PlaceLaws.{placed, Placed, each}
use Rattle.stages.specs.Settle.{filters_finite}
use Rattle.frame.proofs.RowsOf.{judged_rows_lem}
use Rattle.frame.proofs.whole.frame_finite.Goals.{After-work_places-p, Start}
use Rattle.frame.proofs.whole.frame_finite.Goals as goal

module _ (c : goal.After-work_places-p) where
  abbrev s : goal.Start
  s = c.before.before.before

  at : c.work_places-p.result ≡ places_of s.args.n s.args.f
  at = placed _ _ s.requires.0 s.requires.1 c.work_places-p.ensures

  spots : Placed c.work_places-p.result s.args.n s.args.f
  spots = each _ _ at

pub returns : goal.returns
returns c =
    let a = (s (goal.at.returns c).After-work_places-p).args in
    let work = a.work.now in
    (λ i. c.filters_finite.ensures i && (c.all_finite.ensures ∙ ap all_finite (end_is _ work)) i)
    ∙ ap (λ (p : Places). filters_finite a.fs && all_finite (drop p.mixed work)) (at (goal.at.returns c).After-work_places-p)
    ∙ judged_rows_lem a.n a.f work a.fs
