-- `rows::lines_in` meets its contract. Assumes nothing.
use mathlib.Core.Path.{◌≡◌}
use Rattle.samples.proofs.Clauses.{with_rows}
use Rattle.unit.specs.Layout.{places_of}
use Rattle.unit.proofs.PlaceLaws.{placed, Placed, each}
use Rattle.rows.proofs.RowJoins.{lines_join}
use Rattle.rows.proofs.lines_in.Goals.{After-work_places-p}
use Rattle.rows.proofs.lines_in.Goals as goal

at : (c : goal.After-work_places-p) → let a = c.args in c.work_places-p.result ≡ places_of a.n a.f
at c = placed _ _ c.requires.1 c.requires.2 c.work_places-p.ensures

spots : (c : goal.After-work_places-p) → let a = c.args in Placed c.work_places-p.result a.n a.f
spots c = each _ _ (at c)

pub returns : goal.returns
returns c =
    let a = c.args in with_rows (lines_join a.n a.f a.factor a.tail a.fs _ a.rows.now _ _ _ _ c.requires.0 c.requires.3
    (rw (at (goal.at.returns c).After-work_places-p) at c.mix_rows.ensures.value, rw (at (goal.at.returns c).After-work_places-p) at c.mix_rows.ensures.rows_after) (rw (at (goal.at.returns c).After-work_places-p) at c.band_lines-gs.ensures.value, rw (at (goal.at.returns c).After-work_places-p) at c.band_lines-gs.ensures.rows_after) (rw (at (goal.at.returns c).After-work_places-p) at c.add_unless.ensures))
