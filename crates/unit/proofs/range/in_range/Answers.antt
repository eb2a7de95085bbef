-- `unit::range::in_range` meets its contract. Assumes nothing.
use mathlib.Core.Path.{ap, ◌∙◌}
use mathlib.Core.List.{List}
use Prim.Native.Nat.{ℕ}
use Rattle.unit.specs.Range.{in_range, cursors_in, blank_open}
use Rattle.unit.specs.UnitState.{of_state}
use Rattle.unit.specs.Layout.{wall, lengths}
use Rattle.samples.specs.Sizes.{rate_ok}
use mathlib.Core.Bool.{◌||◌, ◌&&◌}
use Rattle.unit.proofs.Ranges.{in_range_lengths}
use Rattle.unit.proofs.range.in_range.Goals as goal

pub returns : goal.returns
unfolding in_range
returns c =
    let a = c.args.s in
    let lines = c.cursors_in.ensures ∙ ap (λ (ls : List ℕ). cursors_in ls a.lines) c.lengths.ensures in
    (λ i. (c.rate_ok.ensures i && c.frame_ok.ensures i) && ((lines i && c.cursors_in-2.ensures i) && c.open_or_blank.ensures i))
    ∙ in_range_lengths (lengths wall (of_state a)) a.frame a.lines (rate_ok a.rate) (cursors_in wall.pass_lengths a.passes) (a.busy || blank_open (of_state a))
