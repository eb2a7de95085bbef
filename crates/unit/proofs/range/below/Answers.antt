-- `unit::range::below` meets its contract. Assumes nothing.
use Rattle.std.proofs.Common.{rules}
use Rattle.unit.specs.Range.{below}
use Rattle.unit.proofs.range.below.Goals as goal

pub returns : goal.returns
unfolding below
returns c = search rules
