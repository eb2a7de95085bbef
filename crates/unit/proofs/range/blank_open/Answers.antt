-- `unit::range::blank_open` meets its contract. Assumes nothing.
use Rattle.std.proofs.Common.{rules}
use Rattle.unit.specs.Range.{blank_open}
use Rattle.unit.proofs.range.blank_open.Goals as goal

pub returns : goal.returns
unfolding blank_open
returns c = search rules
