-- `unit::range::open_or_blank` meets its contract. Assumes nothing.
use Rattle.std.proofs.Common.{rules}
use Rattle.unit.specs.Range.{blank_open}
use Rattle.unit.proofs.range.open_or_blank.Goals as goal

pub returns-else-s : goal.returns-else-s
unfolding blank_open
returns-else-s c = search rules
