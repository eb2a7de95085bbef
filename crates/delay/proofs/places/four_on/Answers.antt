-- `delay::places::four_on` meets its contract: wrapped once, or at each sample. Assumes nothing.
use mathlib.Core.Path.{sym, ◌∙◌}
use Rattle.delay.proofs.Laws.{ahead-wrap, ahead-mod}
use Rattle.delay.proofs.places.four_on.Goals as goal

pub returns-then-l-ge4 : goal.returns-then-l-ge4
returns-then-l-ge4 c = c.advance.ensures.0 ∙ sym (ahead-wrap c.args.l c.args.at 4 c.requires c.if-l-ge4.true)

pub returns-else-l-ge4 : goal.returns-else-l-ge4
returns-else-l-ge4 c = sym (ahead-mod c.args.l 4 c.args.at c.requires)
