-- `samples::rate_ok` meets its contract. Assumes nothing.
use borrow.Author.Rules.{rules}
use Rattle.samples.specs.Sizes.{rate_ok}
use Rattle.samples.proofs.rate_ok.Goals as goal

pub returns : goal.returns
unfolding rate_ok
returns c = search rules
