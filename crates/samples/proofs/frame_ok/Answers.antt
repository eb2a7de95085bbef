-- `samples::frame_ok` meets its contract. Assumes nothing.
use Rattle.std.proofs.Common.{rules}
use Rattle.samples.specs.Sizes.{frame_ok}
use Rattle.samples.proofs.frame_ok.Goals as goal

pub returns : goal.returns
unfolding frame_ok
returns c = search rules
