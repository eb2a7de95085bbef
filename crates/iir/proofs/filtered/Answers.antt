-- `iir::filtered` meets its contract. Assumes nothing.
use mathlib.Core.Path.{refl}
use Rattle.iir.specs.Step.{out_of, step}
use Rattle.iir.proofs.filtered.Goals as goal

pub returns : goal.returns
unfolding out_of step
returns c = refl
