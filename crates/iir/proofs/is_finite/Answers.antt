-- `iir::is_finite` meets its contract. Assumes nothing.
use Rattle.std.proofs.Common.{rules, ◌&&◌, true}
use Rattle.std.proofs.lemmas.Iterator.{YieldsList-from_slice}
use Rattle.std.proofs.lemmas.Iterator.Consumers.{fold_from_yields_List}
use Rattle.samples.specs.Binary32.{finite}
use Rattle.iir.specs.Nine.{numbers}
use Rattle.iir.proofs.Laws.{nine_fold}
use Rattle.iir.proofs.is_finite.Goals as goal

pub returns : goal.returns
returns c =
    nine_fold finite c.args.f _
    (fold_from_yields_List _ (λ ok x. ok && finite x) true _ c.fold.ensures.ran (YieldsList-from_slice (numbers c.args.f) (cc)) (λ ok x b q k. search rules))
