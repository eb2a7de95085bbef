-- `search::row_finite` meets its contract. Assumes nothing.
use Rattle.std.proofs.Common.{true, ◌&&◌, ◌∙◌, rules}
use Rattle.std.proofs.lemmas.Iterator.{YieldsList-from_slice}
use Rattle.std.proofs.lemmas.Iterator.Consumers.{fold_from_yields_List}
use Rattle.samples.specs.Binary32.{finite}
use Rattle.search.proofs.Finite.{finite-fold}
use Rattle.search.proofs.row_finite.Goals as goal

pub returns : goal.returns
returns c =
    fold_from_yields_List _ (λ ok x. ok && finite x) true _ c.fold.ensures.ran (YieldsList-from_slice c.args.row.now cc) (λ ok x r q k. search rules)
    ∙ finite-fold true c.args.row.now
