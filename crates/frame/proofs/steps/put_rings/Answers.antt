-- `frame::steps::put_rings` meets its contract. Assumes nothing.
use Rattle.frame.proofs.LineTurns.{end_set}
use Rattle.frame.proofs.steps.put_rings.Goals as goal

pub returns : goal.returns
returns c =
    end_set c.args.allpass.now c.args.store.now _ c.requires c.copy.ensures
