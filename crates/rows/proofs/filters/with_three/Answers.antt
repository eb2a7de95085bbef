-- `rows::filters::with_three` meets its contract. Assumes nothing.
use native.Mathlib.Omega.{arith}
use Rattle.rows.proofs.BandTurns.{three-set}
use Rattle.rows.proofs.filters.with_three.Goals as goal

pub returns : goal.returns
returns c =
    three-set c.args.k c.args.b c.args.fs (omega arith)
