-- `stages::rows::add_first` meets its contract. Assumes nothing.
use native.Mathlib.Omega.{arith}
use mathlib.Core.Path.{refl}
use Prim.Native.Nat.{◌+◌}
use lib.ListN.{length}
use borrow.Author.Tests.{le-leb, lt-leb}
use Rattle.stages.specs.Steps.{added_first}
use Rattle.stages.proofs.rows.add_first.Goals as goal

pub returns-then-f-len : goal.returns-then-f-len
unfolding added_first
returns-then-f-len c =
    rw (le-leb (c.args.f + c.args.f) (length c.args.rows.now) (omega arith)) c.add_at.ensures

pub returns-else-f-len : goal.returns-else-f-len
unfolding added_first
returns-else-f-len c =
    rw (lt-leb (c.args.f + c.args.f) (length c.args.rows.now) (omega arith)) refl
