-- `frame::whole::settle_if` meets its contract. Assumes nothing.
use mathlib.Core.Path.{refl}
use borrow.Author.Tests.{not-true, not-false}
use mathlib.Core.Path.{ap}
use mathlib.Core.Bool.{not}
use Rattle.frame.proofs.whole.settle_if.Goals as goal

pub returns-then-not-ok : goal.returns-then-not-ok
returns-then-not-ok c =
    let e = not-true c.args.ok (ap not c.if-not-ok.true) in record { store_after = rw e refl; output_after = rw e refl }

pub returns : goal.returns
returns c =
    let e = not-false c.args.ok (ap not c.if-not-ok.false) in record { store_after = rw e c.settle_frame.ensures.store_after; output_after = rw e c.settle_frame.ensures.output_after }
