-- `delay::runs::read_runs` meets its contract: a read is one run or two. Assumes nothing.
use native.Mathlib.Omega.{arith}
use mathlib.Core.Path.{sym, ◌∙◌}
use lib.ListN.{length}
use Rattle.samples.proofs.Turns.{lent}
use Rattle.delay.proofs.Straight.{read_straight, two_read}
use Rattle.delay.proofs.runs.read_runs.Goals as goal

pub returns-then-out-end : goal.returns-then-out-end
returns-then-out-end c =
    let ring = c.args.ring.now in
    let at = c.args.at in
    let n = length c.args.out.now in
    c.copy_from_slice.ensures.after ∙ lent at n ring ∙ sym (read_straight ring at c.requires.0 n (omega (arith, c.if-out-end.true)))

pub returns : goal.returns
returns c =
    let n = length c.args.out.now in
    two_read c.args.ring.now c.args.at c.requires.0 n _ _ _ _ (omega arith) c.requires.1
    c.copy_from_slice-2.ensures.after c.copy_from_slice-3.ensures.after (omega arith) (omega (arith, c.split_at_mut-front.ensures.back_len))
