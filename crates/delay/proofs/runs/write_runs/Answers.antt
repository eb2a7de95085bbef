-- `delay::runs::write_runs` meets its contract: a write is one run or two. Assumes nothing.
use native.Mathlib.Omega.{arith}
use mathlib.Core.Path.{sym, ap, ◌∙◌}
use mathlib.Core.List.{List, ◌++◌}
use Prim.Native.Nat.{◌+◌}
use lib.Ieee.{Float}
use lib.ListN.{length, take, drop}
use Rattle.samples.proofs.Turns.{back}
use Rattle.delay.proofs.Straight.{write_straight, two_written}
use Rattle.delay.proofs.runs.write_runs.Goals as goal

pub returns-then-xs-end : goal.returns-then-xs-end
returns-then-xs-end c =
    let ring = c.args.ring.now in
    let at = c.args.at in
    let xs = c.args.xs.now in
    back at (length xs) ring c.copy_from_slice.new.self
    ∙ ap (λ (ys : List Float). take at ring ++ (ys ++ drop (at + length xs) ring)) c.copy_from_slice.ensures.after
    ∙ sym (write_straight ring at c.requires.0 xs (omega (arith, c.if-xs-end.true)))

pub returns : goal.returns
returns c =
    let cut = c.split_at.ensures in
    two_written c.args.ring.now c.args.at c.requires.0 c.args.xs.now _ _ _ _ _ (omega arith) c.requires.1
    (c.copy_from_slice-2.ensures.after ∙ cut.front) (c.copy_from_slice-3.ensures.after ∙ cut.back) (omega arith) (omega arith) (omega (arith, cut.back_len))
