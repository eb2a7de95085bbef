-- `mixer::sum_row` meets its contract. Assumes nothing.
use native.Mathlib.Omega.{arith}
use Rattle.std.proofs.Common.{rules}
use mathlib.Core.Path.{◌≡◌, sym, ap, ◌∙◌}
use lib.ListN.{length}
use Rattle.samples.proofs.Turns.{lent}
use Rattle.mixer.proofs.Passes.{first_row, summed_more}
use Rattle.mixer.proofs.sum_row.Goals as goal

pub loop-c-init : goal.loop-c-init
loop-c-init c =
    let f = length c.args.sum.now in
    let copied = c.copy_from_slice.ensures.after in
    search rules ∙ first_row c.args.r f c.args.reads.now (sym (ap length copied) ∙ c.copy_from_slice.ensures.len)

pub loop-c-preserved : goal.loop-c-preserved
loop-c-preserved c =
    let l = c.loop-c in
    let a = c.args in
    let f = length a.sum.now in
    summed_more a.r l.c f a.reads.now l.sum _ (omega arith) l.invariant c.minus.ensures (rw lent at c.plus_minus_row.ensures)

pub returns : goal.returns
returns c =
    let l = c.loop-c in
    let e : l.c ≡ c.args.n = omega arith in
    rw e at l.invariant
