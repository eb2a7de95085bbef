-- `mixer::sum_two` meets its contract. Assumes nothing.
use native.Mathlib.Omega.{arith}
use mathlib.Core.Bool.{not}
use mathlib.Core.Path.{◌≡◌, refl, sym, ap, ◌∙◌}
use Prim.Native.Nat.{◌*◌, ◌+◌, ◌%◌}
use lib.ListN.{length, take}
use lib.Seq.{length-take-le}
use native.Mathlib.Nat.{one-mul}
use Rattle.samples.proofs.Rows.{row_ends}
use Rattle.samples.proofs.Turns.{lent}
use Rattle.mixer.proofs.Signs.{same_right, same_down, other}
use Rattle.mixer.proofs.Passes.{first_row, summed_more, summed_two, two_end}
use Rattle.mixer.proofs.sum_two.Goals as goal

pub loop-i-init : goal.loop-i-init
loop-i-init c =
    let a = c.args in
    let f = length a.low.now in
    let low = rw lent at c.start_two.ensures.low_after in
    let high = rw lent at c.start_two.ensures.high_after in
    let first : length (take f a.reads.now) ≡ f = length-take-le f a.reads.now (omega (arith, row_ends 0 a.n f (omega arith))) in
    let m = c.minus.ensures in
    let m' = ap not (m ∙ same_right a.r 0 (omega arith) refl) ∙ sym (other a.r 0 (omega arith) refl) in (
      summed_more a.r 1 f a.reads.now (take f a.reads.now) _ (omega arith) (first_row a.r f a.reads.now first) m (rw one-mul low),
      summed_more (a.r + 1) 1 f a.reads.now (take f a.reads.now) _ (omega arith) (first_row (a.r + 1) f a.reads.now first) m' (rw one-mul high),
    )

pub slice_bounds-cross_row-end-in-loop-i : goal.slice_bounds-cross_row-end-in-loop-i
slice_bounds-cross_row-end-in-loop-i c = omega (arith, two_end c.loop-i.i c.args.n (length c.args.low.now) (omega arith) (omega arith))

pub loop-i-preserved : goal.loop-i-preserved
loop-i-preserved c =
    let l = c.loop-i in
    let a = c.args in
    let f = length a.low.now in
    let k = 2 * l.i in
    let ec : k % 2 ≡ 0 = omega arith in
    let m = c.minus-in-loop-i.ensures in
    let on : 2 * (l.i + 1) ≡ k + 2 = omega arith in
    let low = rw (lent (k * f) f a.reads.now, lent (k * f + f) f a.reads.now) at c.cross_row.ensures.low_after in
    let high = rw (lent (k * f) f a.reads.now, lent (k * f + f) f a.reads.now) at c.cross_row.ensures.high_after in
    rw on (
      summed_two a.r k f a.reads.now l.low _ (omega arith) l.invariant.0 m (m ∙ sym (same_right a.r k (omega arith) ec)) low,
      summed_two (a.r + 1) k f a.reads.now l.high _ (omega arith) l.invariant.1 (m ∙ sym (same_down a.r k (omega arith) ec))
          (ap not m ∙ sym (other a.r k (omega arith) ec)) high,
    )

pub returns-clause-low_after : goal.returns-clause-low_after
returns-clause-low_after c =
    let l = c.loop-i in
    let e : 2 * l.i ≡ c.args.n = omega arith in
    rw e at l.invariant.0

pub returns-clause-high_after : goal.returns-clause-high_after
returns-clause-high_after c =
    let l = c.loop-i in
    let e : 2 * l.i ≡ c.args.n = omega arith in
    rw e at l.invariant.1
