-- `mixer::mix_twos` meets its contract. Assumes nothing.
use native.Mathlib.Omega.{arith}
use mathlib.Core.Path.{◌≡◌, refl, sym, ◌∙◌}
use Prim.Native.Nat.{◌*◌, ◌+◌}
use native.Mathlib.Nat.{zero-mul}
use lib.Seq.{take_all}
use Rattle.hadamard.specs.Rows.{mixed_row, mixed_rows}
use Rattle.hadamard.proofs.Laws.{row-length}
use Rattle.mixer.proofs.Passes.{two_done, two_end}
use Rattle.mixer.proofs.mix_twos.Goals as goal

pub loop-i-init : goal.loop-i-init
loop-i-init c = rw zero-mul refl

pub slice_bounds-mix_two-end : goal.slice_bounds-mix_two-end
slice_bounds-mix_two-end c = omega (arith, two_end c.loop-i.i c.args.n c.args.f (omega arith) (omega arith))

pub loop-i-preserved : goal.loop-i-preserved
loop-i-preserved c =
    let l = c.loop-i in
    let a = c.args in
    let long = row-length a.n a.f a.k a.reads.now in
    let fits = two_end l.i a.n a.f (omega arith) (omega arith) in
    let on : 2 * (l.i + 1) ≡ 2 * l.i + 2 = omega arith in
    rw on (two_done a.f (2 * l.i) (mixed_row a.n a.f a.k a.reads.now) l.mixed _ l.invariant (long (2 * l.i)) (long (2 * l.i + 1)) (omega (arith, fits)) c.mix_two.ensures refl)

pub returns : goal.returns
unfolding mixed_rows
returns c =
    let l = c.loop-i in
    let a = c.args in
    let e : 2 * l.i ≡ a.n = omega arith in
    sym (take_all (a.n * a.f) l.mixed (omega arith)) ∙ rw e at l.invariant
