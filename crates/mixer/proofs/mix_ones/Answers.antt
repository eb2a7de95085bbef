-- `mixer::mix_ones` meets its contract. Assumes nothing.
use native.Mathlib.Omega.{arith}
use mathlib.Core.Path.{◌≡◌, refl, sym, ap, ◌∙◌}
use Prim.Native.Nat.{◌*◌, ◌+◌, ◌≤◌}
use native.Mathlib.Nat.{zero-mul}
use lib.ListN.{length}
use lib.Seq.{take_all}
use Rattle.samples.proofs.Lists.{lent_long}
use Rattle.samples.proofs.Rows.{row_ends}
use Rattle.hadamard.specs.Rows.{mixed_row, mixed_rows}
use Rattle.hadamard.proofs.Laws.{row-length}
use Rattle.mixer.proofs.Passes.{row_done}
use Rattle.mixer.proofs.mix_ones.Goals as goal

pub loop-r-init : goal.loop-r-init
loop-r-init c = rw zero-mul refl

pub loop-r-preserved : goal.loop-r-preserved
loop-r-preserved c =
    let l = c.loop-r in
    let a = c.args in
    let fits : l.r * a.f + a.f ≤ length l.mixed = omega (arith, row_ends l.r a.n a.f (omega arith)) in
    let made = rw (lent_long (l.r * a.f) l.mixed a.f fits) at c.mix_row.ensures in
    row_done a.f l.r (mixed_row a.n a.f a.k a.reads.now) l.mixed _ l.invariant (ap length made ∙ row-length a.n a.f a.k a.reads.now l.r) fits made refl

pub returns : goal.returns
unfolding mixed_rows
returns c =
    let l = c.loop-r in
    let a = c.args in
    let e : l.r ≡ a.n = omega arith in
    sym (take_all (a.n * a.f) l.mixed (omega arith)) ∙ rw e at l.invariant
