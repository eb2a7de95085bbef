-- `levels::add_channels` meets its contract. Assumes nothing.
use native.Mathlib.Omega.{arith}
use mathlib.Core.Path.{◌≡◌, refl, sym, ◌∙◌}
use Prim.Native.Nat.{◌-◌, ◌+◌, ◌*◌}
use native.Mathlib.Nat.{add-mul, one-mul, zero-mul, sub-zero}
use Rattle.samples.proofs.Turns.{lent}
use Rattle.levels.proofs.Turns.{summed_more}
use Rattle.levels.proofs.add_channels.Goals as goal

pub loop-i-init : goal.loop-i-init
loop-i-init c = rw (zero-mul, sub-zero) refl

pub loop-i-preserved : goal.loop-i-preserved
loop-i-preserved c =
    let l = c.loop-i in
    let a = c.args in
    let next : (l.i + 1) * a.samples ≡ l.i * a.samples + a.samples = rw (add-mul, one-mul) refl in
    rw (c.add.ensures, lent, next)
    (sym (summed_more a.samples (l.i * a.samples) a.buffer.now l.row a.channels l.i (omega arith)) ∙ l.invariant)

pub returns : goal.returns
returns c =
    let done : c.args.channels - c.loop-i.i ≡ 0 = omega arith in
    rw done at c.loop-i.invariant
