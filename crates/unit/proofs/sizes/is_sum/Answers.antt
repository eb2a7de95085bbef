-- `unit::sizes::is_sum` meets its contract: what is left of `len` without the rows is `base`. Assumes nothing.
use mathlib.Core.Path.{◌≡◌, sym}
use mathlib.Core.Bool.{Bool, true, false}
use Prim.Native.Nat.{ℕ, ◌+◌, ◌-◌, ◌*◌, ◌/◌, ◌≤◌, ◌<◌}
use native.Mathlib.Nat.{mul_comm, le-div_iff_mul-le}
use native.Mathlib.Omega.{arith}
use lib.Dec.{eqb}
use borrow.Author.Tests.{eq-eqb, ne_eqb, eqb-true, eqb-false}
use Rattle.unit.proofs.sizes.is_sum.Goals as goal

rows_fit : (len rows frame : ℕ) → 0 < rows → frame ≤ len / rows → rows * frame ≤ len
rows_fit len rows frame p h = rw (mul_comm rows frame) ((le-div_iff_mul-le p).0 h)

too_many : (len base rows frame : ℕ) → 0 < rows → len / rows < frame → false ≡ eqb len (base + rows * frame)
too_many len base rows frame p h =
    sym (ne_eqb len (base + rows * frame) (λ (e : len ≡ base + rows * frame).
    let l : frame ≤ len / rows = (le-div_iff_mul-le p).1 (rw (mul_comm frame rows) (omega arith)) in
    omega arith))

left_over : (len base k : ℕ) → k ≤ len → eqb (len - k) base ≡ eqb len (base + k)
left_over len base k h = go (eqb (len - k) base) mathlib.Core.Path.refl
  where
    go : (t : Bool) → eqb (len - k) base ≡ t → t ≡ eqb len (base + k)
    go true e = let l = eqb-true (len - k) base e in sym (eq-eqb len (base + k) (omega arith))
    go false e = let l = eqb-false (len - k) base e in sym (ne_eqb len (base + k) (λ (q : len ≡ base + k). l (omega arith)))

pub overflow_mul-result : goal.overflow_mul-result
overflow_mul-result c = omega (arith, rows_fit c.args.len c.args.rows c.args.frame c.requires c.if-frame-len.true)

pub overflow_sub-result : goal.overflow_sub-result
overflow_sub-result c = omega (arith, rows_fit c.args.len c.args.rows c.args.frame c.requires c.if-frame-len.true)

pub returns-then-frame-len : goal.returns-then-frame-len
returns-then-frame-len c = left_over _ _ _ (rows_fit c.args.len c.args.rows c.args.frame c.requires c.if-frame-len.true)

pub returns-else-frame-len : goal.returns-else-frame-len
returns-else-frame-len c = too_many _ _ _ _ c.requires c.if-frame-len.false
