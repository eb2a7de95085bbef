-- `shell::settings::tail_calls` meets its contract: a number above 0 is its magnitude, which fits. Assumes nothing.
use native.Mathlib.Omega.{arith}
use mathlib.Core.Path.{◌≡◌, refl, sym, subst}
use mathlib.Core.Bool.{true, false}
use Prim.Native.Nat.{zero, suc, ◌<◌}
use lib.Dec.{T}
use lib.IntN.{ℤ, pos, negsuc, nat_abs}
use lib.Signed.{lt_z, non_neg, mag}
use mir.Syntax.{w32}
use mir.ValLaws.{to_z-of_z}
use borrow.Author.Rules.{sfits_of}
use borrow.Author.Tests.{lt-ltb}
use Rattle.shell.specs.Settings.{calls}
use Rattle.shell.proofs.settings.tail_calls.Goals as goal

above : (z : ℤ) → mag z < 2147483648 → lt_z (pos 0) z ≡ true → T (non_neg z) × (nat_abs z < 4294967296) × (nat_abs z ≡ calls z)
above (pos n) h t = (tt, omega arith, refl)
above (negsuc n) h t = absurd (subst T (sym t) tt)

not_above : (z : ℤ) → lt_z (pos 0) z ≡ false → 0 ≡ calls z
not_above (pos zero) t = refl
not_above (pos (suc n)) t = absurd (subst T t (subst T (sym (lt-ltb 0 (suc n) (omega arith))) tt))
not_above (negsuc n) t = refl

pub overflow_cast-result : goal.overflow_cast-result
overflow_cast-result c =
    let z = c.args.count.0 in
    let h = c.struct_told-1.given.0.1 in
    let q = to_z-of_z w32 z (sfits_of h) in
    let p = above z h (rw q at c.if-n-gt0.true) in
    rw q (p.0, record { fits = p.1 })

pub returns-then-n-gt0 : goal.returns-then-n-gt0
returns-then-n-gt0 c =
    let z = c.args.count.0 in
    let h = c.struct_told-1.given.0.1 in
    let q = to_z-of_z w32 z (sfits_of h) in
    rw q (above z h (rw q at c.if-n-gt0.true)).2

pub returns-else-n-gt0 : goal.returns-else-n-gt0
returns-else-n-gt0 c =
    let z = c.args.count.0 in
    let q = to_z-of_z w32 z (sfits_of c.struct_told-1.given.0.1) in
    not_above z (rw q at c.if-n-gt0.false)
