-- `unit::range::is_zero` meets its contract: of the numbers that fit 32 bits with a sign, 0 alone has no bit set. Assumes nothing.
use borrow.Author.Rules.{rules}
use mathlib.Core.Path.{◌≡◌, refl}
use Prim.Native.Nat.{zero, suc, ◌-◌, ◌^◌, ◌<◌}
use native.Mathlib.Omega.{arith}
use lib.Dec.{eqb}
use lib.IntN.{ℤ, pos, negsuc}
use lib.Signed.{mag}
use mir.Syntax.{w32}
use mir.Val.{of_z}
use borrow.Author.Tests.{ne_eqb}
use Rattle.unit.specs.Range.{is_zero}
use Rattle.unit.proofs.range.is_zero.Goals as goal

zero_bits : (z : ℤ) → mag z < 2 ^ 31 → eqb (of_z w32 z) 0 ≡ is_zero z
zero_bits (pos zero) h = refl
zero_bits (pos (suc n)) h = ne_eqb (suc n) 0 (omega arith)
zero_bits (negsuc n) h = ne_eqb (2 ^ 32 - suc n) 0 (omega arith)

pub returns : goal.returns
returns c = zero_bits c.args.n.0 (search rules)
