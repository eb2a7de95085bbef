-- `wire::sample` gives the float of the pattern. Assumes nothing.
use mathlib.Core.Path.{◌≡◌, refl, sym, ◌∙◌, subst}
use mathlib.Core.Bool.{Bool, not}
use Prim.Native.Nat.{◌%◌}
use lib.Dec.{T}
use lib.Ieee.{nan, binary32, of_bits}
use lib.Ieee.Bits.{nan_bits_is, nan_bits_above}
use native.Mathlib.Omega.{arith}
use borrow.Author.Tests.{lt-ltb, le-ltb}
use Rattle.wire.proofs.Laws.{only_nan}
use Rattle.wire.proofs.sample.Goals as goal

of_nan : of_bits binary32 2143289344 ≡ nan
unfolding of_bits
of_nan = refl

pub float_from_bits-result : goal.float_from_bits-result
float_from_bits-result c =
    let n = c.args.n in
    subst (λ (b : Bool). T (not b)) (sym (nan_bits_above binary32 n ∙ le-ltb 2139095040 (n % 2147483648) (omega arith))) tt

pub returns-else-n-le2139095040 : goal.returns-else-n-le2139095040
returns-else-n-le2139095040 c =
    let n = c.args.n in
    of_nan ∙ sym (only_nan (of_bits binary32 n) (sym (nan_bits_is binary32 n) ∙ nan_bits_above binary32 n ∙ lt-ltb 2139095040 (n % 2147483648) (omega arith)))
