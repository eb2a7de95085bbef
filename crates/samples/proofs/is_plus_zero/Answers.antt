-- `samples::is_plus_zero` meets its contract: of the floats that equal 0, one over +0 alone is above 0. Assumes nothing.
use mathlib.Core.Path.{◌≡◌, refl, sym, ◌∙◌}
use mathlib.Core.Bool.{Bool, true, false}
use Prim.Native.Nat.{ℕ, zero, suc, ◌*◌, ◌<◌, ◌^◌}
use native.Mathlib.Omega.{arith}
use native.Mathlib.Nat.{zero-mul, mul-one, one-mul, mul-pos, pow-suc}
use lib.IntN.{ℤ, pos, negsuc}
use lib.Ieee.{Float, nan, inf, fin, binary32, eq, lt, div, of_bits, up, down, fits}
use lib.Ieee.Fits.{up_pos}
use borrow.Author.Tests.{eqb-true}
use Rattle.samples.specs.Binary32.{plus_zero}
use Rattle.samples.proofs.Laws.{split_and}
use Rattle.samples.proofs.is_plus_zero.Goals as goal

abbrev zero32 : Float
zero32 = fin false 0 (pos 0)

abbrev one32 : Float
one32 = fin false 1 (pos 0)

not_level : (s : Bool) (m : ℕ) (e : ℤ) → eq (fin s (suc m) e) zero32 ≡ true → ⊥
unfolding eq
not_level s m e h =
    let q : suc m * up e * 1 ≡ 0 * 1 * down e = eqb-true _ _ (split_and _ _ h).0 in
    let r : suc m * up e ≡ 0 = sym (mul-one (suc m * up e)) ∙ q ∙ simp zero-mul in
    let some : 0 < suc m = omega arith in
    let b : 0 < suc m * up e = mul-pos some (up_pos e) in
    omega arith

no_power : (k : ℕ) → 2 ^ suc k ≡ 1 → ⊥
no_power k e = omega (arith, pow-suc 2 k, e)

when_zero : (x : Float) → fits binary32 x ≡ true → eq x zero32 ≡ true → lt zero32 (div binary32 one32 x) ≡ plus_zero x
unfolding eq lt div plus_zero fits
when_zero nan f e = refl
when_zero (inf true) f e = refl
when_zero (inf false) f e = refl
when_zero (fin s (suc m) e) f h = absurd (not_level s m e h)
when_zero (fin true zero e) f h = refl
when_zero (fin false zero (pos zero)) f h = refl
when_zero (fin false zero (pos (suc k))) f h = absurd (no_power k (sym (mul-one (2 ^ suc k)) ∙ eqb-true _ _ f))
when_zero (fin false zero (negsuc k)) f h = absurd (no_power k (sym (one-mul (2 ^ suc k)) ∙ eqb-true _ _ f))

when_not : (x : Float) → eq x zero32 ≡ false → false ≡ plus_zero x
unfolding eq plus_zero
when_not nan e = refl
when_not (inf s) e = refl
when_not (fin s (suc m) e) h = refl
when_not (fin true zero e) h = refl
when_not (fin false zero (pos zero)) h = sym h
when_not (fin false zero (pos (suc k))) h = refl
when_not (fin false zero (negsuc k)) h = refl

pub returns-then-x : goal.returns-then-x
unfolding of_bits
returns-then-x c = when_zero c.args.x c.well_formed.0.1 c.if-x.true

pub returns-else-x : goal.returns-else-x
unfolding of_bits
returns-else-x c = c.if-x.false ∙ when_not c.args.x c.if-x.false
