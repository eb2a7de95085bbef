-- The division by 32,768 is exact. Assumes nothing.
use mathlib.Core.Path.{◌≡◌, refl, sym, ap, ◌∙◌, subst}
use mathlib.Core.Bool.{Bool, true, false, cond}
use Prim.Native.Nat.{ℕ, zero, suc, ◌-◌, ◌*◌, ◌^◌, ◌≤◌, ◌<◌}
use native.Mathlib.Nat.{mul_assoc, mul_comm, mul-pos, mul-le-mul_right, lt_of_le_of_lt}
use native.Mathlib.Omega.{arith}
use lib.Dec.{lit<}
use lib.IntN.{ℤ, pos, negsuc}
use lib.Ieee.{Float, nan, inf, fin, binary32, minus, up, down, round, div, of_int, unlike}
use lib.Ieee.Exact.{HasValue, round_exact}
use lib.Ieee.Scale.{round_same}
use lib.Ieee.Back.{round_whole}
use lib.Ieee.Fits.{down_pos}
use borrow.Author.Tests.{lt-ltb, le-ltb, lt-leb}
use Rattle.samples.specs.Binary32.{◌⊘◌}
use Rattle.wave.specs.Floats.{signed_of, short_sample}
use Rattle.wave.specs.Promises.{ShortExact}

-- 32,768 is a power of two
divisor : of_int binary32 (pos 32768) ≡ fin false 1 (pos 15)
unfolding of_int
divisor = refl

-- a divisor without a minus leaves the sign
same_sign : (s : Bool) → unlike s false ≡ s
same_sign true = refl
same_sign false = refl

-- n / 32,768 is a number of binary32
part_exact : (s : Bool) (n : ℕ) → n ≤ 32768 → HasValue (round binary32 s n 32768) s n 32768
part_exact s n h = round_exact binary32 s n 32768 n 134 (lit< tt) (omega arith) (lt_of_le_of_lt (mul-le-mul_right (2 ^ 134) h) (lit< tt))
    (sym (mul_assoc n (2 ^ 134) 32768))

over_same : (a n d : ℕ) → a * 1 ≡ n * d → a * 1 * 32768 ≡ n * (32768 * d)
over_same a n d e = ap (λ (k : ℕ). k * 32768) e ∙ mul_assoc n d 32768 ∙ ap (λ (k : ℕ). n * k) (mul_comm d 32768)

quotient_exact : (x : Float) (s : Bool) (n : ℕ) → n ≤ 32768 → HasValue x s n 1 → HasValue (x ⊘ of_int binary32 (pos 32768)) s n 32768
unfolding div
quotient_exact nan s n h v = absurd v
quotient_exact (inf t) s n h v = absurd v
quotient_exact (fin t m e) s n h v =
    let below : 0 < 32768 * down e = mul-pos (lit< tt) (down_pos e) in
    let parts = round_same binary32 (unlike t false) (m * up e * 1) (32768 * down e) n 32768 below (lit< tt) (over_same (m * up e) n (down e) v.1) in
    let sign : unlike t false ≡ s = same_sign t ∙ v.0 in
    let is : (fin t m e ⊘ of_int binary32 (pos 32768)) ≡ round binary32 s n 32768
    = ap (λ (y : Float). fin t m e ⊘ y) divisor ∙ parts ∙ ap (λ (r : Bool). round binary32 r n 32768) sign in
    subst (λ (y : Float). HasValue y s n 32768) (sym is) (part_exact s n h)

-- ---- the whole number of 16 bits

signed_plus : (n : ℕ) → n < 32768 → signed_of n ≡ pos n
signed_plus n h = ap (λ (t : Bool). cond t (pos n) (minus n 65536)) (lt-ltb n 32768 h)

signed_minus : (k : ℕ) → k < 32768 → signed_of (65536 - suc k) ≡ negsuc k
signed_minus k h =
    let n = 65536 - suc k in
    let back : 65536 - suc n ≡ k = omega arith in
    ap (λ (t : Bool). cond t (pos n) (minus n 65536)) (le-ltb n 32768 (omega arith))
    ∙ ap (λ (t : Bool). cond t (pos (n - 65536)) (negsuc (65536 - suc n))) (lt-leb 65536 n (omega arith))
    ∙ ap negsuc back

-- ---- R11.13

sample_exact : (n : ℕ) (z : ℤ) (s : Bool) (a : ℕ) → signed_of n ≡ z → a ≤ 32768 → HasValue (of_int binary32 z) s a 1 → HasValue (short_sample n) s a 32768
unfolding short_sample
sample_exact n z s a e h v = quotient_exact (of_int binary32 (signed_of n)) s a h (subst (λ (y : ℤ). HasValue (of_int binary32 y) s a 1) (sym e) v)

plus_exact : (n : ℕ) → n < 32768 → HasValue (short_sample n) false n 32768
unfolding of_int
plus_exact n h = sample_exact n (pos n) false n (signed_plus n h) (omega arith) (round_whole binary32 false n (omega arith))

minus_exact : (n : ℕ) → 0 < n → n ≤ 32768 → HasValue (short_sample (65536 - n)) true n 32768
unfolding of_int
minus_exact zero p h = absurd (omega arith)
minus_exact (suc k) p h =
    sample_exact (65536 - suc k) (negsuc k) true (suc k) (signed_minus k h) h (round_whole binary32 true (suc k) (omega arith))

pub short_exact : ShortExact
short_exact = (plus_exact, minus_exact)
