-- Bounds of rounded products and quotients of floats that are not below 0, and the whole part of such a float. Assumes nothing.
use Rattle.std.proofs.Common.{◌≡◌, ℕ, zero, suc, ◌+◌, ◌*◌, ◌/◌, ◌^◌, ◌<◌, ◌≤◌, Bool, true, false, cond, not, ◌&&◌, ◌||◌, T, eqb, ltb, ◌⊎◌, ℤ, pos, sym, refl, ap, ◌∙◌, inl, inr, true≢false, le_trans, le_of_eq, le_of_lt, mul-le-mul_right, mul_assoc, mul_comm, eq-zero-or-pos, mul-le-mul, mul-lt-mul_of_pos_right, mul-pos, one-mul, mul-zero, zero-mul, mul-one, mul_right_comm, le_of_mul-le-mul_right, arith, lit<, eqb→eq, ltb→lt, lt→ltb, ne_eqb}
use native.Mathlib.Nat.{mul-mul-mul_comm, div-le_of_le-mul}
use lib.Ieee.{Float, nan, inf, fin, Format, binary32, prec, emax, low, up, down, odd, units, round, mul, div, le, lt, of_int, to_unsigned, unlike}
use lib.Ieee.Fits.{up_pos, down_pos, round_is, and_l}
use lib.Ieee.Exact.{HasValue, round_exact}
use lib.Ieee.Order.{round_mono}
use lib.Ieee.Back.{round_whole}
use Rattle.bands.specs.Tail.{WholeExact}

-- x is a number from 0 to a / c, the two zeros among them
abbrev pub Upto : Float → ℕ → ℕ → Type 0
Upto nan a c = ⊥
Upto (inf s) a c = ⊥
Upto (fin s m e) a c = (m * up e * c ≤ a * down e) × (s ≡ true → m ≡ 0)

-- binary32 holds the whole number b
abbrev pub Held : ℕ → Type 0
Held b = HasValue (round binary32 false b 1) false b 1

pub held : (b : ℕ) → b ≤ 2 ^ 24 → Held b
held b h = round_whole binary32 false b h

pub whole_exact : WholeExact
unfolding of_int
whole_exact n h = held n h

pub value_upto : (x : Float) (a c : ℕ) → HasValue x false a c → Upto x a c
value_upto nan a c v = absurd v
value_upto (inf s) a c v = absurd v
value_upto (fin s m e) a c v = (le_of_eq v.1, λ q. absurd (true≢false (sym q ∙ v.0)))

-- ---- what is rounded from a fraction without a minus has none

abbrev plus : Float → Bool
plus nan = false
plus (inf s) = not s
plus (fin s m e) = not s

odd_plus : (d q k l : ℕ) → T (plus (odd d false q k l))
unfolding odd
odd_plus d zero k l = tt
odd_plus d (suc q) k l = tt

units_plus : (f : Format) (q k : ℕ) → T (plus (units f false q k))
unfolding units
units_plus f q k = go (ltb (q * 2 ^ k) (2 ^ (low f + suc (emax f))))
  where
    go : (b : Bool) → T (plus (cond b (odd (suc (prec f)) false q k (low f)) (inf false)))
    go true = odd_plus (suc (prec f)) q k (low f)
    go false = tt

round_plus : (a c : ℕ) → T (plus (round binary32 false a c))
round_plus a c = rw (round_is binary32 false a c) (units_plus binary32 _ _)

-- ---- a fraction up to a whole number that the format holds rounds to no more

or_split : (a b : Bool) → T (a || b) → T a ⊎ T b
or_split true b t = inl tt
or_split false b t = inr t

pub lt_or_eq : (a b : ℕ) (p : Bool) → T (ltb a b || (eqb a b && p)) → a ≤ b
lt_or_eq a b p t = elim (or_split (ltb a b) (eqb a b && p) t) [ inl u ↦ le_of_lt (ltb→lt a b u) | inr u ↦ le_of_eq (eqb→eq a b (and_l (eqb a b) p u)) ]

-- x, without a minus, is at most y, which is b
le_upto : (x y : Float) (b : ℕ) → T (plus x) → HasValue y false b 1 → T (le x y) → Upto x b 1
unfolding le
le_upto nan y b p v h = absurd p
le_upto (inf true) y b p v h = absurd p
le_upto (inf false) nan b p v h = absurd v
le_upto (inf false) (inf t) b p v h = absurd v
le_upto (inf false) (fin t n d) b p v h = absurd h
le_upto (fin true m e) y b p v h = absurd p
le_upto (fin false m e) nan b p v h = absurd v
le_upto (fin false m e) (inf t) b p v h = absurd v
le_upto (fin false m e) (fin true n d) b p v h = absurd (true≢false v.0)
le_upto (fin false m e) (fin false n d) b p v h = (
  le_of_mul-le-mul_right
      (le_trans (le_of_eq (ap (λ (z : ℕ). z * down d) (mul-one (m * up e))))
      (le_trans (lt_or_eq (m * up e * down d) (n * up d * down e) true h)
      (le_of_eq (ap (λ (z : ℕ). z * down e) (sym (mul-one (n * up d)) ∙ v.1) ∙ mul_right_comm b (down d) (down e)))))
      (down_pos d),
  λ q. absurd (true≢false (sym q)),
)

-- a zero
pub none_of : (m u : ℕ) → 0 < u → m * u ≡ 0 → m ≡ 0
none_of m u U e = elim (eq-zero-or-pos m) [ inl z ↦ z | inr p ↦ let some : 0 < m * u = mul-pos p U in omega arith ]

pub zero_upto : (s : Bool) (m : ℕ) (e : ℤ) (b : ℕ) → m ≡ 0 → Upto (fin s m e) b 1
zero_upto s m e b z = (rw (z, zero-mul, zero-mul) (omega arith), λ q. z)

none_upto : (x : Float) (s : Bool) (b c : ℕ) → 0 < c → HasValue x s 0 c → Upto x b 1
none_upto nan s b c C v = v
none_upto (inf t) s b c C v = v
none_upto (fin t m e) s b c C v = zero_upto t m e b (none_of m (up e) (up_pos e) (none_of (m * up e) c C (v.1 ∙ zero-mul (down e))))

-- a / c with the sign s, which is a minus at 0 alone
pub round_upto : (s : Bool) (a c b : ℕ) → 0 < c → Held b → a ≤ b * c → (s ≡ true → a ≡ 0) → Upto (round binary32 s a c) b 1
round_upto true a c b C v h z =
    rw (z refl) (none_upto (round binary32 true 0 c) true b c C (round_exact binary32 true 0 c 0 0 C (lit< tt) (lit< tt) (sym (zero-mul c))))
round_upto false a c b C v h z =
    le_upto (round binary32 false a c) (round binary32 false b 1) b (round_plus a c) v (round_mono binary32 a c b 1 C (lit< tt) (rw mul-one h))

-- ---- a product and a quotient

none_left : (m u v : ℕ) → m ≡ 0 → m * u * v ≡ 0
none_left m u v z = rw (z, zero-mul, zero-mul)

minus : (s t : Bool) (m n u v : ℕ) → (s ≡ true → m ≡ 0) → (t ≡ true → n ≡ 0) → unlike s t ≡ true → m * u * (n * v) ≡ 0
minus true t m n u v p q e = none_left m u (n * v) (p refl)
minus false true m n u v p q e = rw (q refl, zero-mul, mul-zero)
minus false false m n u v p q e = absurd (true≢false (sym e))

-- x up to a / c, times y up to r / k
pub mul_upto : (x y : Float) (a c r k b : ℕ) → Held b → 0 < c * k → a * r ≤ b * (c * k) → Upto x a c → Upto y r k → Upto (mul binary32 x y) b 1
unfolding mul
mul_upto nan y a c r k b w K h p q = absurd p
mul_upto (inf s) y a c r k b w K h p q = absurd p
mul_upto (fin s m e) nan a c r k b w K h p q = absurd q
mul_upto (fin s m e) (inf t) a c r k b w K h p q = absurd q
mul_upto (fin s m e) (fin t n d) a c r k b w K h p q =
    round_upto (unlike s t) (m * up e * (n * up d)) (down e * down d) b (mul-pos (down_pos e) (down_pos d)) w
    (le_of_mul-le-mul_right (cross (m * up e) (n * up d) (down e) (down d) p.0 q.0) K)
    (minus s t m n (up e) (up d) p.1 q.1)
  where
    cross : (x y e d : ℕ) → x * c ≤ a * e → y * k ≤ r * d → x * y * (c * k) ≤ b * (e * d) * (c * k)
    cross x y e d p q =
        le_trans (le_of_eq (mul-mul-mul_comm x y c k))
        (le_trans (mul-le-mul p q)
        (le_trans (le_of_eq (mul-mul-mul_comm a e r d))
        (le_trans (mul-le-mul_right (e * d) h) (le_of_eq (mul_right_comm b (c * k) (e * d))))))

unlike_plus : (s : Bool) → unlike s false ≡ true → s ≡ true
unlike_plus true e = refl
unlike_plus false e = e

-- x up to a, by the whole number c
pub div_upto : (x y : Float) (a c b : ℕ) → Held b → 0 < c → a ≤ b * c → Upto x a 1 → HasValue y false c 1 → Upto (div binary32 x y) b 1
unfolding div
div_upto nan y a c b w C h p v = absurd p
div_upto (inf s) y a c b w C h p v = absurd p
div_upto (fin s m e) nan a c b w C h p v = absurd v
div_upto (fin s m e) (inf t) a c b w C h p v = absurd v
div_upto (fin s m e) (fin true n d) a c b w C h p v = absurd (true≢false v.0)
div_upto (fin s m e) (fin false n d) a c b w C h p v =
    let nd : n * up d ≡ c * down d = sym (mul-one (n * up d)) ∙ v.1 in
    let some : 0 < n * up d = rw nd (mul-pos C (down_pos d)) in
    rw (ne_eqb n 0 (λ z. omega (arith, some, none_left n (up d) 1 z, mul-one (n * up d))))
    (round_upto (unlike s false) (m * up e * down d) (n * up d * down e) b (mul-pos some (down_pos e)) w
    (rw nd (cross (m * up e) (down e) (down d) (rw mul-one at p.0)))
    (λ q. none_left m (up e) (down d) (p.1 (unlike_plus s q))))
  where
    cross : (x e d : ℕ) → x ≤ a * e → x * d ≤ b * (c * d * e)
    cross x e d p = le_trans (mul-le-mul_right d (le_trans p (mul-le-mul_right e h))) (le_of_eq (mul_right_comm (b * c) e d ∙ simp mul_assoc))

-- ---- the whole part

pub quotient_upto : (a d b : ℕ) → a * 1 ≤ b * d → a / d ≤ b
quotient_upto a d b h = div-le_of_le-mul d (omega (arith, h, mul_comm b d))

pub whole_upto : (q : Float) (b : ℕ) → Upto q b 1 → to_unsigned 64 q ≤ b
unfolding to_unsigned
whole_upto nan b p = absurd p
whole_upto (inf s) b p = absurd p
whole_upto (fin true m e) b p = omega arith
whole_upto (fin false m e) b p = omega (arith, quotient_upto (m * up e) (down e) b p.0)

-- what the cut to a whole number asks
above : (q : Float) (b : ℕ) → Upto q b 1 → T (lt (fin true 1 (pos 0)) q)
unfolding lt
above nan b p = absurd p
above (inf s) b p = absurd p
above (fin true m e) b p = rw (p.1 refl, zero-mul) (lt→ltb 0 (1 * 1 * down e) (omega (arith, one-mul (down e), down_pos e)))
above (fin false m e) b p = lt→ltb 0 (1 * 1 * down e + m * up e * 1) (omega (arith, one-mul (down e), down_pos e))

below : (q : Float) (b : ℕ) → b < 2 ^ 64 → Upto q b 1 → T (lt q (fin false 1 (pos 64)))
unfolding lt
below nan b l p = absurd p
below (inf s) b l p = absurd p
below (fin true m e) b l p = rw (p.1 refl, zero-mul, zero-mul) (lt→ltb 0 (0 + 1 * 2 ^ 64 * down e) (omega (arith, down_pos e)))
below (fin false m e) b l p = lt→ltb (m * up e * 1) (1 * 2 ^ 64 * down e) (omega (arith, p.0, mul-lt-mul_of_pos_right l (down_pos e)))

pub cut_asks : (q : Float) (b : ℕ) → b < 2 ^ 64 → Upto q b 1 → T (lt (fin true 1 (pos 0)) q) × T (lt q (fin false 1 (pos 64)))
cut_asks q b l p = (above q b p, below q b l p)
