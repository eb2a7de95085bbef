-- The nearest power: the function finds the exponent that the rule names, there is one only, and for a prime of the table the rule never
-- meets a tie. Assumes nothing.
use Rattle.std.proofs.Common.{◌≡◌, ℕ, zero, suc, ◌+◌, ◌-◌, ◌*◌, ◌/◌, ◌%◌, ◌^◌, ◌<◌, ◌≤◌, min, max, Bool, true, false, cond, eqb, ltb, sym, refl, ap, ◌∙◌, inl, inr, le_trans, le_of_eq, le_refl, lt_of_lt_of_le, lt_of_le_of_lt, le_of_lt, mul-le-mul_right, mod-lt, mul_assoc, mul_comm, eq-zero-or-pos, le_antisymm, eq-or-lt_of_le, mul-le-mul_left, mul-lt-mul_of_pos_right, one-mul, pow-suc, div-add-mod', zero-mul, mul-one, mul-add, mul_right_comm, not-le_of_lt, le-mul_of_pos_right, le_of_mul-le-mul_right, arith, pow-add, ltb-false, ltb-true, eq-eqb}
use native.Mathlib.Nat.{mul-mul-mul_comm, pow-zero, pow-succ', pow-le-pow_right, min-le_left, min-le_right, le-max_left, le-max_right, min-eq_left, min-eq_right, max-eq_left, max-eq_right, mul-add-mod_self_right, mul-mod_left, eq_of_mul-eq-mul_right}
use Rattle.samples.proofs.Turns.{lt_or_ge}
use Rattle.primes.specs.Table.{prime_at, none}
use Rattle.primes.specs.Power.{power_from, nearest_power, IsExponent, Nearest, OneExponent, NearestInRatio, NeverATie}
use Rattle.primes.proofs.Table.{none_at, at, prime_range}

-- ---- powers and squares

odd_power : (p m : ℕ) → p ^ (2 * m + 1) ≡ p ^ m * p ^ m * p
odd_power p m = ap (λ (k : ℕ). p ^ k) (twice m) ∙ pow-suc p (m + m) ∙ ap (λ (k : ℕ). k * p) (pow-add p m m)
  where
    twice : (m : ℕ) → 2 * m + 1 ≡ suc (m + m)
    twice m = omega arith

above : (p n : ℕ) → 2 ≤ p → n < p ^ n
above p zero h = rw pow-zero (omega arith)
above p (suc n) h = rw pow-suc (omega (arith, above p n h, mul-le-mul_left (p ^ n) h))

squares : (a b : ℕ) → a < b → a * a < b * b
squares a b h = lt_of_le_of_lt (mul-le-mul_left a (le_of_lt h)) (mul-lt-mul_of_pos_right h (omega arith))

-- ---- the exponent

-- p to the m is the power looked for, or lies below it
abbrev Below : ℕ → ℕ → ℕ → Type 0
Below p x zero = Unit {0}
Below p x (suc k) = p ^ (2 * suc k - 1) ≤ x * x

abbrev pub Reached : ℕ → ℕ → ℕ → Type 0
Reached p x v = (m : ℕ) × (v ≡ p ^ m) × Below p x m

abbrev Found : ℕ → ℕ → ℕ → Type 0
Found p x v = (m : ℕ) × (v ≡ p ^ m) × IsExponent p x m

pub reached_one : (p x : ℕ) → Reached p x 1
reached_one p x = (0, sym (pow-zero p), tt)

pub reached_more : (p x v : ℕ) → Reached p x v → v * v * p ≤ x * x → Reached p x (v * p)
reached_more p x v r h = (
  suc r.0,
  ap (λ (k : ℕ). k * p) r.1 ∙ sym (pow-suc p r.0),
  rw (less r.0, odd_power p r.0) (rw r.1 at h),
)
  where
    less : (m : ℕ) → 2 * suc m - 1 ≡ 2 * m + 1
    less m = omega arith

found : (p x v : ℕ) → Reached p x v → x * x < v * v * p → Found p x v
found p x v r h = (r.0, r.1, go r.0 r.2 (rw r.1 at h))
  where
    go : (m : ℕ) → Below p x m → x * x < p ^ m * p ^ m * p → IsExponent p x m
    go zero b l = simp (pow-zero, one-mul) at l
    go (suc k) b l = (b, rw (odd_power p (suc k)) l)

settles : (n p x v : ℕ) → Reached p x v → x * x < v * p ^ n * (v * p ^ n) * p → Found p x (power_from n p x v)
unfolding power_from
settles zero p x v r h = found p x v r (simp (pow-zero, mul-one) at h)
settles (suc n) p x v r h = go (ltb (x * x) (v * v * p)) refl (settles n p x (v * p))
  where
    shift : v * p ^ suc n ≡ v * p * p ^ n
    shift = ap (λ (k : ℕ). v * k) (pow-succ' p n) ∙ sym (mul_assoc v p (p ^ n))

    go : (b : Bool) → ltb (x * x) (v * v * p) ≡ b → (Reached p x (v * p) → x * x < v * p * p ^ n * (v * p * p ^ n) * p → Found p x (power_from n p x (v * p)))
        → Found p x (cond b v (power_from n p x (v * p)))
    go true t next = found p x v r (ltb-true _ _ t)
    go false t next = next (reached_more p x v r (ltb-false _ _ t)) (rw shift at h)

-- an exponent's power is not below another's
upper : (p x m : ℕ) → IsExponent p x m → x * x < p ^ (2 * m + 1)
upper p x zero e = rw (odd_power p 0) (simp (pow-zero, one-mul) e)
upper p x (suc k) e = e.1

apart : (p x m n : ℕ) → 2 ≤ p → m < n → IsExponent p x m → IsExponent p x n → ⊥
apart p x m zero h l e f = omega arith
apart p x m (suc k) h l e f = not-le_of_lt (upper p x m e) (le_trans (pow-le-pow_right (omega arith) (omega arith)) f.0)

pub one_exponent : OneExponent
one_exponent p x m n h e f = elim (lt_or_ge m n) [
  | inl l ↦ absurd (apart p x m n h l e f)
  | inr g ↦ elim (lt_or_ge n m) [
    | inl l ↦ absurd (apart p x n m h l f e)
    | inr k ↦ le_antisymm k g
  ]
]

pub nearest : Nearest
nearest p x h = settles x p x 1 (reached_one p x) (rw (one-mul (p ^ x)) enough)
  where
    enough : x * x < p ^ x * p ^ x * p
    enough = lt_of_lt_of_le (squares x (p ^ x) (above p x h)) (le-mul_of_pos_right (p ^ x * p ^ x) (omega arith))

-- where the search ends
pub reached_end : (p x v : ℕ) → 2 ≤ p → Reached p x v → x * x < v * v * p → v ≡ nearest_power p x
reached_end p x v h r l =
    let f = found p x v r l in
    let n = nearest p x h in
    f.1 ∙ ap (λ (k : ℕ). p ^ k) (one_exponent p x f.0 n.0 h f.2 n.2) ∙ sym n.1

-- it has not passed x, and p times as much is the most that it comes to
pub reached_upto : (p x v : ℕ) → 0 < p → v * v * p ≤ x * x → v ≤ x
reached_upto p x v h l = elim (lt_or_ge x v) [
  | inl g ↦ absurd (not-le_of_lt (squares x v g) (le_trans (le-mul_of_pos_right (v * v) h) l))
  | inr g ↦ g
]

-- ---- nearest in ratio

-- the power found is v, and w another, below it or above
module _ (p x v w : ℕ) where
  ratio_below : 0 < p → w * p ≤ v → v * v ≤ x * x * p → max x v * min x w ≤ max x w * min x v
  ratio_below P h l =
      le_trans (mul-le-mul_left (max x v) (min-le_right x w)) (le_trans middle (mul-le-mul_right (min x v) (le-max_left x w)))
    where
      less : w ≤ v
      less = le_trans (le-mul_of_pos_right w P) h

      middle : max x v * w ≤ x * min x v
      middle = elim (lt_or_ge x v) [
        | inl g ↦
            rw (max-eq_right (le_of_lt g), min-eq_left (le_of_lt g))
            (le_of_mul-le-mul_right (le_trans (le_of_eq (mul_assoc v w p)) (le_trans (mul-le-mul_left v h) l)) P)
        | inr g ↦ rw (max-eq_left g, min-eq_right g) (mul-le-mul_left x less)
      ]

  ratio_above : 0 < p → v * p ≤ w → x * x ≤ v * v * p → max x v * min x w ≤ max x w * min x v
  ratio_above P h l =
      le_trans (mul-le-mul_left (max x v) (min-le_left x w)) (le_trans middle (mul-le-mul_right (min x v) (le-max_right x w)))
    where
      less : v ≤ w
      less = le_trans (le-mul_of_pos_right v P) h

      middle : max x v * x ≤ w * min x v
      middle = elim (lt_or_ge x v) [
        | inl g ↦ rw (max-eq_right (le_of_lt g), min-eq_left (le_of_lt g)) (mul-le-mul_right x less)
        | inr g ↦
            rw (max-eq_left g, min-eq_right g)
            (le_trans l (le_trans (le_of_eq (mul_right_comm v v p)) (mul-le-mul_right v h)))
      ]

pub nearest_in_ratio : NearestInRatio
nearest_in_ratio p x k h =
    let n = nearest p x h in
    rw n.1 (go n.0 n.2)
  where
    P : 0 < p
    P = omega arith

    more : (i j : ℕ) → i < j → p ^ i * p ≤ p ^ j
    more i j l = le_trans (le_of_eq (sym (pow-suc p i))) (pow-le-pow_right P l)

    lower : (m : ℕ) → k < m → IsExponent p x m → p ^ m * p ^ m ≤ x * x * p
    lower zero l e = omega arith
    lower (suc j) l e =
        let two : suc j + suc j ≡ suc (2 * suc j - 1) = omega arith in
        le_trans (le_of_eq (sym (pow-add p (suc j) (suc j)) ∙ ap (λ (i : ℕ). p ^ i) two ∙ pow-suc p (2 * suc j - 1))) (mul-le-mul_right p e.0)

    go : (m : ℕ) → IsExponent p x m → max x (p ^ m) * min x (p ^ k) ≤ max x (p ^ k) * min x (p ^ m)
    go m e = elim (lt_or_ge k m) [
      | inl l ↦ ratio_below p x (p ^ m) (p ^ k) P (more k m l) (lower m l e)
      | inr g ↦ elim (eq-or-lt_of_le g) [
        | inl q ↦ rw q (le_refl _)
        | inr l ↦ ratio_above p x (p ^ m) (p ^ k) P (more m k l) (le_of_lt (rw (odd_power p m) at (upper p x m e)))
      ]
    ]

-- ---- never a tie

-- no number from 1 to p - 1 has a square that p divides
abbrev rootless : ℕ → Bool
rootless p = none (λ r. eqb (suc r * suc r % p) 0) (p - 1)

rest : (p q r x y : ℕ) → x ≡ q * p + r → y * x % p ≡ y * r % p
rest p q r x y e =
    ap (λ (k : ℕ). k % p) (ap (λ (k : ℕ). y * k) e ∙ mul-add y (q * p) r ∙ ap (λ (k : ℕ). k + y * r) (sym (mul_assoc y q p)))
    ∙ mul-add-mod_self_right (y * q) p (y * r)

root : (p x : ℕ) → 2 ≤ p → rootless p ≡ true → x * x % p ≡ 0 → x % p ≡ 0
root p x h t z = go (x % p) (mod-lt x (omega arith)) (sym (by (x % p)) ∙ ap (λ (k : ℕ). k % p) (mul_comm (x % p) x) ∙ sym (by x) ∙ z)
  where
    by : (y : ℕ) → y * x % p ≡ y * (x % p) % p
    by y = rest p (x / p) (x % p) x y (sym (div-add-mod' x p))

    go : (r : ℕ) → r < p → r * r % p ≡ 0 → r ≡ 0
    go zero l e = refl
    go (suc k) l e = absurd (none_at (λ r. eqb (suc r * suc r % p) 0) (p - 1) k t (omega arith) (eq-eqb _ 0 e))

-- a square that p divides is the square of a multiple of p
divided : (p x k : ℕ) → 2 ≤ p → rootless p ≡ true → x * x ≡ k * p → (y : ℕ) × (y * y * p ≡ k)
divided p x k h t e =
    let y = x / p in
    let z : x % p ≡ 0 = root p x h t (ap (λ (n : ℕ). n % p) e ∙ mul-mod_left k p) in
    let m : x / p * p ≡ x = omega (arith, div-add-mod' x p) in
    (y, eq_of_mul-eq-mul_right p (omega arith) (y * y * p) k (mul_assoc (y * y) p p ∙ mul-mul-mul_comm y y p p ∙ rw m e))

tie : (p : ℕ) → 2 ≤ p → rootless p ≡ true → (m x : ℕ) → x * x ≡ p ^ (2 * m + 1) → ⊥
tie p h t zero x e =
    let d = divided p x 1 h t (e ∙ pow-suc p 0 ∙ ap (λ (k : ℕ). k * p) (pow-zero p)) in
    elim (eq-zero-or-pos (d.0 * d.0)) [
      | inl z ↦ omega (arith, d.1, ap (λ (k : ℕ). k * p) z, zero-mul p)
      | inr s ↦ omega (arith, d.1, mul-le-mul_right p s, one-mul p)
    ]
tie p h t (suc m) x e =
    let d = divided p x (p ^ (2 * m + 1) * p) h t (e ∙ ap (λ (k : ℕ). p ^ k) (two_more m) ∙ pow-suc p (suc (2 * m + 1)) ∙ ap (λ (k : ℕ). k * p) (pow-suc p (2 * m + 1))) in
    tie p h t m d.0 (eq_of_mul-eq-mul_right p (omega arith) (d.0 * d.0) (p ^ (2 * m + 1)) d.1)
  where
    two_more : (m : ℕ) → 2 * suc m + 1 ≡ suc (suc (2 * m + 1))
    two_more m = omega arith

pub never_a_tie : NeverATie
never_a_tie i m x h e = tie (prime_at i) (prime_range i h).0 (at rootless refl i h) m x e
