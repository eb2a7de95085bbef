-- The count of a tail: its range, and the ceiling by way of the whole part. Assumes nothing.
use Rattle.std.specs.Prelude.{Err}
use Rattle.std.proofs.Common.{◌≡◌, ℕ, ◌+◌, ◌-◌, ◌*◌, ◌/◌, ◌^◌, ◌<◌, ◌≤◌, Bool, true, false, cond, ◌&&◌, T, eqb, ltb, ℤ, pos, sym, refl, ap, ◌∙◌, true≢false, mod-lt, div-lt_iff_lt-mul, add-mul, lt_of_mul-lt-mul_right, one-mul, div-add-mod', zero-mul, mul-one, mul_right_comm, le_of_mul-le-mul_right, arith, lit<, eqb→eq, ltb-false, ltb-true}
use native.Mathlib.Nat.{div-eq_of_lt-le}
use lib.Ieee.{Float, nan, inf, fin, binary32, up, down, le, lt, eq, of_bits, of_int, to_unsigned}
use lib.Ieee.Fits.{up_pos, down_pos, and_l}
use lib.Ieee.Exact.{HasValue, round_exact}
use Rattle.samples.specs.Binary32.{+0}
use Rattle.samples.specs.declared.Refusal.TheVariants.{BadSize, BadTime}
use Rattle.samples.specs.Answers.{Accepted}
use Rattle.samples.specs.Sizes.{rate_ok, frame_ok}
use Rattle.samples.proofs.Laws.{split_and, needed, accept_either, Rate, rate_of, Frame, frame_of}
use Rattle.bands.specs.declared.Times.{Times}
use Rattle.bands.specs.Times.{time_ok, times_ok, larger, largest}
use Rattle.bands.specs.Tail.{ceiling, frames_in, judged_tail_count, tail_count, CountRange, NoTail}
use Rattle.bands.proofs.Bounds.{Upto, Held, held, whole_exact, value_upto, mul_upto, div_upto, quotient_upto, whole_upto, none_of, zero_upto, lt_or_eq}

-- ---- a time in range is a number up to 100

-- a number that is level with +0
nothing : (m : ℕ) (e : ℤ) → T (eqb (0 * 1 * down e) (m * up e * 1)) → m ≡ 0
nothing m e h =
    let level : 0 * 1 * down e ≡ m * up e * 1 = eqb→eq _ _ h in
    none_of m (up e) (up_pos e) (omega (arith, level, zero-mul (down e)))

hundred : (x : Float) → T (le +0 x) → T (le x (of_bits binary32 0x42c8_0000)) → Upto x 100 1
unfolding le of_bits
hundred nan l h = absurd l
hundred (inf true) l h = absurd l
hundred (inf false) l h = absurd h
hundred (fin true m e) l h = zero_upto true m e 100 (nothing m e (and_l (eqb (0 * 1 * down e) (m * up e * 1)) (eqb (0 * 1 * down e) 0) l))
hundred (fin false m e) l h = (lt_or_eq (m * up e * 1) (25 * 4 * down e) true h, λ q. absurd (true≢false (sym q)))

pub time_upto : (x : Float) → time_ok x ≡ true → Upto x 100 1
unfolding time_ok
time_upto x e =
    let p : (le +0 x ≡ true) × (le x (of_bits binary32 0x42c8_0000) ≡ true) = split_and _ _ e in
    hundred x (rw p.0 tt) (rw p.1 tt)

-- ---- the frames of a tail

-- of a time up to a, where p bounds the product and b the quotient
frames_within : (x : Float) (rate frame a p b : ℕ) → Held p → Held b → a * rate ≤ p → p ≤ b * frame → Upto x a 1 → rate ≤ 192000 → 4 ≤ frame → frame ≤ 1024
    → Upto (frames_in x rate frame) b 1
frames_within x rate frame a p b hp hb lp lb u r f g =
    div_upto _ _ p frame b hb (omega arith) lb
    (mul_upto x (of_int binary32 (pos rate)) a 1 rate 1 p hp (omega arith) (omega arith) u
    (value_upto (of_int binary32 (pos rate)) rate 1 (whole_exact rate (omega arith))))
    (whole_exact frame (omega arith))

pub frames_upto : (x : Float) (rate frame : ℕ) → Upto x 100 1 → rate ≤ 192000 → 4 ≤ frame → frame ≤ 1024 → Upto (frames_in x rate frame) 4800000 1
frames_upto x rate frame u r f g =
    frames_within x rate frame 100 19200000 4800000
    (round_exact binary32 false 19200000 1 9375 160 (lit< tt) (lit< tt) (lit< tt) refl) (held 4800000 (omega arith)) (omega arith) (omega arith) u r f g

-- ---- the ceiling, by way of the whole part

-- a / d, and (a + (d - 1)) / d
ceil_up : (a d n : ℕ) → 0 < d → n ≡ a / d → n * d < a → (a + (d - 1)) / d ≡ n + 1
ceil_up a d n D e h =
    div-eq_of_lt-le d (omega (arith, add-mul n 1 d, one-mul d))
    (omega (arith, add-mul (n + 1) 1 d, add-mul n 1 d, one-mul d, div-add-mod' a d, mod-lt a D, ap (λ (k : ℕ). k * d) e))

ceil_same : (a d n : ℕ) → 0 < d → n ≡ a / d → a ≤ n * d → (a + (d - 1)) / d ≡ n
ceil_same a d n D e h =
    div-eq_of_lt-le d (omega (arith, div-add-mod' a d, ap (λ (k : ℕ). k * d) e)) (omega (arith, add-mul n 1 d, one-mul d))

-- y is the whole number n, and x is a / d: they compare as n · d and a
ceil_by : (a d n y u : ℕ) → 0 < d → 0 < u → n ≡ a / d → y * 1 ≡ n * u → (a + (d - 1)) / d ≡ cond (ltb (y * d) (a * u)) (n + 1) n
ceil_by a d n y u D U e v = go (ltb (y * d) (a * u)) refl
  where
    crossed : y * d ≡ n * d * u
    crossed = ap (λ (z : ℕ). z * d) (sym (mul-one y) ∙ v) ∙ mul_right_comm n u d

    go : (b : Bool) → ltb (y * d) (a * u) ≡ b → (a + (d - 1)) / d ≡ cond b (n + 1) n
    go true t = ceil_up a d n D e (lt_of_mul-lt-mul_right u (rw crossed at (ltb-true (y * d) (a * u) t)))
    go false t = ceil_same a d n D e (le_of_mul-le-mul_right (rw crossed at (ltb-false (y * d) (a * u) t)) U)

ceiling_is : (q y : Float) (n b : ℕ) → Upto q b 1 → b ≤ 2 ^ 24 → n ≡ to_unsigned 64 q → HasValue y false n 1 → ceiling q ≡ cond (lt y q) (n + 1) n
unfolding ceiling to_unsigned lt
ceiling_is nan y n b p l e v = absurd p
ceiling_is (inf s) y n b p l e v = absurd p
ceiling_is (fin s m e) nan n b p l t v = absurd v
ceiling_is (fin s m e) (inf u) n b p l t v = absurd v
ceiling_is (fin s m e) (fin true r d) n b p l t v = absurd (true≢false v.0)
ceiling_is (fin true m e) (fin false r d) n b p l t v = sym t
ceiling_is (fin false m e) (fin false r d) n b p l t v =
    ceil_by (m * up e) (down e) n (r * up d) (down d) (down_pos e) (down_pos d) (omega (arith, t, quotient_upto (m * up e) (down e) b p.0)) v.1

pub ceiling_upto : (q : Float) (b : ℕ) → Upto q b 1 → ceiling q ≤ b
unfolding ceiling
ceiling_upto nan b p = absurd p
ceiling_upto (inf s) b p = absurd p
ceiling_upto (fin true m e) b p = omega arith
ceiling_upto (fin false m e) b p =
    omega (arith, (div-lt_iff_lt-mul {x = m * up e + (down e - 1)} {y = b + 1} (down_pos e)).1 (omega (arith, p.0, add-mul b 1 (down e), one-mul (down e), down_pos e)))

-- the whole part of q, or one more where that lies below q
pub counted_up : (q y : Float) (n b : ℕ) → b ≤ 2 ^ 24 → Upto q b 1 → n ≡ to_unsigned 64 q → y ≡ of_int binary32 (pos n) → (cond (lt y q) (n + 1) n ≡ ceiling q) × (cond (lt y q) (n + 1) n ≤ b)
counted_up q y n b l p e t =
    let k : n ≤ b = omega (arith, e, whole_upto q b p) in
    let c = ceiling_is q y n b p l e (rw t (whole_exact n (omega arith))) in
    (sym c, omega (arith, c, ceiling_upto q b p))

-- ---- the range of the count

larger_ok : (x y : Float) → time_ok x ≡ true → time_ok y ≡ true → time_ok (larger x y) ≡ true
unfolding larger
larger_ok x y p q = go (lt x y) (eq x x)
  where
    go : (a b : Bool) → time_ok (cond a y (cond b x y)) ≡ true
    go true b = q
    go false true = p
    go false false = q

pub largest_ok : (t : Times) → times_ok t ≡ true → time_ok (largest t) ≡ true
largest_ok t e =
    let p = split_and _ _ e in
    let q = split_and _ _ p.1 in
    larger_ok _ _ (larger_ok _ _ p.0 q.0) q.1

-- what an accepted count tells, and what has it accepted
pub record Counts (t : Times) (rate frame : ℕ) : Type 0 where
  pub rates : Rate rate
  pub frames : Frame frame
  pub time : time_ok (largest t) ≡ true

pub counts : (t : Times) (rate frame : ℕ) → judged_tail_count t rate frame ≡ Accepted → Counts t rate frame
counts t rate frame e =
    let p = needed (rate_ok rate && frame_ok frame) (Err BadSize) _ refl e in
    let s = split_and _ _ p.0 in
    record { rates = rate_of rate s.0; frames = frame_of frame s.1; time = largest_ok t (needed (times_ok t) (Err BadTime) Accepted refl p.1).0 }

tail_upto : (t : Times) (rate frame : ℕ) → judged_tail_count t rate frame ≡ Accepted → tail_count t rate frame ≤ 9600000
tail_upto t rate frame e =
    let k = counts t rate frame e in
    let h = frames_upto (largest t) rate frame (time_upto (largest t) k.time) k.rates.hi k.frames.lo k.frames.hi in
    omega (arith, ceiling_upto (frames_in (largest t) rate frame) 4800000 h)

pub count_range : CountRange
count_range t rate frame = accept_either (λ (n : ℕ). n ≤ 9600000) (judged_tail_count t rate frame) (tail_upto t rate frame) (λ e. omega arith)

-- ---- no time, no tail

zero_of : (x : Float) → T (eq +0 x) → Upto x 0 1
unfolding eq of_bits
zero_of nan h = absurd h
zero_of (inf s) h = absurd h
zero_of (fin s m e) h = zero_upto s m e 0 (nothing m e (and_l (eqb (0 * 1 * down e) (m * up e * 1)) _ h))

pub no_tail : NoTail
no_tail t rate frame z =
    accept_either (λ (n : ℕ). n ≡ 0) (judged_tail_count t rate frame)
    (λ e.
    let k = counts t rate frame e in
    let zero = held 0 (omega arith) in
    let none =
    frames_within (largest t) rate frame 0 0 0 zero zero (omega arith) (omega arith) (zero_of (largest t) (rw z tt)) k.rates.hi k.frames.lo k.frames.hi in
    omega (arith, ceiling_upto (frames_in (largest t) rate frame) 0 none))
    (λ e. refl)
