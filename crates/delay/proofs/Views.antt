-- Positions and views: how a ring looks from a position, after a write, and sample by sample. Assumes nothing.
use borrow.Author.Tests.{lt-ltb, le-ltb}
use native.Mathlib.Omega.{arith}
use mathlib.Core.Path.{◌≡◌, refl, sym, ap, ◌∙◌}
use mathlib.Core.Bool.{Bool, true, ◌&&◌}
use mathlib.Core.Logic.{⊎_elim}
use mathlib.Core.List.{List, [], ◌∷◌, ◌++◌, append-nil, append_assoc}
use Prim.Native.Nat.{ℕ, zero, suc, ◌+◌, ◌-◌, ◌%◌, ◌≤◌, ◌<◌}
use native.Mathlib.Nat.{add-zero, zero-add, suc-add, mod-eq_of_lt, mod-eq-sub-mod, mod-add-mod}
use lib.Ieee.{Float, nan}
use lib.ListN.{length, get_or, take, drop, set, length-append, length-take, length-drop, length-set, take-append-drop, replicate, length-replicate, replicate-append-replicate}
use lib.Seq.{take_at, drop_at, drop-cons, drop-drop, append_snoc, set_split, set-get_or, take-add, take-append-le, drop-append-le}
use Rattle.samples.specs.Lists.{all_from}
use Rattle.samples.proofs.Laws.{split_and, join_and}
use Rattle.samples.proofs.Turns.{lt_or_ge}
use Rattle.delay.specs.Ring.{rotl, wrap, read, write, ahead, read_each, write_each}

-- ---- positions

pub wrap_lo : (l m : ℕ) → m < l → wrap l m ≡ m
unfolding wrap
wrap_lo l m h = rw (lt-ltb m l)

pub wrap_hi : (l m : ℕ) → l ≤ m → wrap l m ≡ m - l
unfolding wrap
wrap_hi l m h = rw (le-ltb m l)

pub wrap_less : (l m : ℕ) → m < l + l → wrap l m < l
wrap_less l m h = ⊎_elim (λ a. omega (arith, wrap_lo l m a)) (λ a. omega (arith, wrap_hi l m a)) (lt_or_ge m l)

-- one sample on, and then n, is n + 1 on
wrap_on : (l k n : ℕ) → k < l → n < l → wrap l (wrap l (k + 1) + n) ≡ wrap l (k + suc n)
wrap_on l k n h g = ⊎_elim
    (λ (a : k + 1 < l). rw (wrap_lo l (k + 1) a) (ap (wrap l) (omega arith)))
    (λ (a : l ≤ k + 1).
    let e : k + 1 - l + n ≡ n = omega arith in
    rw (wrap_hi l (k + 1) a, e, wrap_lo l n g, wrap_hi l (k + suc n) (omega arith)) (omega arith))
    (lt_or_ge (k + 1) l)

-- wrapped at each sample or once at the end
pub ahead-wrap : (l k n : ℕ) → k < l → n ≤ l → ahead l n k ≡ wrap l (k + n)
unfolding ahead
ahead-wrap l k zero h g = rw add-zero (sym (wrap_lo l k h))
ahead-wrap l k (suc n) h g = ahead-wrap l (wrap l (k + 1)) n (wrap_less l (k + 1) (omega arith)) (omega arith) ∙ wrap_on l k n h (omega arith)

pub ahead_less : (l k n : ℕ) → k < l → ahead l n k < l
unfolding ahead
ahead_less l k zero h = h
ahead_less l k (suc n) h = ahead_less l (wrap l (k + 1)) n (wrap_less l (k + 1) (omega arith))

-- m samples on, and then n
pub ahead-add : (l k m n : ℕ) → ahead l (m + n) k ≡ ahead l n (ahead l m k)
unfolding ahead
ahead-add l k zero n = ap (λ (i : ℕ). ahead l i k) (zero-add n)
ahead-add l k (suc m) n = ap (λ (i : ℕ). ahead l i k) (suc-add m n) ∙ ahead-add l (wrap l (k + 1)) m n

-- the same as remainders
pub wrap-mod : (l m : ℕ) → m < l + l → wrap l m ≡ m % l
wrap-mod l m h = ⊎_elim
    (λ (a : m < l). wrap_lo l m a ∙ sym (mod-eq_of_lt a))
    (λ (a : l ≤ m). wrap_hi l m a ∙ sym (mod-eq-sub-mod a ∙ mod-eq_of_lt (omega arith)))
    (lt_or_ge m l)

pub ahead-mod : (l n k : ℕ) → k < l → ahead l n k ≡ (k + n) % l
unfolding ahead
ahead-mod l zero k h = rw add-zero (sym (mod-eq_of_lt h))
ahead-mod l (suc n) k h =
    let e : k + 1 + n ≡ k + suc n = omega arith in
    ahead-mod l n (wrap l (k + 1)) (wrap_less l (k + 1) (omega arith))
    ∙ rw (wrap-mod l (k + 1) (omega arith), mod-add-mod (k + 1) l n, e)

-- ---- views

module _ {A : Type 0} where
  pub length-rotl : (k : ℕ) (xs : List A) → length (rotl k xs) ≡ length xs
  unfolding rotl
  length-rotl k xs = simp (length-append, length-take, length-drop) (omega arith)

  -- what was in front comes to the end
  pub rotl_at : (p q : List A) (k : ℕ) → length p ≡ k → rotl k (p ++ q) ≡ q ++ p
  unfolding rotl
  rotl_at p q k e = rw (drop_at, take_at)

  -- turned twice, and turned all the way round
  rotl-add : (xs : List A) (a b : ℕ) → a + b ≤ length xs → rotl b (rotl a xs) ≡ rotl (a + b) xs
  unfolding rotl
  rotl-add xs a b h =
      let g : b ≤ length (drop a xs) = simp length-drop (omega arith) in
      rw (drop-append-le, take-append-le, drop-drop, take-add, append_assoc)

  rotl-back : (xs : List A) (k : ℕ) → k ≤ length xs → rotl (length xs - k) (rotl k xs) ≡ xs
  unfolding rotl
  rotl-back xs k h = rotl_at (drop k xs) (take k xs) (length xs - k) (length-drop k xs) ∙ take-append-drop k xs

  -- reading takes the front of the view
  pub read_view : (ring : List A) (k n : ℕ) → read ring k n ≡ take n (rotl k ring)
  unfolding read
  read_view ring k n = refl

  pub length-read : (ring : List A) (k n : ℕ) → n ≤ length ring → length (read ring k n) ≡ n
  unfolding read
  length-read ring k n h = simp (length-take, length-rotl) (omega arith)

  pub length-write : (ring xs : List A) (k : ℕ) → length xs ≤ length ring → length (write ring k xs) ≡ length ring
  unfolding write
  length-write ring xs k h = simp (length-rotl, length-append, length-drop) (omega arith)

  -- turned back by k, and on by k + n
  rotl_on : (xs : List A) (l k n : ℕ) → length xs ≡ l → k < l → n ≤ l → rotl (wrap l (k + n)) (rotl (l - k) xs) ≡ rotl n xs
  rotl_on xs l k n e h g = ⊎_elim
      (λ (a : k + n < l).
      let once : l - (l - k) ≡ k = omega arith in
      let round : rotl k (rotl (l - k) xs) ≡ xs = rw (e, once) at (rotl-back xs (l - k) (omega arith)) in
      rw (wrap_lo l (k + n) a, ← rotl-add (rotl (l - k) xs) k n (rw length-rotl (omega arith)), round) refl)
      (λ (a : l ≤ k + n).
      let once : l - k + (k + n - l) ≡ n = omega arith in
      rw (wrap_hi l (k + n) a, rotl-add xs (l - k) (k + n - l) (omega arith), once) refl)
      (lt_or_ge (k + n) l)

  -- a turn takes n samples off the front of the view and joins the n put to its end
  pub turn_view : (ring xs : List A) (k : ℕ) → k < length ring → length xs ≤ length ring
      → rotl (wrap (length ring) (k + length xs)) (write ring k xs) ≡ drop (length xs) (rotl k ring) ++ xs
  unfolding write
  turn_view ring xs k h g =
      let rest : List A = drop (length xs) (rotl k ring) in
      let e : length (xs ++ rest) ≡ length ring = simp (length-append, length-drop, length-rotl) (omega arith) in
      rotl_on (xs ++ rest) (length ring) k (length xs) e h g ∙ rotl_at xs rest (length xs) refl

  -- what is taken off the view in a turn and later is what is taken off at once
  pub take_on : (v xs rest : List A) (m : ℕ) → length xs ≤ length v
      → take (length xs) v ++ take m ((drop (length xs) v ++ xs) ++ rest) ≡ take (length xs + m) (v ++ (xs ++ rest))
  take_on v xs rest m h =
      sym (take-add (length xs) m (v ++ (xs ++ rest))
      ∙ rw (take-append-le (length xs) v (xs ++ rest), drop-append-le (length xs) v (xs ++ rest), append_assoc))

  -- a ring of one value looks the same from everywhere
  pub rotl_same : (l k : ℕ) (a : A) → k ≤ l → rotl k (replicate l a) ≡ replicate l a
  rotl_same l k a h =
      let e : k + (l - k) ≡ l = omega arith in
      let f : l - k + k ≡ l = omega arith in
      ap (λ (m : ℕ). rotl k (replicate m a)) (sym e)
      ∙ ap (rotl k) (sym (replicate-append-replicate k (l - k) a))
      ∙ rotl_at (replicate k a) (replicate (l - k) a) k (length-replicate k a)
      ∙ replicate-append-replicate (l - k) k a ∙ ap (λ (m : ℕ). replicate m a) f

  -- rings that look the same from somewhere are the same
  same_view : (a b : List A) (k : ℕ) → k ≤ length a → length a ≡ length b → rotl k a ≡ rotl k b → a ≡ b
  same_view a b k h e v = sym (rotl-back a k h) ∙ (λ i. rotl (e i - k) (v i)) ∙ rotl-back b k (omega arith)

  module _ (ring : List A) (k : ℕ) (h : k < length ring) where
    pub view_front : (z : A) → rotl k ring ≡ get_or ring k z ∷ drop 1 (rotl k ring)
    unfolding rotl
    view_front z = rw (drop-cons ring k z h)

    set-write : (v : A) → set ring k v ≡ write ring k (v ∷ [])
    unfolding write rotl
    set-write v =
        let e : length (v ∷ drop (suc k) ring) ≡ length ring - k = simp length-drop (omega arith) in
        rw (set_split ring k v h, drop-cons ring k v h) (sym (rotl_at (v ∷ drop (suc k) ring) (take k ring) (length ring - k) e))

    view_set : (v : A) → rotl (wrap (length ring) (k + 1)) (set ring k v) ≡ drop 1 (rotl k ring) ++ (v ∷ [])
    view_set v = rw (set-write v) (turn_view ring (v ∷ []) k h (omega arith))

    view_next : (z : A) → rotl (wrap (length ring) (k + 1)) ring ≡ drop 1 (rotl k ring) ++ (get_or ring k z ∷ [])
    view_next z = rw (set-get_or ring k z) at (view_set (get_or ring k z))

-- ---- sample by sample

pub read_each_lem : (ring : List Float) (k n : ℕ) → k < length ring → n ≤ length ring → read_each ring k n ≡ read ring k n
unfolding read read_each
read_each_lem ring k zero h g = refl
read_each_lem ring k (suc n) h g =
    let v : List Float = drop 1 (rotl k ring) in
    let k' : ℕ = wrap (length ring) (k + 1) in
    let lv : n ≤ length v = simp (length-drop, length-rotl) (omega arith) in
    let later : read_each ring k' n ≡ take n v =
    read_each_lem ring k' n (wrap_less _ _ (omega arith)) (omega arith) ∙ rw (view_next ring k h nan, take-append-le) refl in
    rw (later, view_front ring k h nan) refl

pub length-write_each : (ring xs : List Float) (k : ℕ) → length (write_each ring k xs) ≡ length ring
unfolding write_each
length-write_each ring [] k = refl
length-write_each ring (x ∷ xs) k = length-write_each (set ring k x) xs (wrap (length ring) (k + 1)) ∙ length-set ring k x

each_view : (ring xs : List Float) (k : ℕ) → k < length ring → length xs ≤ length ring
    → rotl (ahead (length ring) (length xs) k) (write_each ring k xs) ≡ drop (length xs) (rotl k ring) ++ xs
unfolding ahead write_each
each_view ring [] k h g = sym (append-nil (rotl k ring))
each_view ring (x ∷ xs) k h g =
    let l : ℕ = length ring in
    let n : ℕ = length xs in
    let k' : ℕ = wrap l (k + 1) in
    let ls : length (set ring k x) ≡ l = length-set ring k x in
    let b : k' < l = wrap_less l (k + 1) (omega arith) in
    let lv : n ≤ length (drop 1 (rotl k ring)) = simp (length-drop, length-rotl) (omega arith) in
    let later : rotl (ahead l n k') (write_each (set ring k x) k' xs) ≡ drop n (rotl k' (set ring k x)) ++ xs =
    rw ls at (each_view (set ring k x) xs k' (omega arith) (omega arith)) in
    let one : 1 + n ≡ suc n = omega arith in
    later ∙ rw (view_set ring k h x, drop-append-le, drop-drop, one, append_snoc)

pub write_each_lem : (ring xs : List Float) (k : ℕ) → k < length ring → length xs ≤ length ring → write_each ring k xs ≡ write ring k xs
write_each_lem ring xs k h g =
    let l : ℕ = length ring in
    let n : ℕ = length xs in
    same_view (write_each ring k xs) (write ring k xs) (wrap l (k + n))
    (let b = wrap_less l (k + n) (omega arith) in rw length-write_each (omega arith))
    (length-write_each ring xs k ∙ sym (length-write ring xs k g))
    (rw (ahead-wrap l k n h g) at (each_view ring xs k h g) ∙ sym (turn_view ring xs k h g))

-- ---- a test that all samples pass, wherever they lie

abbrev passes : {A : Type 0} → (A → Bool) → ℕ → List A → Bool
passes p k xs = all_from (λ _ x. p x) k xs

module _ {A : Type 0} (p : A → Bool) where
  anywhere : (xs : List A) (j k : ℕ) → passes p j xs ≡ passes p k xs
  anywhere [] j k = refl
  anywhere (x ∷ xs) j k = ap (λ (b : Bool). p x && b) (anywhere xs (suc j) (suc k))

  pub all_join : (xs ys : List A) (k : ℕ) → all_from (λ _ x. p x) k xs ≡ true → all_from (λ _ x. p x) k ys ≡ true → all_from (λ _ x. p x) k (xs ++ ys) ≡ true
  all_join [] ys k a b = b
  all_join (x ∷ xs) ys k a b =
      let s = split_and (p x) (passes p (suc k) xs) a in
      join_and s.0 (all_join xs ys (suc k) s.1 (anywhere ys (suc k) k ∙ b))

  pub all_parts : (xs ys : List A) (k : ℕ) → all_from (λ _ x. p x) k (xs ++ ys) ≡ true → (all_from (λ _ x. p x) k xs ≡ true) × (all_from (λ _ x. p x) k ys ≡ true)
  all_parts [] ys k a = (refl, a)
  all_parts (x ∷ xs) ys k a =
      let s = split_and (p x) (passes p (suc k) (xs ++ ys)) a in
      let r = all_parts xs ys (suc k) s.1 in
      (join_and s.0 r.0, anywhere ys k (suc k) ∙ r.1)

  halves : (n : ℕ) (xs : List A) → passes p 0 xs ≡ true → (passes p 0 (take n xs) ≡ true) × (passes p 0 (drop n xs) ≡ true)
  halves n xs a = all_parts (take n xs) (drop n xs) 0 (rw (take-append-drop n xs) a)

  pub all-rotl : (k : ℕ) (xs : List A) → all_from (λ _ x. p x) 0 xs ≡ true → all_from (λ _ x. p x) 0 (rotl k xs) ≡ true
  unfolding rotl
  all-rotl k xs a = let s = halves k xs a in all_join (drop k xs) (take k xs) 0 s.1 s.0

  pub all_read : (ring : List A) (k n : ℕ) → all_from (λ _ x. p x) 0 ring ≡ true → all_from (λ _ x. p x) 0 (read ring k n) ≡ true
  unfolding read
  all_read ring k n a = (halves n (rotl k ring) (all-rotl k ring a)).0

  pub all-write : (ring : List A) (k : ℕ) (xs : List A) → all_from (λ _ x. p x) 0 ring ≡ true → all_from (λ _ x. p x) 0 xs ≡ true
      → all_from (λ _ x. p x) 0 (write ring k xs) ≡ true
  unfolding write
  all-write ring k xs a b =
      let left = (halves (length xs) (rotl k ring) (all-rotl k ring a)).1 in
      all-rotl (length ring - k) (xs ++ drop (length xs) (rotl k ring)) (all_join xs _ 0 b left)
