-- A read and a write as straight runs: one where the samples fit before the ring's end, else one up to there and one on from its start.
-- Assumes nothing.
use native.Mathlib.Omega.{arith}
use mathlib.Core.Path.{◌≡◌, refl, sym, ap, ◌∙◌}
use mathlib.Core.List.{List, ◌++◌, append_assoc}
use Prim.Native.Nat.{ℕ, ◌+◌, ◌-◌, ◌≤◌, ◌<◌}
use lib.Ieee.{Float}
use lib.ListN.{length, take, drop, length-append, length-drop, take-append-drop}
use lib.Seq.{take_all, take-append-le, drop-append-le, take-append-add, drop-append-add, take-take, drop-drop, length-take-le}
use borrow.Rule.Slice.PartMut.{put_mid}
use Rattle.samples.proofs.Lists.{to_end}
use Rattle.delay.specs.declared.Four.{Four}
use Rattle.delay.specs.Ring.{rotl, read, write, read_each, write_each, list_of}
use Rattle.delay.proofs.Views.{rotl_at, read_each_lem, write_each_lem}

module _ {A : Type 0} (ring : List A) (at : ℕ) (h : at < length ring) where
  -- how much of the ring lies before its end
  abbrev pub left : ℕ
  left = length ring - at

  -- the samples read lie before the ring's end
  pub read_straight : (n : ℕ) → n ≤ left → read ring at n ≡ take n (drop at ring)
  unfolding read rotl
  read_straight n g = take-append-le n (drop at ring) (take at ring) (rw length-drop g)

  -- they lie up to there and on from its start
  pub read_across : (n : ℕ) → left ≤ n → n ≤ length ring → read ring at n ≡ take left (drop at ring) ++ take (n - left) ring
  unfolding read rotl
  read_across n g k =
      let l : length (drop at ring) ≡ left = length-drop at ring in
      let e : length (drop at ring) + (n - left) ≡ n = omega (arith, l) in
      ap (λ (m : ℕ). take m (drop at ring ++ take at ring)) (sym e)
      ∙ take-append-add (drop at ring) (take at ring) (n - left)
      ∙ rw (take-take (n - left) at ring (omega arith), take_all left (drop at ring) (omega (arith, l))) refl

  -- the samples stored lie before the ring's end
  pub write_straight : (xs : List A) → length xs ≤ left → write ring at xs ≡ take at ring ++ (xs ++ drop (at + length xs) ring)
  unfolding write rotl
  write_straight xs g =
      let n = length xs in
      let l : n ≤ length (drop at ring) = rw length-drop g in
      let p : length (xs ++ drop (at + n) ring) ≡ left = simp (length-append, length-drop) (omega arith) in
      rw (drop-append-le n (drop at ring) (take at ring) l, drop-drop n at ring, ← append_assoc xs (drop (at + n) ring) (take at ring))
      (rotl_at (xs ++ drop (at + n) ring) (take at ring) left p)

  -- what is left of the view where more is taken off than lies before the ring's end
  view_across : (n : ℕ) → left ≤ n → drop n (rotl at ring) ≡ drop (n - left) (take at ring)
  unfolding rotl
  view_across n g =
      let e : length (drop at ring) + (n - left) ≡ n = omega (arith, length-drop at ring) in
      ap (λ (m : ℕ). drop m (drop at ring ++ take at ring)) (sym e) ∙ drop-append-add (drop at ring) (take at ring) (n - left)

  -- they lie up to there and on from its start
  pub write_across : (xs : List A) → left ≤ length xs → length xs ≤ length ring
      → write ring at xs ≡ drop left xs ++ drop (length xs - left) (take at ring ++ take left xs)
  unfolding write
  write_across xs g k =
      let rest = drop (length xs - left) (take at ring) in
      let far : length xs - left ≤ length (take at ring) = rw (length-take-le at ring (omega arith)) (omega arith) in
      ap (λ (ys : List A). rotl left (xs ++ ys)) (view_across (length xs) g)
      ∙ ap (λ (ys : List A). rotl left (ys ++ rest)) (sym (take-append-drop left xs))
      ∙ ap (rotl left) (append_assoc (take left xs) (drop left xs) rest)
      ∙ rotl_at (take left xs) (drop left xs ++ rest) left (length-take-le left xs g)
      ∙ append_assoc (drop left xs) rest (take left xs)
      ∙ ap (λ (ys : List A). drop left xs ++ ys) (sym (drop-append-le (length xs - left) (take at ring) (take left xs) far))

-- ---- the two runs of a read and of a write, in whatever terms the code says where one ends

module _ {A : Type 0} (ring : List A) (at : ℕ) (h : at < length ring) where
  -- read, the first into ys and the second into zs
  pub two_read : (n e m : ℕ) (ys zs : List A) → length ring - at ≤ n → n ≤ length ring
      → ys ≡ take e (drop at ring) → zs ≡ take m ring → e ≡ length ring - at → m ≡ n - (length ring - at)
      → ys ++ zs ≡ read ring at n
  two_read n e m ys zs g k ey ez ee em =
      (λ i. (ey ∙ (λ j. take (ee j) (drop at ring))) i ++ (ez ∙ (λ j. take (em j) ring)) i) ∙ sym (read_across ring at h n g k)

  -- stored, the first as ys over e samples and then the second as zs over m
  pub two_written : (xs : List A) (d e m : ℕ) (ys zs : List A) → length ring - at ≤ length xs → length xs ≤ length ring
      → ys ≡ take d xs → zs ≡ drop d xs → d ≡ length ring - at → e ≡ length ring - at → m ≡ length xs - (length ring - at)
      → zs ++ drop m (put_mid at e ring ys) ≡ write ring at xs
  two_written xs d e m ys zs g k ey ez ed ee em =
      let left = length ring - at in
      let first : put_mid at e ring ys ≡ take at ring ++ take left xs =
      (λ i. put_mid at (ee i) ring ((ey ∙ (λ j. take (ed j) xs)) i)) ∙ (to_end at ring (omega arith)).1 (take left xs) in
      (λ i. (ez ∙ (λ j. drop (ed j) xs)) i ++ drop (em i) (first i)) ∙ sym (write_across ring at h xs g k)

-- ---- four samples that lie straight

module _ (ring : List Float) (at : ℕ) (h : at < length ring) (g : 4 ≤ length ring - at) where
  pub four_straight : read_each ring at 4 ≡ take 4 (drop at ring)
  four_straight = read_each_lem ring at 4 h (omega arith) ∙ read_straight ring at h 4 g

  pub store_straight : (x : Four) → take at ring ++ (list_of x ++ drop (at + 4) ring) ≡ write_each ring at (list_of x)
  store_straight x =
      sym (write_straight ring at h (list_of x) g)
      ∙ sym (write_each_lem ring (list_of x) at h (omega arith))
