-- Loops over lists: one turn and the end of a loop that changes a list in place, and one that copies one over another; and a part of a
-- list that was lent and has come back. One law each, over the type of the elements. Assumes nothing.
use mathlib.Core.Path.{◌≡◌, refl, ap, ◌∙◌}
use mathlib.Core.Bool.{Bool, true, false}
use mathlib.Core.Logic.{◌⊎◌, inl, inr}
use mathlib.Core.List.{List, [], ◌∷◌, ◌++◌, append-nil}
use Prim.Native.Nat.{ℕ, suc, ◌+◌, ◌-◌, ◌≤◌, ◌<◌}
use native.Mathlib.Nat.{le-add_right, add-sub_cancel_left}
use native.Mathlib.Numerals.{add-one, lt-add-one}
use native.Mathlib.Omega.{arith}
use lib.Dec.{ltb}
use lib.ListN.{length, get_or, take, drop, set, drop_of_length-le}
use lib.Seq.{take-suc-set, drop-set-lt, take-suc, drop-cons, append_snoc, take_all, length-take-le, set_at, take_at, drop_at}
use borrow.Author.Tests.{ltb-true, ltb-false}
use borrow.Rule.Slice.PartMut.{put_mid, mid_of, Post-is}

pub lt_or_ge : (a b : ℕ) → (a < b) ⊎ (b ≤ a)
lt_or_ge a b = go (ltb a b) refl
  where
    go : (t : Bool) → ltb a b ≡ t → (a < b) ⊎ (b ≤ a)
    go true e = inl (ltb-true a b e)
    go false e = inr (ltb-false a b e)

-- one turn more is left
pub more : (n i : ℕ) → i < n → n - i ≡ suc (n - (i + 1))
more n i h = omega arith

-- ---- a loop that changes a list in place, from the front: `take i xs` is done and `drop i xs` is left

module _ {A : Type 0} (xs : List A) (i : ℕ) (z : A) (h : i < length xs) where
  -- what is left is the element at i, and then the rest
  pub next : drop i xs ≡ get_or xs i z ∷ drop (i + 1) xs
  next = rw (add-one, drop-cons xs i z h)

  -- the same, with what is stored at i already in its place
  pub front : (v : A) → drop i xs ≡ get_or xs i z ∷ drop (i + 1) (set xs i v)
  front v = rw (add-one, drop-set-lt (suc i) xs i v (rw add-one at (lt-add-one i)), drop-cons xs i z h)

  -- the store moves its value from what is to come to what is done
  pub stored : {r r' : List A} (v : A) → r ≡ v ∷ r' → take (i + 1) (set xs i v) ++ r' ≡ take i xs ++ r
  stored v e = rw (e, add-one, take-suc-set xs i v h, append_snoc)

-- at the end nothing is left
pub all_done : {A : Type 0} (xs : List A) (i : ℕ) → length xs ≤ i → xs ≡ take i xs ++ []
all_done xs i h = rw (take_all i xs h, append-nil)

-- ---- a loop that copies s over d from the front

module _ {A : Type 0} (s d : List A) (i : ℕ) where
  pub copy_more : (z : A) → i < length s → i < length d → set (take i s ++ drop i d) i (get_or s i z) ≡ take (i + 1) s ++ drop (i + 1) d
  copy_more z h hd =
      let ht : length (take i s) ≡ i = length-take-le i s (omega arith) in
      rw (drop-cons d i z, set_at, add-one, take-suc s i z, append_snoc)

  pub copy_all : length s ≤ i → length s ≡ length d → take i s ++ drop i d ≡ s
  copy_all h e =
      let hd : length d ≤ i = omega arith in
      rw (take_all i s, drop_of_length-le d, append-nil) refl

-- ---- a part that was lent, `&mut w[a..e]`, and has come back

module _ {A : Type 0} where
  pub back : (at f : ℕ) (w ys : List A) → put_mid at (at + f - at) w ys ≡ take at w ++ (ys ++ drop (at + f) w)
  back at f w ys = rw (Post-is at (at + f) w (le-add_right at f))

  pub lent : (at f : ℕ) (w : List A) → mid_of at (at + f - at) w ≡ take f (drop at w)
  lent at f w = rw (add-sub_cancel_left at f)

  -- from the middle of three
  pub middle : (a e : ℕ) (p q s w : List A) → w ≡ p ++ (q ++ s) → length p ≡ a → length q ≡ e - a
      → (take (e - a) (drop a w) ≡ q) × ((x : List A) → put_mid a (e - a) w x ≡ p ++ (x ++ s))
  middle a e p q s w ew lp lq =
      let d : drop a w ≡ q ++ s = ap (drop a) ew ∙ drop_at p (q ++ s) a lp in
      let t : take a w ≡ p = ap (take a) ew ∙ take_at p (q ++ s) a lp in (
        ap (take (e - a)) d ∙ take_at q s (e - a) lq,
        λ x. rw (t, d, drop_at q s (e - a) lq),
      )
