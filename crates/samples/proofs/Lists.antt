-- Stretches of a list: how long they are and how they join, one that was lent and has come back, and one list over another. One law each,
-- over the type of the elements. Assumes nothing.
use mathlib.Core.Path.{◌≡◌, refl, sym, ap, ◌∙◌}
use mathlib.Core.List.{List, [], ◌∷◌, ◌++◌, append-nil, append_assoc}
use Prim.Native.Nat.{ℕ, zero, suc, ◌+◌, ◌-◌, ◌≤◌, ◌<◌}
use native.Mathlib.Nat.{zero-add, add-zero, suc-add, add_assoc, sub-zero}
use native.Mathlib.Numerals.{add-one}
use native.Mathlib.Omega.{arith}
use lib.ListN.{length, take, drop, set, length-append, length-take, length-drop, take-append-drop, drop_of_length-le}
use lib.Seq.{take-nil, drop-nil, take_all, take_at, drop_at, take-take, take-add, drop-drop, take-append-le, drop-append-le, set_split, length-take-le}
use borrow.Rule.Slice.PartMut.{put_mid}
use Rattle.samples.specs.Lists.{over}
use Rattle.samples.proofs.Turns.{back, lent, middle}

-- ---- two lists in front of a third

module _ {A : Type 0} (p q r : List A) (n : ℕ) (e : length p + length q ≡ n) where
  pub take_two : take n (p ++ (q ++ r)) ≡ p ++ q
  take_two = rw (← append_assoc p q r) (take_at (p ++ q) r n (length-append p q ∙ e))

  pub drop_two : drop n (p ++ (q ++ r)) ≡ r
  drop_two = rw (← append_assoc p q r) (drop_at (p ++ q) r n (length-append p q ∙ e))

-- ---- k elements of w from a on

-- the first a + k, without the first a
pub drop-take : {A : Type 0} (a : ℕ) (w : List A) (k : ℕ) → drop a (take (a + k) w) ≡ take k (drop a w)
drop-take zero w k = rw zero-add refl
drop-take (suc a) [] k = rw (take-nil (suc a + k), drop-nil (suc a), take-nil k) refl
drop-take (suc a) (x ∷ w) k = rw suc-add (drop-take a w k)

module _ {A : Type 0} (a : ℕ) (w : List A) (k : ℕ) where
  -- and what lies after them
  pub cut : drop a w ≡ take k (drop a w) ++ drop (a + k) w
  cut = sym (take-append-drop k (drop a w)) ∙ ap (λ (l : List A). take k (drop a w) ++ l) (drop-drop k a w)

  -- they lie within the first m
  pub in_front : (m : ℕ) → a + k ≤ m → take k (drop a (take m w)) ≡ take k (drop a w)
  in_front m h =
      let e : m ≡ a + (m - a) = omega arith in
      ap (λ (j : ℕ). take k (drop a (take j w))) e ∙ ap (take k) (drop-take a w (m - a)) ∙ take-take k (m - a) (drop a w) (omega arith)

  pub part_long : a + k ≤ length w → length (take k (drop a w)) ≡ k
  part_long h = simp (length-take, length-drop) (omega arith)

  -- as they are lent
  pub lent_long : a + k ≤ length w → length (take (a + k - a) (drop a w)) ≡ k
  lent_long h = rw (lent a k w) (part_long h)

-- ---- a part that was lent and has come back: all before a, and all from a on

-- where w is p, of length a, and then q
module _ {A : Type 0} (a : ℕ) (p q w : List A) (e : w ≡ p ++ q) (l : length p ≡ a) where
  pub first_part : (take (a - 0) (drop 0 w) ≡ p) × ((x : List A) → put_mid 0 (a - 0) w x ≡ x ++ q)
  first_part = middle 0 a [] p q w e refl (l ∙ sym (sub-zero a))

  pub last_part : (take (length w - a) (drop a w) ≡ q) × ((x : List A) → put_mid a (length w - a) w x ≡ p ++ x)
  last_part =
      let all : w ≡ p ++ (q ++ []) = e ∙ ap (λ (r : List A). p ++ r) (sym (append-nil q)) in
      let m = middle a (length w) p q [] w all l (rw (e, length-append p q) (omega arith)) in
      (m.0, λ x. m.1 x ∙ ap (λ (r : List A). p ++ r) (append-nil x))

-- any w is the first a and then the others
module _ {A : Type 0} (a : ℕ) (w : List A) where
  pub first_of : a ≤ length w → (take (a - 0) (drop 0 w) ≡ take a w) × ((x : List A) → put_mid 0 (a - 0) w x ≡ x ++ drop a w)
  first_of h = first_part a (take a w) (drop a w) w (sym (take-append-drop a w)) (length-take-le a w h)

  pub to_end : a ≤ length w → (take (length w - a) (drop a w) ≡ drop a w) × ((x : List A) → put_mid a (length w - a) w x ≡ take a w ++ x)
  to_end h = last_part a (take a w) (drop a w) w (sym (take-append-drop a w)) (length-take-le a w h)

  -- read alone, a may be anywhere
  pub end_is : take (length w - a) (drop a w) ≡ drop a w
  end_is = take_all (length w - a) (drop a w) (simp length-drop (omega arith))

-- ---- ys over a list from a on: what there is around them

module _ {A : Type 0} (a : ℕ) (w : List A) where
  -- none
  pub over_none : w ≡ over a [] w
  unfolding over
  over_none = rw add-zero (sym (take-append-drop a w))

  -- one
  pub over_one : (v : A) → a < length w → set w a v ≡ over a (v ∷ []) w
  unfolding over
  over_one v h = rw add-one (set_split w a v h)

  -- as many as there are from a on
  pub over_last : (ys : List A) → length w ≡ a + length ys → over a ys w ≡ take a w ++ ys
  unfolding over
  over_last ys e = rw (← e, drop_of_length-le w {i = length w} (omega arith), append-nil) refl

  module _ (ys : List A) (h : a ≤ length w) where
    -- what lies before a stays
    pub over_front : (m : ℕ) → m ≤ a → take m (over a ys w) ≡ take m w
    unfolding over
    over_front m g =
        take-append-le m (take a w) (ys ++ drop (a + length ys) w) (omega (arith, length-take-le a w h)) ∙ take-take m a w g

module _ {A : Type 0} (ys : List A) where
  -- after p
  pub over-after : (a j : ℕ) (p q : List A) → length p ≡ a → over (a + j) ys (p ++ q) ≡ p ++ over j ys q
  unfolding over
  over-after a j p q e =
      let k : a + j + length ys ≡ a + (j + length ys) = omega arith in
      rw (
        k,
        take-add a j (p ++ q),
        ← drop-drop (j + length ys) a (p ++ q),
        take_at p q a e,
        drop_at p q a e,
      )
      (append_assoc p (take j q) (ys ++ drop (j + length ys) q))

  -- right after p
  pub over_at : (a : ℕ) (p q : List A) → length p ≡ a → over a ys (p ++ q) ≡ p ++ (ys ++ drop (length ys) q)
  unfolding over
  over_at a p q e = rw (add-zero, zero-add) at (over-after a 0 p q e)

  -- before s
  pub over_within : (j : ℕ) (q s : List A) → j + length ys ≤ length q → over j ys (q ++ s) ≡ over j ys q ++ s
  unfolding over
  over_within j q s h = rw (take-append-le j q s (omega arith), drop-append-le (j + length ys) q s h) (simp append_assoc)

-- ---- k elements over w from a on

module _ {A : Type 0} (a : ℕ) (w : List A) (k : ℕ) (ys : List A) (e : length ys ≡ k) where
  -- as a part comes back
  pub come_back : put_mid a (a + k - a) w ys ≡ over a ys w
  unfolding over
  come_back = rw e (back a k w ys)

  module _ (h : a + k ≤ length w) where
    -- joined to the left
    over_split : over a ys w ≡ (take a w ++ ys) ++ drop (a + k) w
    unfolding over
    over_split = rw (← e) (sym (append_assoc (take a w) ys (drop (a + length ys) w)))

    done_long : length (take a w ++ ys) ≡ a + k
    done_long = simp (length-append, length-take) (omega arith)

    pub over-length : length (over a ys w) ≡ length w
    unfolding over
    over-length = simp (length-append, length-take, length-drop) (omega arith)

    -- up to their end, and from there on
    pub over_done : take (a + k) (over a ys w) ≡ take a w ++ ys
    over_done = ap (take (a + k)) over_split ∙ take_at (take a w ++ ys) (drop (a + k) w) (a + k) done_long

    pub over-left : drop (a + k) (over a ys w) ≡ drop (a + k) w
    over-left = ap (drop (a + k)) over_split ∙ drop_at (take a w ++ ys) (drop (a + k) w) (a + k) done_long

    -- they are where they were put
    pub over_here : take k (drop a (over a ys w)) ≡ ys
    unfolding over
    over_here =
        rw (drop_at (take a w) (ys ++ drop (a + length ys) w) a (length-take-le a w (omega arith))) (take_at ys (drop (a + length ys) w) k e)

    -- q in their place
    pub over_again : (q : List A) → length q ≡ k → over a q (over a ys w) ≡ over a q w
    unfolding over
    over_again q l =
        let past : drop (a + length q) (over a ys w) ≡ drop (a + length q) w = rw l over-left in
        λ i. over_front a w ys (omega arith) a (omega arith) i ++ (q ++ past i)

    past_next : (q : List A) → drop (a + k + length q) (over a ys w) ≡ drop (a + length (ys ++ q)) w
    past_next q = sym (drop-drop (length q) (a + k) (over a ys w)) ∙ rw (over-left, drop-drop, length-append, e, add_assoc)

    -- q right after them
    pub over_next : (q : List A) → over (a + k) q (over a ys w) ≡ over a (ys ++ q) w
    unfolding over
    over_next q = (λ i. over_done i ++ (q ++ past_next q i)) ∙ simp append_assoc

    -- one stored right after them
    pub over_stored : (v : A) → a + k < length w → set (over a ys w) (a + k) v ≡ over a (ys ++ (v ∷ [])) w
    over_stored v g = over_one (a + k) (over a ys w) v (rw over-length g) ∙ over_next (v ∷ [])
