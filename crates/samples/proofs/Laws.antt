-- The laws of the combinators: what an answer tells, and what a judgement made of tests tells.
-- Assumes nothing.
use mathlib.Core.Path.{◌≡◌, refl, sym, ap, ◌∙◌}
use mathlib.Core.Bool.{Bool, true, false, ◌&&◌}
use mathlib.Core.List.{List, [], ◌∷◌}
use Prim.Native.Nat.{ℕ, zero, suc, ◌+◌, ◌≤◌, ◌<◌, ◌%◌}
use native.Mathlib.Nat.{add-suc, add-zero, zero-add, suc-add, not-suc-le-zero, le_of_suc-le-suc}
use native.Mathlib.Omega.{arith}
use lib.ListN.{length, get_or}
use borrow.Author.Tests.{leb-true, eqb-true}
use Rattle.std.specs.Prelude.{Ok, Err, ◌↔◌}
use Rattle.samples.specs.Answers.{Answer, Accepted, accept, accepted, need}
use Rattle.samples.specs.Lists.{all_from}
use Rattle.samples.specs.Sizes.{rate_ok, frame_ok}

true≢false : true ≡ false → ⊥
true≢false e = let z : ◌≡◌ {A = ℕ} 0 1 = cc in omega arith

-- ---- answers

-- what is accepted is `Accepted`, and what is not leaves the old value
pub is_accepted : (a : Answer) → accepted a ≡ true → a ≡ Accepted
is_accepted (Ok tt) e = refl
is_accepted (Err bad) e = absurd (true≢false (sym e))

pub accept_no : {A : Type 0} (a : Answer) (new old : A) → accepted a ≡ false → accept a new old ≡ old
accept_no (Ok tt) new old e = absurd (true≢false e)
accept_no (Err bad) new old e = refl

pub accept_yes : {A : Type 0} (a : Answer) (new old : A) → accepted a ≡ true → accept a new old ≡ new
accept_yes a new old e = rw (is_accepted a e) refl

-- what holds of the new where a call is accepted, and of the old where it is refused, holds of what it leaves
pub accept_either : {A : Type 0} (P : A → Type 0) (a : Answer) {new old : A} → (a ≡ Accepted → P new) → (accepted a ≡ false → P old) → P (accept a new old)
accept_either P a {new} {old} f g = go (accepted a) refl
  where
    go : (b : Bool) → accepted a ≡ b → P (accept a new old)
    go true e = let h = is_accepted a e in rw h (f h)
    go false e = rw (accept_no a new old e) (g e)

-- ---- judgements

-- a test that would refuse has passed
pub needed : (ok : Bool) (bad rest : Answer) → accepted bad ≡ false → need ok bad rest ≡ Accepted → (ok ≡ true) × (rest ≡ Accepted)
needed true bad rest h e = (refl, e)
needed false bad rest h e = absurd (true≢false (sym (ap accepted e) ∙ h))

pub split_and : (a b : Bool) → (a && b) ≡ true → (a ≡ true) × (b ≡ true)
split_and true b e = (refl, e)
split_and false b e = absurd (true≢false (sym e))

pub join_and : {a b : Bool} → a ≡ true → b ≡ true → (a && b) ≡ true
join_and p q = rw (p, q) refl

-- ---- the ranges of rate and frame

pub record Rate (rate : ℕ) : Type 0 where
  pub lo : 8000 ≤ rate
  pub hi : rate ≤ 192000

pub rate_of : (rate : ℕ) → rate_ok rate ≡ true → Rate rate
unfolding rate_ok
rate_of rate e = let p = split_and _ _ e in record { lo = leb-true _ _ p.0; hi = leb-true _ _ p.1 }

pub record Frame (frame : ℕ) : Type 0 where
  pub lo : 4 ≤ frame
  pub hi : frame ≤ 1024
  pub fours : frame % 4 ≡ 0

pub frame_of : (frame : ℕ) → frame_ok frame ≡ true → Frame frame
unfolding frame_ok
frame_of frame e =
    let p = split_and _ _ e in
    let q = split_and _ _ p.1 in
    record { lo = leb-true _ _ p.0; hi = leb-true _ _ q.0; fours = eqb-true _ _ q.1 }

-- ---- a test of every element

pub and_assoc : (a b c : Bool) → ((a && b) && c) ≡ (a && (b && c))
and_assoc true b c = refl
and_assoc false b c = refl

module _ {A : Type 0} (p : ℕ → A → Bool) where
  -- what all pass, the element at i passes
  pub all_at : (xs : List A) (k i : ℕ) (d : A) → i < length xs → all_from p k xs ≡ true → p (k + i) (get_or xs i d) ≡ true
  all_at [] k i d h e = absurd (not-suc-le-zero h)
  all_at (x ∷ xs) k zero d h e = rw add-zero (split_and (p k x) (all_from p (suc k) xs) e).0
  all_at (x ∷ xs) k (suc i) d h e =
      let q : k + suc i ≡ suc k + i = add-suc k i ∙ sym (suc-add k i) in
      rw q (all_at xs (suc k) i d (le_of_suc-le-suc h) (split_and (p k x) (all_from p (suc k) xs) e).1)

  -- what each element passes at its place, all pass
  all_of : (xs : List A) (k : ℕ) → ((i : ℕ) (d : A) → i < length xs → p (k + i) (get_or xs i d) ≡ true) → all_from p k xs ≡ true
  all_of [] k h = refl
  all_of (x ∷ xs) k h =
      join_and (rw add-zero at (h 0 x (omega arith)))
      (all_of xs (suc k) (λ i d g. let e : k + suc i ≡ suc k + i = add-suc k i ∙ sym (suc-add k i) in rw e at (h (suc i) d (omega arith))))

  -- a test that says whether each does, as an iterator's `all` is
  pub every : (xs : List A) (r : Bool) → (r ≡ true) ↔ ((i : ℕ) (d : A) → i < length xs → p i (get_or xs i d) ≡ true) → r ≡ all_from p 0 xs
  every xs true e = sym (all_of xs 0 (λ i d g. rw zero-add (e.0 refl i d g)))
  every xs false e = go (all_from p 0 xs) refl
    where
      go : (b : Bool) → all_from p 0 xs ≡ b → false ≡ b
      go false h = refl
      go true h = e.1 (λ i d g. rw zero-add at (all_at xs 0 i d g h))
