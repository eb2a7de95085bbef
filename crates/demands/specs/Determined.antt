-- R8.28: a contract leaves one result only, and one value for every lent float. A contract is what a function may leave: `post κs a x s` says that it allows, of the arguments a, the result x and the lent
-- slices s at exit.
use Rattle.std.specs.Prelude.{◌≡◌, false, List, ℕ}
use contract.Lifetimes
use borrow.Fn.Kinds as Kinds'
use denote.Triple.Clauses
use Rattle.samples.specs.Answers.{Answer, accepted}

module _ (n : ℕ) (ps : List (Kinds'.ParamKind n)) (r : Kinds'.ResultKind n) (post : Kinds'.Out n ps r) where
  abbrev Result : Lifetimes.Lfts n → Type 0
  Result κs = (Kinds'.res_t r κs).Denot

  abbrev Exits : Lifetimes.Lfts n → Type 0
  Exits κs = Clauses.AtExit (Kinds'.ended_of n ps r) κs

  -- whatever the contract allows of the same arguments is the same: the result
  abbrev pub Determined : Type 0
  Determined = (κs : Lifetimes.Lfts n) (a : Kinds'.Dens κs ps) (x y : Result κs) (s t : Exits κs) → post κs a x s → post κs a y t → x ≡ y

  -- what `of` takes of the result, where a result is a part of what is lent
  abbrev pub OneValue : {A : Type 0} → ((κs : Lifetimes.Lfts n) → Result κs → A) → Type 0
  OneValue of =
      (κs : Lifetimes.Lfts n) (a : Kinds'.Dens κs ps) (x y : Result κs) (s t : Exits κs) → post κs a x s → post κs a y t → of κs x ≡ of κs y

  -- what `of` takes of the lent slices at exit
  abbrev pub DeterminedExit : {A : Type 0} → ((κs : Lifetimes.Lfts n) → Exits κs → A) → Type 0
  DeterminedExit of =
      (κs : Lifetimes.Lfts n) (a : Kinds'.Dens κs ps) (x y : Result κs) (s t : Exits κs) → post κs a x s → post κs a y t → of κs s ≡ of κs t

  -- the result and a lent slice
  abbrev pub DeterminedWith1 : {A : Type 0} → ((κs : Lifetimes.Lfts n) → Exits κs → A) → Type 0
  DeterminedWith1 of =
      (κs : Lifetimes.Lfts n) (a : Kinds'.Dens κs ps) (x y : Result κs) (s t : Exits κs) → post κs a x s → post κs a y t
      → (x ≡ y) × (of κs s ≡ of κs t)

  -- the result and three lent slices
  abbrev pub DeterminedWith3 : {A B C : Type 0} → ((κs : Lifetimes.Lfts n) → Exits κs → A) → ((κs : Lifetimes.Lfts n) → Exits κs → B)
      → ((κs : Lifetimes.Lfts n) → Exits κs → C) → Type 0
  DeterminedWith3 first second third =
      (κs : Lifetimes.Lfts n) (a : Kinds'.Dens κs ps) (x y : Result κs) (s t : Exits κs) → post κs a x s → post κs a y t
      → (x ≡ y) × (first κs s ≡ first κs t) × (second κs s ≡ second κs t) × (third κs s ≡ third κs t)

  -- R8.4: where the answer is a refusal, `left` at exit is what was `given`
  abbrev pub Unchanged : {A : Type 0} → ((κs : Lifetimes.Lfts n) → Result κs → Answer)
      → ((κs : Lifetimes.Lfts n) → Result κs → Exits κs → A) → ((κs : Lifetimes.Lfts n) → Kinds'.Dens κs ps → A) → Type 0
  Unchanged answer left given =
      (κs : Lifetimes.Lfts n) (a : Kinds'.Dens κs ps) (x : Result κs) (s : Exits κs) → post κs a x s → accepted (answer κs x) ≡ false → left κs x s ≡ given κs a
