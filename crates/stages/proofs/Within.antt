-- Cursors that a frame moves stay within their rings, of any lengths. Assumes nothing.
use Prim.Native.Nat.{ℕ, suc, ◌+◌, ◌<◌}
use mathlib.Core.Path.{◌≡◌, refl, sym, ap, ◌∙◌}
use mathlib.Core.Bool.{Bool, true}
use mathlib.Core.List.{List, [], ◌∷◌}
use native.Mathlib.Nat.{add-zero, zero-add, add-suc, suc-add, mod-lt}
use native.Mathlib.Omega.{arith}
use borrow.Author.Tests.{ltb-true, lt-ltb}
use lib.ListN.{get_or}
use Rattle.samples.specs.Lists.{all_from}
use Rattle.samples.proofs.Laws.{split_and, join_and}
use Rattle.delay.specs.declared.Cursors.{Cursors}
use Rattle.unit.specs.Range.{below, cursors_in}
use Rattle.stages.specs.Settle.{moved_by, all_moved}

below-moved : (f l : ℕ) (c : Cursors) → below l c ≡ true → below l (moved_by f l c) ≡ true
unfolding below
below-moved f l c e =
    let h : 0 < l = omega (arith, ltb-true c.read.0 l (split_and _ _ e).0) in
    join_and (lt-ltb _ _ (mod-lt (c.read.0 + f) h)) (lt-ltb _ _ (mod-lt (c.write.0 + f) h))

-- p k asks the same as `below` of the first length, and so on
all_moved_lem : (p : ℕ → Cursors → Bool) (f : ℕ) (ls : List ℕ) (cs : List Cursors) (k : ℕ) → ((i : ℕ) (c : Cursors) → p (k + i) c ≡ below (get_or ls i 0) c)
    → all_from p k cs ≡ true → all_from p k (all_moved f ls cs) ≡ true
unfolding all_moved
all_moved_lem p f [] cs k h e = e
all_moved_lem p f (l ∷ ls) [] k h e = refl
all_moved_lem p f (l ∷ ls) (c ∷ cs) k h e =
    let here : (c : Cursors) → p k c ≡ below l c = λ c. ap (λ (n : ℕ). p n c) (sym (add-zero k)) ∙ h 0 c in
    let past : (i : ℕ) (c : Cursors) → p (suc k + i) c ≡ below (get_or ls i 0) c = λ i c. ap (λ (n : ℕ). p n c) (suc-add k i ∙ sym (add-suc k i)) ∙ h (suc i) c in
    let q = split_and (p k c) (all_from p (suc k) cs) e in
    join_and (here (moved_by f l c) ∙ below-moved f l c (sym (here c) ∙ q.0)) (all_moved_lem p f ls cs (suc k) past q.1)

pub cursors_moved : (f : ℕ) (ls : List ℕ) (cs : List Cursors) → cursors_in ls cs ≡ true → cursors_in ls (all_moved f ls cs) ≡ true
unfolding cursors_in
cursors_moved f ls cs e = all_moved_lem (λ i c. below (get_or ls i 0) c) f ls cs 0 (λ i c. ap (λ (n : ℕ). below (get_or ls n 0) c) (zero-add i)) e
