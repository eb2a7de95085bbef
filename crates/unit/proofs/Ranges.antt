-- What the range of a state gives of each ring: its length, and its cursors below it. Assumes nothing.
use mathlib.Core.Path.{◌≡◌, refl, sym, ap, ◌∙◌}
use mathlib.Core.Bool.{Bool, true, false, ◌&&◌, cond}
use mathlib.Core.List.{List, [], ◌∷◌, ◌++◌}
use Prim.Native.Nat.{ℕ, zero, suc, ◌+◌, ◌-◌, ◌*◌, ◌<◌, ◌≤◌}
use native.Mathlib.Nat.{add-zero, zero-add, add-suc, suc-add, not-suc-le-zero}
use native.Mathlib.Omega.{arith}
use lib.Dec.{leb, eqb}
use lib.ListN.{length, get_or, take, set, replicate}
use borrow.Author.Tests.{ltb-true, lt-ltb, leb-true, le-leb, eqb-true}
use Rattle.samples.specs.Lists.{all_from}
use Rattle.samples.specs.Sizes.{frame_ok}
use Rattle.samples.proofs.Laws.{split_and, join_and, all_at}
use Rattle.samples.proofs.Turns.{stored}
use Rattle.delay.specs.declared.Cursors.{Cursors}
use Rattle.delay.specs.Calls.{both}
use Rattle.primes.proofs.Table.{delay_range}
use Rattle.unit.specs.UnitState.{Settings, UnitState}
use Rattle.unit.specs.Layout.{Model, wall, lengths_from, lengths, total}
use Rattle.unit.specs.Range.{below, cursors_in}
use Rattle.unit.specs.Room.{rings_hold, passes_are}

-- what all pass, the element at i passes, and so does what stands past the end where it passes
all_or : {A : Type 0} (p : ℕ → A → Bool) (xs : List A) (k i : ℕ) (d : A) → all_from p k xs ≡ true → p (k + i) d ≡ true → p (k + i) (get_or xs i d) ≡ true
all_or p [] k i d e h = h
all_or p (x ∷ xs) k zero d e h = rw add-zero (split_and (p k x) (all_from p (suc k) xs) e).0
all_or p (x ∷ xs) k (suc i) d e h =
    let q : k + suc i ≡ suc k + i = add-suc k i ∙ sym (suc-add k i) in
    rw q (all_or p xs (suc k) i d (split_and (p k x) (all_from p (suc k) xs) e).1 (rw q at h))

-- both cursors are below a length
pub record Below (l : ℕ) (c : Cursors) : Type 0 where
  pub read : c.read.0 < l
  pub write : c.write.0 < l

below_of : (l : ℕ) (c : Cursors) → below l c ≡ true → Below l c
unfolding below
below_of l c e = let p = split_and _ _ e in record { read = ltb-true _ _ p.0; write = ltb-true _ _ p.1 }

below_start : (l : ℕ) → 0 < l → below l (both 0) ≡ true
unfolding below
below_start l h = rw (lt-ltb 0 l)

pub cursors_at : (ls : List ℕ) (cs : List Cursors) → cursors_in ls cs ≡ true → (i : ℕ) → 0 < get_or ls i 0 → Below (get_or ls i 0) (get_or cs i (both 0))
unfolding cursors_in
cursors_at ls cs all i h =
    below_of _ _ (rw zero-add at (all_or (λ i c. below (get_or ls i 0) c) cs 0 i (both 0) all (rw zero-add (below_start (get_or ls i 0) h))))

-- ---- the lengths of the lines

-- of n, those from line i on: one more is in its place
pub lengths-turn : (m : Model) (s : Settings) (n i v : ℕ) (ls X : List ℕ) → i < n → i < length ls → v ≡ m.delay i + s.frame
    → take i ls ++ lengths_from m s (n - i) i ≡ X → take (i + 1) (set ls i v) ++ lengths_from m s (n - (i + 1)) (i + 1) ≡ X
unfolding lengths_from
lengths-turn m s n i v ls X h l e q =
    let k : n - i ≡ suc (n - (i + 1)) = omega arith in
    let left : lengths_from m s (n - i) i ≡ v ∷ lengths_from m s (n - (i + 1)) (i + 1) = rw (k, e) refl in
    stored ls i 0 l v left ∙ q

-- the length of line i
pub length_at : (m : Model) (s : Settings) (n j i : ℕ) → i < n → get_or (lengths_from m s n j) i 0 ≡ m.delay (j + i) + s.frame
unfolding lengths_from
length_at m s zero j i h = absurd (not-suc-le-zero h)
length_at m s (suc n) j zero h = rw add-zero refl
length_at m s (suc n) j (suc i) h =
    let e : j + suc i ≡ j + 1 + i = omega arith in
    rw e (length_at m s n (j + 1) i (omega arith))

pub lengths_long : (m : Model) (s : Settings) (n j : ℕ) → length (lengths_from m s n j) ≡ n
unfolding lengths_from
lengths_long m s zero j = refl
lengths_long m s (suc n) j = ap suc (lengths_long m s n (j + 1))

-- each holds a frame, and is short enough for a ring
pub lengths_hold : (m : Model) (s : Settings) (n j k : ℕ) → ((i : ℕ) → m.delay i ≤ 64512) → s.frame ≤ 1024
    → all_from (λ i l. leb s.frame l && leb l 65536) k (lengths_from m s n j) ≡ true
unfolding lengths_from
lengths_hold m s zero j k near h = refl
lengths_hold m s (suc n) j k near h =
    let l = m.delay j + s.frame in
    join_and (join_and (le-leb s.frame l (omega arith)) (le-leb l 65536 (omega (arith, near j)))) (lengths_hold m s n (j + 1) (suc k) near h)

-- a ring of those that hold a frame, and all of them
pub holds_at : (f : ℕ) (ls : List ℕ) → rings_hold f ls ≡ true → (i : ℕ) → i < length ls → (f ≤ get_or ls i 0) × (get_or ls i 0 ≤ 65536)
unfolding rings_hold
holds_at f ls e i h =
    let p = split_and _ _ (all_at (λ i l. leb f l && leb l 65536) ls 0 i 0 h e) in
    (leb-true _ _ p.0, leb-true _ _ p.1)

rings_short : (f k : ℕ) (ls : List ℕ) → all_from (λ i l. leb f l && leb l 65536) k ls ≡ true → total ls ≤ 65536 * length ls
unfolding total
rings_short f k [] e = omega arith
rings_short f k (l ∷ ls) e =
    let p = split_and (leb f l && leb l 65536) (all_from (λ i l. leb f l && leb l 65536) (suc k) ls) e in
    let short : l ≤ 65536 = leb-true l 65536 (split_and (leb f l) (leb l 65536) p.0).1 in
    omega (arith, short, rings_short f (suc k) ls p.1)

pub holds_all : (f : ℕ) (ls : List ℕ) → rings_hold f ls ≡ true → total ls ≤ 65536 * length ls
unfolding rings_hold
holds_all f ls e = rings_short f 0 ls e

-- of the wall unit's lines
pub wall_holds : (u : UnitState) → u.settings.frame ≤ 1024 → rings_hold u.settings.frame (lengths wall u) ≡ true
unfolding rings_hold
wall_holds u h = lengths_hold wall u.settings 16 0 0 (λ (i : ℕ). omega (arith, delay_range i)) h

-- and its allpass rings
pub wall-passes : passes_are wall wall.pass_lengths ≡ true
unfolding passes_are
wall-passes = refl

pub passes_same : (ls : List ℕ) → length ls ≡ 4 → passes_are wall ls ≡ true → ls ≡ wall.pass_lengths
unfolding passes_are
passes_same [] l e = absurd (omega arith)
passes_same (a ∷ []) l e = absurd (omega arith)
passes_same (a ∷ b ∷ []) l e = absurd (omega arith)
passes_same (a ∷ b ∷ c ∷ []) l e = absurd (omega arith)
passes_same (a ∷ b ∷ c ∷ d ∷ []) l e =
    let p = split_and (eqb a 225) _ e in
    let q = split_and (eqb b 341) _ p.1 in
    let r = split_and (eqb c 341) _ q.1 in
    let s = split_and (eqb d 441) _ r.1 in
    λ i. eqb-true a 225 p.0 i ∷ eqb-true b 341 q.0 i ∷ eqb-true c 341 r.0 i ∷ eqb-true d 441 s.0 i ∷ []
passes_same (a ∷ b ∷ c ∷ d ∷ x ∷ ls) l e = absurd (omega arith)

-- a test of the lengths that stands behind a test of the frame may take them for those of a frame in range
pub in_range_lengths : (ls : List ℕ) (f : ℕ) (cs : List Cursors) (rate passes blank : Bool)
    → ((rate && frame_ok f) && ((cursors_in (cond (frame_ok f) ls (replicate 16 0)) cs && passes) && blank))
    ≡ ((rate && frame_ok f) && ((cursors_in ls cs && passes) && blank))
in_range_lengths ls f cs rate passes blank = go rate (frame_ok f) refl
  where
    go : (a b : Bool) → frame_ok f ≡ b
        → ((a && b) && ((cursors_in (cond b ls (replicate 16 0)) cs && passes) && blank)) ≡ ((a && b) && ((cursors_in ls cs && passes) && blank))
    go true true e = refl
    go true false e = refl
    go false b e = refl
