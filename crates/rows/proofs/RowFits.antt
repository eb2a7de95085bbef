-- What the tests of the memory lent tell, and that they are passed by what fits. Assumes nothing.
use mathlib.Core.Path.{◌≡◌, refl, sym, ap}
use mathlib.Core.Bool.{Bool, true, false, ◌&&◌}
use mathlib.Core.List.{List}
use Prim.Native.Nat.{ℕ, ◌+◌, ◌*◌, ◌-◌, ◌%◌, ◌<◌, ◌≤◌}
use native.Mathlib.Nat.{mul-le-mul}
use native.Mathlib.Omega.{arith}
use lib.Dec.{leb, eqb}
use borrow.Author.Tests.{leb-true, le-leb, eqb-true, eqb-false, eq-eqb, ne_eqb}
use Rattle.samples.proofs.Laws.{split_and}
use Rattle.unit.specs.Layout.{total, places_of}
use Rattle.rows.specs.Fits.{few_rows, lines_fit, output_fits}

-- ---- rows of few lines

pub record Few (n f : ℕ) : Type 0 where
  pub some : 0 < n
  pub few : n ≤ 16
  pub small : f ≤ 65536
  pub all : n * f ≤ 16 * 65536

pub few_of : (n f : ℕ) → few_rows n f ≡ true → Few n f
unfolding few_rows
few_of n f e =
    let p = split_and (leb 1 n) (leb n 16 && leb f 65536) e in
    let q = split_and (leb n 16) (leb f 65536) p.1 in
    let few = leb-true n 16 q.0 in
    let small = leb-true f 65536 q.1 in
    record { some = leb-true 1 n p.0; few = few; small = small; all = mul-le-mul few small }

few_yes : (n f : ℕ) → 0 < n → n ≤ 16 → f ≤ 65536 → few_rows n f ≡ true
unfolding few_rows
few_yes n f some few small = rw (le-leb 1 n some, le-leb n 16 few, le-leb f 65536 small) refl

-- ---- the rows of steps 3 and 4

pub lines_of : (n f len : ℕ) → lines_fit n f len ≡ true → (0 < n) × (n ≤ 16) × (f ≤ 65536) × (len ≡ f + n * f + n * f)
unfolding lines_fit
lines_of n f len e =
    let p = split_and (few_rows n f) (eqb len (f + n * f + n * f)) e in
    let q = few_of n f p.0 in
    (q.some, q.few, q.small, eqb-true len (f + n * f + n * f) p.1)

pub lines_yes : (n f len : ℕ) → 0 < n → n ≤ 16 → f ≤ 65536 → len ≡ f + n * f + n * f → lines_fit n f len ≡ true
unfolding lines_fit
lines_yes n f len some few small e = rw (few_yes n f some few small, eq-eqb len (f + n * f + n * f) e) refl

-- ---- the rows of step 5

pub output_of_lem : (n f : ℕ) (ps : List ℕ) (len : ℕ) → output_fits n f ps len ≡ true
    → (n ≤ 16) × (f ≤ 65536) × (f % 4 ≡ 0) × (len ≡ (places_of n f).rings + total ps)
unfolding output_fits
output_of_lem n f ps len e =
    let p = split_and (few_rows n f) _ e in
    let q = few_of n f p.0 in
    let r = split_and (eqb (f % 4) 0) (eqb len ((places_of n f).rings + total ps)) p.1 in
    (q.few, q.small, eqb-true (f % 4) 0 r.0, eqb-true len ((places_of n f).rings + total ps) r.1)

pub output_yes : (n f : ℕ) (ps : List ℕ) (len : ℕ) → 0 < n → n ≤ 16 → f ≤ 65536 → f % 4 ≡ 0 → len ≡ (places_of n f).rings + total ps
    → output_fits n f ps len ≡ true
unfolding output_fits
output_yes n f ps len some few small fours e =
    rw (few_yes n f some few small, eq-eqb (f % 4) 0 fours, eq-eqb len ((places_of n f).rings + total ps) e) refl

and_false : (b : Bool) → (b && false) ≡ false
and_false true = refl
and_false false = refl

-- fewer than the rows
pub output_short : (n f : ℕ) (ps : List ℕ) (len : ℕ) → len < (places_of n f).rings → output_fits n f ps len ≡ false
unfolding output_fits
output_short n f ps len h =
    let no : eqb len ((places_of n f).rings + total ps) ≡ false = ne_eqb _ _ (λ (e : len ≡ (places_of n f).rings + total ps). omega arith) in
    rw (no, and_false (eqb (f % 4) 0)) (and_false (few_rows n f))

-- what is left of len without k is b exactly if len is k and b
left_over : (len k b : ℕ) → k ≤ len → eqb (len - k) b ≡ eqb len (k + b)
left_over len k b h = go (eqb (len - k) b) refl
  where
    go : (t : Bool) → eqb (len - k) b ≡ t → t ≡ eqb len (k + b)
    go true e = let l = eqb-true (len - k) b e in sym (eq-eqb len (k + b) (omega arith))
    go false e = let l = eqb-false (len - k) b e in sym (ne_eqb len (k + b) (λ (q : len ≡ k + b). l (omega arith)))

pub output_long : (n f : ℕ) (ps : List ℕ) (len : ℕ) → (places_of n f).rings ≤ len → few_rows n f ≡ true
    → (eqb (f % 4) 0 && eqb (len - (places_of n f).rings) (total ps)) ≡ output_fits n f ps len
unfolding output_fits
output_long n f ps len h e =
    rw e (ap (λ (b : Bool). eqb (f % 4) 0 && b) (left_over len (places_of n f).rings (total ps) h))
