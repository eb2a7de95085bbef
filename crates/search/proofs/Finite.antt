-- The laws of finiteness: what a search that finds nothing says of lists that are joined and cut. Assumes nothing.
use mathlib.Core.Path.{◌≡◌, refl, sym, ap, ◌∙◌}
use mathlib.Core.Bool.{Bool, true, false, ◌&&◌, cond}
use mathlib.Core.List.{List, [], ◌∷◌, ◌++◌}
use Prim.Native.Nat.{ℕ, zero, suc, ◌+◌}
use native.Mathlib.Nat.{add-zero, add-suc, suc-add}
use Rattle.std.specs.List.{fold}
use Rattle.std.specs.Prelude.{Option, Some}
use lib.Ieee.{Float, of_bits}
use lib.ListN.{take, drop, replicate, take-append-drop, length}
use Rattle.samples.specs.Binary32.{+0, finite}
use Rattle.samples.specs.Lists.{all_from}
use Rattle.search.specs.Search.{first_from, nothing, all_finite}
use Rattle.samples.proofs.Laws.{and_assoc, split_and}

none_else : (b : Bool) (f : Option ℕ) (k : ℕ) → nothing (cond b f (Some k)) ≡ (b && nothing f)
none_else true f k = refl
none_else false f k = refl

-- where the places are counted from does not matter
none_from : (j k : ℕ) (xs : List Float) → nothing (first_from j xs) ≡ nothing (first_from k xs)
none_from j k [] = refl
none_from j k (x ∷ xs) =
    none_else (finite x) (first_from (suc j) xs) j ∙ ap (λ (b : Bool). finite x && b) (none_from (suc j) (suc k) xs) ∙ sym (none_else (finite x) (first_from (suc k) xs) k)

-- the first sample, and the rest
pub finite-cons : (x : Float) (xs : List Float) → all_finite (x ∷ xs) ≡ (finite x && all_finite xs)
finite-cons x xs = none_else (finite x) (first_from 1 xs) 0 ∙ ap (λ (b : Bool). finite x && b) (none_from 1 0 xs)

pub finite-append : (xs ys : List Float) → all_finite (xs ++ ys) ≡ (all_finite xs && all_finite ys)
finite-append [] ys = refl
finite-append (x ∷ xs) ys =
    finite-cons x (xs ++ ys)
    ∙ ap (λ (b : Bool). finite x && b) (finite-append xs ys)
    ∙ sym (and_assoc (finite x) (all_finite xs) (all_finite ys))
    ∙ ap (λ (b : Bool). b && all_finite ys) (sym (finite-cons x xs))

pub finite-zeros : (n : ℕ) → all_finite (replicate n +0) ≡ true
unfolding finite of_bits
finite-zeros zero = refl
finite-zeros (suc n) = none_from 1 0 (replicate n +0) ∙ finite-zeros n

-- both parts of a finite list are finite
pub finite_cut : (n : ℕ) (xs : List Float) → all_finite xs ≡ true → (all_finite (take n xs) ≡ true) × (all_finite (drop n xs) ≡ true)
finite_cut n xs e = split_and _ _ (sym (finite-append (take n xs) (drop n xs)) ∙ ap all_finite (take-append-drop n xs) ∙ e)

-- a search that finds nothing is a test that every sample passes
pub finite-all : (k : ℕ) (xs : List Float) → all_finite xs ≡ all_from (λ i x. finite x) k xs
finite-all k [] = refl
finite-all k (x ∷ xs) = finite-cons x xs ∙ ap (λ (b : Bool). finite x && b) (finite-all (suc k) xs)

-- a search passes over a part that is finite
pub finite_skip : (k : ℕ) (xs ys : List Float) → all_finite xs ≡ true → first_from k (xs ++ ys) ≡ first_from (k + length xs) ys
finite_skip k [] ys e = rw add-zero refl
finite_skip k (x ∷ xs) ys e =
    let p = split_and (finite x) (all_finite xs) (sym (finite-cons x xs) ∙ e) in
    let q : suc k + length xs ≡ k + suc (length xs) = suc-add k (length xs) ∙ sym (add-suc k (length xs)) in
    ap (λ (b : Bool). cond b (first_from (suc k) (xs ++ ys)) (Some k)) p.0 ∙ finite_skip (suc k) xs ys p.1 ∙ ap (λ (m : ℕ). first_from m ys) q

and_true : (a : Bool) → a ≡ (a && true)
and_true true = refl
and_true false = refl

-- the samples judged one after the other, each beside what was found of those before it
pub finite-fold : (ok : Bool) (xs : List Float) → fold (λ b x. b && finite x) ok xs ≡ (ok && all_finite xs)
finite-fold ok [] = and_true ok
finite-fold ok (x ∷ xs) =
    finite-fold (ok && finite x) xs ∙ and_assoc ok (finite x) (all_finite xs) ∙ ap (λ (b : Bool). ok && b) (sym (finite-cons x xs))
