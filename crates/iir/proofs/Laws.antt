-- The laws of runs and of a filter's nine numbers. `step_out` alone looks inside a step. Assumes nothing.
use mathlib.Core.Path.{◌≡◌, refl, ap, ◌∙◌}
use mathlib.Core.Bool.{Bool, true, ◌&&◌}
use mathlib.Core.List.{List, [], ◌∷◌, ◌++◌}
use Prim.Native.Nat.{suc}
use lib.ListN.{length}
use lib.Ieee.{Float}
use Rattle.std.specs.List.{fold}
use Rattle.std.proofs.Math.Bool.{and_assoc}
use Rattle.samples.proofs.Laws.{split_and}
use Rattle.iir.specs.declared.Filter.{Filter}
use Rattle.iir.specs.declared.Bands.{Bands}
use Rattle.iir.specs.Step.{out_of, step}
use Rattle.iir.specs.Runs.{run_out, run_end, bands_out, bands_end}
use Rattle.iir.specs.Nine.{numbers, nine}

-- what comes out of a step is the `y1` that it leaves
pub step_out : (f : Filter) (x : Float) → (step f x).y1 ≡ out_of f x
unfolding step
step_out f x = refl

-- ---- lengths

pub run_length : (f : Filter) (xs : List Float) → length (run_out f xs) ≡ length xs
run_length f [] = refl
run_length f (x ∷ xs) = ap suc (run_length (step f x) xs)

pub bands_length : (b : Bands) (xs : List Float) → length (bands_out b xs) ≡ length xs
unfolding bands_out
bands_length b xs =
    let ys = run_out b.f0 xs in
    run_length b.f2 (run_out b.f1 ys) ∙ run_length b.f1 ys ∙ run_length b.f0 xs

-- ---- a run over two rows is a run over the first and, by the filter after it, over the second

pub run-append : (f : Filter) (xs ys : List Float) → run_out f (xs ++ ys) ≡ run_out f xs ++ run_out (run_end f xs) ys
run-append f [] ys = refl
run-append f (x ∷ xs) ys = ap (λ (l : List Float). out_of f x ∷ l) (run-append (step f x) xs ys)

pub end_append : (f : Filter) (xs ys : List Float) → run_end f (xs ++ ys) ≡ run_end (run_end f xs) ys
end_append f [] ys = refl
end_append f (x ∷ xs) ys = end_append (step f x) xs ys

-- and so of three bands
module _ (b : Bands) (xs ys : List Float) where
  pub bands_append : bands_out b (xs ++ ys) ≡ bands_out b xs ++ bands_out (bands_end b xs) ys
  unfolding bands_out bands_end
  bands_append =
      let us = run_out b.f0 xs in
      let vs = run_out (run_end b.f0 xs) ys in
      rw (run-append b.f0 xs ys, run-append b.f1 us vs) (run-append b.f2 (run_out b.f1 us) (run_out (run_end b.f1 us) vs))

  pub bands_end_append : bands_end b (xs ++ ys) ≡ bands_end (bands_end b xs) ys
  unfolding bands_out bands_end
  bands_end_append =
      let us = run_out b.f0 xs in
      let vs = run_out (run_end b.f0 xs) ys in
      rw (
        run-append b.f0 xs ys,
        run-append b.f1 us vs,
        end_append b.f0 xs ys,
        end_append b.f1 us vs,
        end_append b.f2 (run_out b.f1 us) (run_out (run_end b.f1 us) vs),
      )
      refl

-- ---- one sample of a run: g is f after x

module _ (f : Filter) {g : Filter} {x : Float} {l r : List Float} (e : g ≡ step f x) (h : l ≡ x ∷ r) where
  pub peel : run_out f l ≡ g.y1 ∷ run_out g r
  peel = rw (h, e, step_out)

  pub peel_end : run_end f l ≡ run_end g r
  peel_end = rw (h, e)

-- and of three bands: f0 to f2 are the filters after it
module _ (b : Bands) {f0 f1 f2 : Filter} {x : Float} {l r : List Float}
    (e0 : f0 ≡ step b.f0 x) (e1 : f1 ≡ step b.f1 f0.y1) (e2 : f2 ≡ step b.f2 f1.y1) (h : l ≡ x ∷ r) where
  pub bands_peel : bands_out b l ≡ f2.y1 ∷ bands_out (record { f0 = f0; f1 = f1; f2 = f2 }) r
  unfolding bands_out
  bands_peel = peel b.f2 e2 (peel b.f1 e1 (peel b.f0 e0 h))

  pub bands_peel_end : bands_end (record { f0 = f0; f1 = f1; f2 = f2 }) r ≡ bands_end b l
  unfolding bands_end
  bands_peel_end =
      let p0 = peel b.f0 e0 h in
      let p1 = peel b.f1 e1 p0 in
      rw (peel_end b.f0 e0 h, peel_end b.f1 e1 p0, peel_end b.f2 e2 p1) refl

-- ---- nine numbers

-- a test of each of them in turn is the test of the nine
pub nine_fold : (p : Float → Bool) (f : Filter) (r : Bool) → r ≡ fold (λ ok x. ok && p x) true (numbers f) → r ≡ nine p f
unfolding nine
nine_fold p f r e = simp and_assoc at e

-- what a test says of a filter, it says of each of its numbers
pub record Each (p : Float → Bool) (f : Filter) : Type 0 where
  pub a1 : p f.a1 ≡ true
  pub a2 : p f.a2 ≡ true
  pub b0 : p f.b0 ≡ true
  pub b1 : p f.b1 ≡ true
  pub b2 : p f.b2 ≡ true
  pub x1 : p f.x1 ≡ true
  pub x2 : p f.x2 ≡ true
  pub y1 : p f.y1 ≡ true
  pub y2 : p f.y2 ≡ true

pub nine_each : (p : Float → Bool) (f : Filter) → nine p f ≡ true → Each p f
unfolding nine
nine_each p f e =
    let a1 = split_and _ _ e in
    let a2 = split_and _ _ a1.1 in
    let b0 = split_and _ _ a2.1 in
    let b1 = split_and _ _ b0.1 in
    let b2 = split_and _ _ b1.1 in
    let x1 = split_and _ _ b2.1 in
    let x2 = split_and _ _ x1.1 in
    let y1 = split_and _ _ x2.1 in
    record { a1 = a1.0; a2 = a2.0; b0 = b0.0; b1 = b1.0; b2 = b2.0; x1 = x1.0; x2 = x2.0; y1 = y1.0; y2 = y1.1 }
