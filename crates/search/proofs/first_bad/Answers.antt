-- `search::first_bad` meets its contract. Assumes nothing.
use native.Mathlib.Omega.{arith}
use native.Mathlib.Numerals.{add-one}
use Rattle.std.proofs.Common.{◌≡◌, ℕ, ◌+◌, ◌<◌, length, true, false, List, ◌++◌, drop, sym, ap, ◌∙◌, rules, length-append, length-drop}
use Rattle.std.specs.Prelude.{Some}
use lib.ListN.{get_or, drop_of_length-le}
use lib.Seq.{drop-cons, take-length}
use lib.Ieee.{Float, nan}
use Rattle.samples.specs.Binary32.{finite}
use Rattle.search.specs.Search.{first_from, first_bad, all_finite}
use Rattle.search.proofs.Finite.{finite_skip}
use Rattle.search.proofs.first_bad.Goals as goal

-- one sample of a row that is searched, with what is left behind the row
left_on : (xs ys : List Float) (i k n : ℕ) → k < length xs → i + length (drop k xs ++ ys) ≡ n → i + 1 + length (drop (k + 1) xs ++ ys) ≡ n
left_on xs ys i k n h e =
    omega (arith, length-append (drop k xs) ys, length-append (drop (k + 1) xs) ys, length-drop k xs, length-drop (k + 1) xs)

module _ (xs ys all : List Float) (i k : ℕ) (h : k < length xs) (so_far : first_from i (drop k xs ++ ys) ≡ first_bad all) where
  bad_here : finite (get_or xs k nan) ≡ false → Some i ≡ first_bad all
  bad_here b = sym (rw (drop-cons xs k nan h, b)) ∙ so_far

  good_here : finite (get_or xs k nan) ≡ true → first_from (i + 1) (drop (k + 1) xs ++ ys) ≡ first_bad all
  good_here b = rw (add-one i, add-one k) (sym (rw (drop-cons xs k nan h, b)) ∙ so_far)

pub rows-preserved-then-row_finite : goal.rows-preserved-then-row_finite
rows-preserved-then-row_finite c =
    let part = c.in-Some.part.now in
    let cut = c.in-Some.ensures.steps.1 in
    let good : all_finite part ≡ true = search (rules, take-length) in
    record {
      begins = omega (arith, simp length-append at (ap length cut.0));
      finds = sym (finite_skip c.rows.i part _ good) ∙ sym (ap (first_from c.rows.i) cut.0) ∙ c.rows.invariant.finds;
      none_yet = c.rows.invariant.none_yet;
    }

pub loop-x-init : goal.loop-x-init
loop-x-init c =
    let cut = c.in-Some.ensures.steps.1 in
    record {
      begins = sym (ap (λ (xs : List Float). c.rows.i + length xs) cut.0) ∙ c.rows.invariant.begins;
      finds = sym (ap (first_from c.rows.i) cut.0) ∙ c.rows.invariant.finds;
      none_yet = c.rows.invariant.none_yet;
    }

pub loop-x-preserved : goal.loop-x-preserved
loop-x-preserved c = let l = c.loop-x in record {
  begins = left_on c.in-Some.part.now _ l.i l.x-index _ (omega arith) l.invariant.begins;
  finds = good_here c.in-Some.part.now _ _ l.i l.x-index (omega arith) l.invariant.finds (sym c.is_finite-bad.ensures ∙ c.if-bad.false);
  none_yet = l.invariant.none_yet;
}

pub rows-preserved : goal.rows-preserved
rows-preserved c = let l = c.loop-x in record {
  begins = omega (arith, simp (length-append, length-drop) at l.invariant.begins);
  finds = sym (rw (drop_of_length-le c.in-Some.part.now {i = l.x-index} (omega arith))) ∙ l.invariant.finds;
  none_yet = l.invariant.none_yet;
}

pub returns-then-bad : goal.returns-then-bad
returns-then-bad c = let l = c.loop-x in
    bad_here c.in-Some.part.now _ _ l.i l.x-index (omega arith) l.invariant.finds (sym c.is_finite-bad.ensures ∙ c.if-bad.true)
