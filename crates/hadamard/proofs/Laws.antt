-- The laws of the mix: lengths, the mix of one sample as the mix of rows, and what a call on lengths that fit answers and leaves. Assumes nothing.
use Rattle.std.specs.Prelude.{Err}
use mathlib.Core.Path.{◌≡◌, refl, sym, ap, ◌∙◌}
use mathlib.Core.List.{List, [], ◌∷◌, ◌++◌}
use Prim.Native.Nat.{ℕ, zero, suc, ◌+◌, ◌*◌, ◌/◌, ◌%◌, ◌<◌}
use native.Mathlib.Nat.{mul_assoc, mul-mod_right, mul-div_right, div-add-mod}
use native.Mathlib.Omega.{arith}
use lib.Dec.{eqb}
use lib.ListN.{length, get_or, take, length-append}
use lib.Seq.{take_at}
use lib.Ieee.{Float, nan}
use borrow.Author.Tests.{eq-eqb, ne_eqb}
use Rattle.samples.specs.Answers.{Accepted, need}
use Rattle.samples.specs.declared.Refusal.TheVariants.{BadLength}
use Rattle.hadamard.specs.Mix.{mix_at, mixed}
use Rattle.hadamard.specs.Rows.{column, mixed_row, mixed_rows, OneSample, judged_rows, rows_mixed}
use Rattle.hadamard.proofs.Joined.{joined_ext, joined_length, each_length, each_at}
use Rattle.hadamard.proofs.Columns.{one_column}

-- ---- lengths

pub mixed-length : (n : ℕ) (k : Float) (xs : List Float) → length (mixed n k xs) ≡ n
unfolding mixed
mixed-length n k xs = each_length n (λ r. mix_at k r xs)

pub mixed_at_lem : (n : ℕ) (k : Float) (xs : List Float) (r : ℕ) → r < n → get_or (mixed n k xs) r nan ≡ mix_at k r xs
unfolding mixed
mixed_at_lem n k xs r h = each_at n (λ r. mix_at k r xs) r nan h

module _ (n f : ℕ) (k : Float) (reads : List Float) where
  pub row-length : (r : ℕ) → length (mixed_row n f k reads r) ≡ f
  unfolding mixed_row
  row-length r = each_length f (λ t. mix_at k r (column n f t reads))

  pub rows_length : length (mixed_rows n f k reads) ≡ n * f
  unfolding mixed_rows
  rows_length = joined_length n f (mixed_row n f k reads) row-length

-- ---- rows of one sample: the mix of rows is the mix of the sample

pub one_sample : OneSample
unfolding mixed mixed_row mixed_rows
one_sample n k xs e = rw (← e) (joined_ext (length xs) _ _ (λ r h. ap (λ (c : List Float). mix_at k r c ∷ []) (one_column xs)))

-- ---- what is answered, by the lengths

-- n rows twice are all there is, but for the remainder
twice : (n len : ℕ) → n * (len / (2 * n)) + n * (len / (2 * n)) + len % (2 * n) ≡ len
twice n len = omega (arith, div-add-mod len (2 * n), mul_assoc 2 n (len / (2 * n)))

no_rest : (a x len : ℕ) → a + x ≡ len → eqb a len ≡ eqb x 0
no_rest a zero len e = eq-eqb a len (omega arith)
no_rest a (suc x) len e = ne_eqb a len (λ q. omega arith) ∙ sym (ne_eqb (suc x) 0 (λ q. omega arith))

module _ (n len : ℕ) {f : ℕ} (e : f ≡ len / (2 * n)) where
  pub judged_is : need (eqb (n * f + n * f) len) (Err BadLength) Accepted ≡ judged_rows n len
  unfolding judged_rows
  judged_is = rw (e, no_rest _ _ len (twice n len))

-- ---- a caller that lends n rows of f, and room for n more, is accepted and gets the mixed rows there

module _ (n f : ℕ) where
  doubled : n * f + n * f ≡ 2 * n * f
  doubled = omega (arith, mul_assoc 2 n f)

  pub rows_accepted : (len : ℕ) → len ≡ n * f + n * f → judged_rows n len ≡ Accepted
  unfolding judged_rows
  rows_accepted len e = rw (e, doubled, mul-mod_right (2 * n) f)

  pub rows_mixed_lem : (k : Float) (w : List Float) → 0 < n → length w ≡ n * f + n * f
      → rows_mixed n k w ≡ take (n * f) w ++ mixed_rows n f k (take (n * f) w)
  unfolding rows_mixed
  rows_mixed_lem k w h e = let two : 0 < 2 * n = omega arith in rw (e, doubled, mul-div_right f two) refl

  pub rows_joined : (k : Float) (reads old : List Float) → 0 < n → length reads ≡ n * f → length old ≡ n * f
      → rows_mixed n k (reads ++ old) ≡ reads ++ mixed_rows n f k reads
  rows_joined k reads old h lr lo =
      rows_mixed_lem k (reads ++ old) h (omega (arith, length-append reads old)) ∙ rw (take_at reads old (n * f) lr)
