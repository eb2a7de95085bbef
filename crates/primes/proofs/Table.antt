-- The rules of the tables, each a test that is computed over the whole table once. Assumes nothing.
use Rattle.std.proofs.Common.{◌≡◌, ℕ, zero, suc, ◌+◌, ◌-◌, ◌%◌, ◌<◌, ◌≤◌, Bool, true, not, ◌&&◌, eqb, leb, sym, refl, ap, ◌∙◌, inl, inr, true≢false, le_of_suc-le-suc, not-suc-le-zero, mod-lt, eq-or-lt_of_le, arith, eq-eqb, leb-true}
use Rattle.samples.specs.Lists.{all_from}
use Rattle.samples.proofs.Laws.{split_and, all_at}
use Rattle.primes.specs.Table.{primes_len, primes, prime_at, delays, delay_at, Prime, none, passes, TableIsPrimes}

-- what `none` found of no number below k holds of none
pub none_at : (f : ℕ → Bool) (k j : ℕ) → none f k ≡ true → j < k → f j ≡ true → ⊥
none_at f zero j e h t = not-suc-le-zero h
none_at f (suc k) j e h t =
    let p = split_and (not (f k)) (none f k) e in
    elim (eq-or-lt_of_le (le_of_suc-le-suc h)) [
      | inl q ↦ true≢false (sym p.0 ∙ ap not (sym (ap f q) ∙ t))
      | inr l ↦ none_at f k j p.1 l t
    ]

-- a test that every entry of the table passes
pub at : (p : ℕ → Bool) → all_from (λ k x. p x) 0 primes ≡ true → (i : ℕ) → i < primes_len → p (prime_at i) ≡ true
at p e i h = all_at (λ k x. p x) primes 0 i 0 h e

pub prime_range : (i : ℕ) → i < primes_len → (2 ≤ prime_at i) × (prime_at i ≤ 53)
prime_range i h = let p = split_and _ _ (at (λ n. leb 2 n && leb n 53) refl i h) in (leb-true _ _ p.0, leb-true _ _ p.1)

back : (d : ℕ) → 2 ≤ d → d - 2 + 2 ≡ d
back d h = omega arith

prime_of : (n : ℕ) → 2 ≤ n → passes n ≡ true → Prime n
prime_of n h e = record {
  above_one = h;
  undivided = λ d lo hi z. none_at (λ k. eqb (n % (k + 2)) 0) (n - 2) (d - 2) e (omega arith) (eq-eqb _ 0 (ap (λ (m : ℕ). n % m) (back d lo) ∙ z));
}

pub table_is_primes : TableIsPrimes
table_is_primes = (refl, λ i h. prime_of (prime_at i) (prime_range i h).0 (at passes refl i h))

pub delay_range : (line : ℕ) → (225 ≤ delay_at line) × (delay_at line ≤ 556)
delay_range line =
    let p = split_and _ _ (all_at (λ k x. leb 225 x && leb x 556) delays 0 (line % 4) 0 (mod-lt line (omega arith)) refl) in
    (leb-true _ _ p.0, leb-true _ _ p.1)
