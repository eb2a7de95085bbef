-- Lists that are joined: that they are equal, how long they are, and what stands in them. Assumes nothing.
use mathlib.Core.Path.{◌≡◌, refl, sym, ◌∙◌}
use mathlib.Core.Logic.{⊎_elim}
use mathlib.Core.List.{List, [], ◌∷◌}
use Prim.Native.Nat.{ℕ, zero, suc, ◌*◌, ◌≤◌, ◌<◌}
use native.Mathlib.Nat.{suc-mul, zero-mul, mul-one, not-suc-le-zero}
use native.Mathlib.Omega.{arith}
use lib.ListN.{length, get_or, length-append, get_or-append}
use lib.Seq.{get_or_at}
use Rattle.samples.proofs.Turns.{lt_or_ge}
use Rattle.hadamard.specs.Mix.{joined, each}

module _ {A : Type 0} where
  pub joined_ext : (n : ℕ) (g h : ℕ → List A) → ((i : ℕ) → i < n → g i ≡ h i) → joined n g ≡ joined n h
  joined_ext zero g h e = refl
  joined_ext (suc n) g h e =
      let before = joined_ext n g h (λ i l. e i (omega arith)) in
      let last = e n (omega arith) in
      cc

  pub joined_length : (n f : ℕ) (g : ℕ → List A) → ((i : ℕ) → length (g i) ≡ f) → length (joined n g) ≡ n * f
  joined_length zero f g e = sym (zero-mul f)
  joined_length (suc n) f g e = simp length-append (omega (arith, suc-mul n f, joined_length n f g e, e n))

  pub each_length : (n : ℕ) (g : ℕ → A) → length (each n g) ≡ n
  each_length n g = joined_length n 1 (λ i. g i ∷ []) (λ i. refl) ∙ mul-one n

  pub each_at : (n : ℕ) (g : ℕ → A) (i : ℕ) (z : A) → i < n → get_or (each n g) i z ≡ g i
  each_at zero g i z h = absurd (not-suc-le-zero h)
  each_at (suc n) g i z h =
      let long = each_length n g in
      ⊎_elim
      (λ (l : i < n). get_or-append (each n g) (g n ∷ []) z i (omega arith) ∙ each_at n g i z l)
      (λ (l : n ≤ i). let e : i ≡ n = omega arith in rw e (get_or_at (each n g) (g n) [] z n long))
      (lt_or_ge i n)
