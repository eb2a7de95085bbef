-- Floats unpacked from bytes, k bytes each, whatever f makes a float of them: one that is whole, those behind the last whole one, and all of them
-- by groups of k bytes. Assumes nothing.
use native.Mathlib.Omega.{arith}
use mathlib.Core.Path.{◌≡◌, refl, sym, ap}
use mathlib.Core.List.{List, ◌∷◌}
use Prim.Native.Nat.{ℕ, zero, suc, ◌+◌, ◌-◌, ◌*◌, ◌≤◌, ◌<◌}
use native.Mathlib.Numerals.{unary_clauses}
use native.Mathlib.Nat.{sub-zero}
use lib.ListN.{length, take, drop, replicate, length-drop}
use lib.Ieee.{Float}
use borrow.Author.Tests.{le-leb, lt-leb}
use Rattle.samples.specs.Binary32.{+0}
use Rattle.std.specs.Simd.{first_chunks}
use Rattle.wire.specs.Wire.{value_of, first_of, unpacked, filled}

module _ (k : ℕ) (f : ℕ → Float) where
  -- all bytes of a float are there
  pub first_whole : (bytes : List ℕ) → k ≤ length bytes → first_of k f bytes ≡ f (value_of (take k bytes))
  unfolding first_of
  first_whole bytes h = rw (le-leb k (length bytes) h)

  -- behind the last whole one there is silence
  unpacked-none : (n : ℕ) (bytes : List ℕ) → length bytes < k → unpacked k f n bytes ≡ replicate n +0
  unfolding first_of
  unpacked-none zero bytes h = refl
  unpacked-none (suc n) bytes h =
      rw (lt-leb k (length bytes) h) (ap (λ (xs : List Float). +0 ∷ xs) (unpacked-none n (drop k bytes) (simp length-drop (omega arith))))

  -- q groups are whole: as many as there is room for make their floats, and behind them there is silence
  pub groups_unpacked : (n q : ℕ) (bytes : List ℕ) → q * k ≤ length bytes → length bytes < q * k + k
      → filled (λ group. f (value_of group)) n (first_chunks k q bytes) ≡ unpacked k f n bytes
  groups_unpacked zero q bytes h w = let none : 0 - length (first_chunks k q bytes) ≡ 0 = omega arith in rw none refl
  groups_unpacked (suc n) zero bytes h w = rw sub-zero (sym (unpacked-none (suc n) bytes (omega arith)))
  groups_unpacked (suc n) (suc q) bytes h w =
      let rest = groups_unpacked n q (drop k bytes) (simp length-drop (omega arith)) (simp length-drop (omega arith)) in
      simp unary_clauses (rw (first_whole bytes (omega arith)) (ap (λ (xs : List Float). f (value_of (take k bytes)) ∷ xs) rest))
