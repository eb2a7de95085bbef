-- The two ways on from a test. Assumes nothing.
use borrow.Author.Tests.{le-leb, not-true, not-false}
use mathlib.Core.Path.{◌≡◌, refl, sym, ◌∙◌}
use mathlib.Core.Bool.{Bool, true, false, not, cond}
use Prim.Native.Nat.{ℕ, ◌≤◌}
use lib.Dec.{leb}

-- `ok` is the test that was made, and `room` what it tells
module _ (ok room : Bool) (e : ok ≡ room) where
  pub shut : not ok ≡ true → room ≡ false
  shut h = sym e ∙ not-true ok h

  pub let_in : not ok ≡ false → room ≡ true
  let_in h = sym e ∙ not-false ok h

-- what is done of a k up to b was done
pub done_within : {A : Type 0} (k b : ℕ) {x y : A} (z : A) → x ≡ cond (leb k b) y z → k ≤ b → x ≡ y
done_within k b z e h = e ∙ rw (le-leb k b h) refl
