-- The two ways on from a test: what is left where it is refused, and where it is passed. Assumes nothing.
use mathlib.Core.Path.{◌≡◌}
use mathlib.Core.Bool.{Bool, true, false, not, cond}
use borrow.Author.Tests.{not-true, not-false}

pub when_not : {A : Type 0} (ok : Bool) (r new old : A) → not ok ≡ true → r ≡ old → r ≡ cond ok new old
when_not ok r new old h e = rw (not-true ok h) e

pub when : {A : Type 0} (ok : Bool) (r new old : A) → not ok ≡ false → r ≡ new → r ≡ cond ok new old
when ok r new old h e = rw (not-false ok h) e
