-- A frame of input is refused by its first sample that is not finite, and which patterns those are. Assumes nothing.
use mathlib.Core.Path.{◌≡◌, refl, ap, ◌∙◌}
use mathlib.Core.Bool.{Bool, true, false, not, ◌&&◌, cond}
use mathlib.Core.List.{List}
use mathlib.Core.Logic.{⊎_elim}
use Prim.Native.Nat.{ℕ, zero, suc, ◌+◌, ◌/◌, ◌%◌, ◌<◌, ◌≤◌}
use native.Mathlib.Omega.{arith}
use lib.Dec.{ltb, leb, eqb}
use lib.Ieee.{Float, nan, inf, binary32, prec, low, hid, odd, of_fields, of_bits, le}
use borrow.Author.Tests.{lt-ltb, le-ltb, eq-eqb, ne_eqb}
use Rattle.samples.specs.Answers.{Answer, Accepted, or_else}
use Rattle.samples.specs.Binary32.{finite}
use Rattle.search.specs.Search.{first_bad, all_finite}
use Rattle.samples.proofs.Turns.{lt_or_ge}
use Rattle.bands.specs.Times.{time_ok, times_ok}
use Rattle.unit.specs.UnitState.{UnitState}
use Rattle.unit.specs.Layout.{wall}
use Rattle.unit.specs.Room.{lent_ok}
use Rattle.judges.specs.Judges.{judged, given_ok, bad_input, judged_given}
use Rattle.shell.specs.Settings.{frame, store_floats, work_floats, times, line_gains, coefficients}
use Rattle.shell.specs.Frames.{heard, input_due}
use Rattle.shell.specs.Refused.{Patterns}

times_fit : times_ok times ≡ true
unfolding time_ok le of_bits
times_fit = refl

coefficients-finite : all_finite coefficients ≡ true
unfolding coefficients line_gains finite of_bits
coefficients-finite = refl

-- what is due of an apply before its times, coefficients and input are looked at: 1 3 5
abbrev pub ready_due : UnitState → Answer
ready_due u = judged wall u (given_ok wall u 255 frame && lent_ok wall u store_floats work_floats frame) true (not u.held.busy)

pub eight : (u : UnitState) (bytes : List ℕ) → ready_due u ≡ Accepted → input_due u bytes ≡ bad_input (first_bad (heard bytes))
unfolding judged_given coefficients line_gains
eight u bytes h = ap (λ a. or_else a (judged_given times coefficients (heard bytes))) h ∙ rw (times_fit, coefficients-finite)

-- an exponent's field of ones alone is no number's
odd_finite : (d : ℕ) (s : Bool) (q k l : ℕ) → finite (odd d s q k l) ≡ true
unfolding odd finite
odd_finite d s zero k l = refl
odd_finite d s (suc q) k l = refl

no_number : (b c : Bool) (s : Bool) (x : Float) → finite x ≡ true → finite (cond b (cond c (inf s) nan) x) ≡ not b
unfolding finite
no_number true true s x e = refl
no_number true false s x e = refl
no_number false c s x e = e

fields : (s : Bool) (x t : ℕ) → finite (of_fields binary32 s x t) ≡ not (eqb x 255)
unfolding of_fields
fields s zero t = odd_finite (prec binary32) s t 0 (low binary32)
fields s (suc x) t = no_number (eqb (suc x) 255) (eqb t 0) s _ (odd_finite (prec binary32) s (hid binary32 + t) x (low binary32))

by_field : (m : ℕ) → m < 2147483648 → not (eqb (m / 8388608) 255) ≡ ltb m 2139095040
by_field m h =
    ⊎_elim
    (λ (k : m < 2139095040). let e = ne_eqb (m / 8388608) 255 (λ q. omega arith) in let l = lt-ltb m 2139095040 k in rw (e, l))
    (λ (k : 2139095040 ≤ m). let e = eq-eqb (m / 8388608) 255 (omega arith) in let l = le-ltb m 2139095040 k in rw (e, l))
    (lt_or_ge m 2139095040)

pub patterns : Patterns
unfolding of_bits
patterns n = fields (leb 2147483648 n) (n % 2147483648 / 8388608) (n % 8388608) ∙ by_field (n % 2147483648) (omega arith)
