-- How many frames a tail lasts: step 6 of an apply (R6.1 to R6.6).
use Rattle.std.specs.Prelude.{◌≡◌, ℕ, zero, suc, ◌+◌, ◌-◌, ◌*◌, ◌/◌, ◌^◌, ◌≤◌, min, true, false, cond, ◌&&◌, ℤ, pos, negsuc, Float, Err}
use Rattle.std.specs.Float.{nan, inf, fin, binary32}
use Rattle.std.specs.Float.Ieee.{up, down, eq, of_int}
use Rattle.std.specs.Float.Ieee.Exact.{HasValue}
use Rattle.samples.specs.declared.Refusal.TheVariants.{BadSize, BadTime}
use Rattle.samples.specs.Answers.{Answer, Accepted, need, accept}
use Rattle.samples.specs.Binary32.{+0, ◌⊗◌, ◌⊘◌}
use Rattle.samples.specs.Sizes.{rate_ok, frame_ok}
use Rattle.bands.specs.declared.Times.{Times}
use Rattle.bands.specs.Times.{times_ok, largest}

-- R6.3: the least whole number that is not below x, for a finite x that is not below 0
unfoldable pub ceiling : Float → ℕ
ceiling nan = 0
ceiling (inf s) = 0
ceiling (fin s m e) = cond s 0 ((m * up e + (down e - 1)) / down e)

-- R6.2: a time in frames, its product and quotient rounded
abbrev pub frames_in : Float → ℕ → ℕ → Float
frames_in time rate frame = time ⊗ of_int binary32 (pos rate) ⊘ of_int binary32 (pos frame)

-- R6.4: the count
abbrev pub tail_count : Times → ℕ → ℕ → ℕ
tail_count t rate frame = 2 * ceiling (frames_in (largest t) rate frame)

-- R6.6: 2, then 6
abbrev pub judged_tail_count : Times → ℕ → ℕ → Answer
judged_tail_count t rate frame = need (rate_ok rate && frame_ok frame) (Err BadSize) (need (times_ok t) (Err BadTime) Accepted)

-- R6.6: the count that is given, and 0 by a refused call
abbrev pub count_of : Times → ℕ → ℕ → ℕ
count_of t rate frame = accept (judged_tail_count t rate frame) (tail_count t rate frame) 0

-- R6.4: the range of the count, after every call
abbrev pub CountRange : Type 0
CountRange = (t : Times) (rate frame : ℕ) → count_of t rate frame ≤ 9600000

-- R6.5: a largest time of 0, with either sign, counts 0 whatever rate and frame are
abbrev pub NoTail : Type 0
NoTail = (t : Times) (rate frame : ℕ) → eq +0 (largest t) ≡ true → count_of t rate frame ≡ 0

-- R6.2: rate and F as floats are exact, as every whole number up to 2^24 is
abbrev pub WholeExact : Type 0
WholeExact = (n : ℕ) → n ≤ 2 ^ 24 → HasValue (of_int binary32 (pos n)) false n 1

-- R4.13: the count of a tail, one less unless it is the least that there is
abbrev pub fallen : ℤ → ℤ
fallen (pos zero) = negsuc zero
fallen (pos (suc n)) = pos n
fallen (negsuc n) = negsuc (min (suc n) 2147483647)
