-- The six calls of a ring alone: what each answers and what it leaves of the memory lent.
use Rattle.std.specs.Prelude.{Bool, ◌&&◌, List, ℕ, ◌+◌, leb, ltb, Float, length, replicate, Err}
use Rattle.samples.specs.Binary32.{+0}
use Rattle.samples.specs.Answers.{Answer, Accepted, need, accept}
use Rattle.samples.specs.declared.Refusal.TheVariants.{BadState, BadLength, BadIndex}
use Rattle.delay.specs.declared.Cursors.{Cursors}
use Rattle.delay.specs.declared.Four.{Four}
use Rattle.delay.specs.declared.RingAnswer.{RingAnswer}
use Rattle.delay.specs.declared.FourAnswer.{FourAnswer}
use Rattle.delay.specs.Ring.{wrap, read, write, ahead, read_each, write_each, list_of, four_of}

-- ---- what is judged

-- R1.4: the length of a ring on its own
abbrev pub longest_ring : ℕ
longest_ring = 65536

unfoldable pub length_ok : ℕ → Bool
length_ok l = leb 1 l && leb l longest_ring

-- R3.14: both cursors are within the ring, whichever of them the call moves
unfoldable pub cursors_ok : ℕ → Cursors → Bool
cursors_ok l c = ltb c.read.0 l && ltb c.write.0 l

-- R3.15: how many samples a get or put may move
unfoldable pub count_ok : ℕ → ℕ → Bool
count_ok l n = leb 1 n && leb n l

-- R3.13: 3 for the length
abbrev pub judged_length : ℕ → Answer
judged_length l = need (length_ok l) (Err BadLength) Accepted

-- R2.6, R3.13, R3.14: the length, then the cursors, then the rest
abbrev pub judged_ring_then : ℕ → Cursors → Answer → Answer
judged_ring_then l c rest = need (length_ok l) (Err BadLength) (need (cursors_ok l c) (Err BadState) rest)

-- a call with cursors
abbrev pub judged_ring : ℕ → Cursors → Answer
judged_ring l c = judged_ring_then l c Accepted

-- R3.15: a call with cursors that moves n samples
abbrev pub judged_count : ℕ → Cursors → ℕ → Answer
judged_count l c n = judged_ring_then l c (need (count_ok l n) (Err BadIndex) Accepted)

-- ---- cursors

-- both cursors at k; the read cursor set to k; the write cursor set to k
abbrev pub both : ℕ → Cursors
both k = record { read = record { 0 = k }; write = record { 0 = k } }

abbrev pub read_to : Cursors → ℕ → Cursors
read_to c k = record { read = record { 0 = k }; write = c.write }

abbrev pub write_to : Cursors → ℕ → Cursors
write_to c k = record { read = c.read; write = record { 0 = k } }

-- R3.16: the cursors `new` where the call is accepted, and those given where it is refused
abbrev pub answered : Answer → Cursors → Cursors → RingAnswer
answered a new old = record { answer = a; cursors = accept a new old }

-- ---- R3.17, R3.18: fresh and reset, after which the ring is all +0

abbrev pub silent : Answer → List Float → List Float
silent a ring = accept a (replicate (length ring) +0) ring

-- R3.17: both cursors begin at 0, and are so where the length is refused
abbrev pub fresh_answer : ℕ → RingAnswer
fresh_answer l = record { answer = judged_length l; cursors = both 0 }

abbrev pub fresh_ring : List Float → List Float
fresh_ring ring = silent (judged_length (length ring)) ring

-- R3.18: a reset leaves the cursors
abbrev pub reset_answer : ℕ → Cursors → RingAnswer
reset_answer l c = record { answer = judged_ring l c; cursors = c }

abbrev pub reset_ring : List Float → Cursors → List Float
reset_ring ring c = silent (judged_ring (length ring) c) ring

-- ---- R3.8, R3.9: get goes by the read cursor and put by the write cursor, equal or not.

abbrev pub get_answer : ℕ → Cursors → ℕ → RingAnswer
get_answer l c n = answered (judged_count l c n) (read_to c (wrap l (c.read.0 + n))) c

-- R3.10: n is the length of the slice lent
abbrev pub get_out : List Float → Cursors → List Float → List Float
get_out ring c out = accept (judged_count (length ring) c (length out)) (read ring c.read.0 (length out)) out

abbrev pub put_answer : ℕ → Cursors → ℕ → RingAnswer
put_answer l c n = answered (judged_count l c n) (write_to c (wrap l (c.write.0 + n))) c

abbrev pub put_ring : List Float → Cursors → List Float → List Float
put_ring ring c xs = accept (judged_count (length ring) c (length xs)) (write ring c.write.0 xs) ring

-- ---- R3.11, R3.12: get4 and put4, on a ring of any length

-- R2.36, R3.16: what a refused get4 hands out
abbrev pub zeros : Four
zeros = record { 0 = +0; 1 = +0; 2 = +0; 3 = +0 }

abbrev pub with_four : RingAnswer → Four → FourAnswer
with_four r x = record { answer = r.answer; cursors = r.cursors; x = accept r.answer x zeros }

abbrev pub get4_answer : List Float → Cursors → FourAnswer
get4_answer ring c =
    with_four (answered (judged_ring (length ring) c) (read_to c (ahead (length ring) 4 c.read.0)) c)
    (four_of (read_each ring c.read.0 4))

abbrev pub put4_answer : ℕ → Cursors → RingAnswer
put4_answer l c = answered (judged_ring l c) (write_to c (ahead l 4 c.write.0)) c

abbrev pub put4_ring : List Float → Cursors → Four → List Float
put4_ring ring c x = accept (judged_ring (length ring) c) (write_each ring c.write.0 (list_of x)) ring
