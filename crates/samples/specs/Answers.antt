-- What a call answers: its number, and how a judgement is put together from tests (R2.1 to R2.19).
use Rattle.std.specs.Prelude.{Bool, true, false, ℕ, Result, Ok, Err}
use Rattle.samples.specs.declared.Refusal.{Refusal}
use Rattle.samples.specs.declared.Refusal.TheVariants.{BadState, BadSize, BadLength, BadIndex, OutOfTurn, BadTime, BadCoefficient, BadSample, NotFinite}

-- R2.10: a call is accepted, or refused with a reason
abbrev pub Answer : Type 0
Answer = Result (Unit {0}) Refusal

abbrev pub Accepted : Answer
Accepted = Ok tt

-- R2.1, R2.10 to R2.19: the number of each answer
abbrev pub number_of : Answer → ℕ
number_of (Ok done) = 0
number_of (Err BadState) = 1
number_of (Err BadSize) = 2
number_of (Err BadLength) = 3
number_of (Err BadIndex) = 4
number_of (Err OutOfTurn) = 5
number_of (Err BadTime) = 6
number_of (Err BadCoefficient) = 7
number_of (Err (BadSample i)) = 8
number_of (Err NotFinite) = 9

-- R2.9: the position that comes with 8, and 0 with any other
abbrev pub index_of : Answer → ℕ
index_of (Ok done) = 0
index_of (Err BadState) = 0
index_of (Err BadSize) = 0
index_of (Err BadLength) = 0
index_of (Err BadIndex) = 0
index_of (Err OutOfTurn) = 0
index_of (Err BadTime) = 0
index_of (Err BadCoefficient) = 0
index_of (Err (BadSample i)) = i
index_of (Err NotFinite) = 0

-- `new` where the call is accepted and `old` where it is refused, as R8.4 asks
abbrev pub accept : {T A : Type 0} → Result T Refusal → A → A → A
accept (Ok given) new old = new
accept (Err bad) new old = old

-- R2.10: whether a call is accepted
abbrev pub accepted : {T : Type 0} → Result T Refusal → Bool
accepted a = accept a true false

-- what an accepted call gives, and of a refused one its refusal
abbrev pub with_value : {A : Type 0} → Answer → A → Result A Refusal
with_value (Ok done) x = Ok x
with_value (Err bad) x = Err bad

-- the answer `bad` where a test fails, else what the later tests say. R2.2: the least number stands outermost
abbrev pub need : {A : Type 0} → Bool → A → A → A
need true bad rest = rest
need false bad rest = bad

-- a refusal, or what a later judgement says
abbrev pub or_else : Answer → Answer → Answer
or_else a b = accept a b a
