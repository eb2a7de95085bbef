-- The ring's laws: what holds of every ring alone, whatever its length and however it is used (R3.19, R3.20, R8.30).
use Rattle.std.specs.Prelude.{◌≡◌, cond, ℕ, ◌-◌, ◌≤◌, ◌<◌, ltb, Float, length, get_or, take, replicate}
use mathlib.Core.List.{List, [], ◌∷◌, ◌++◌, flatten, map}
use Rattle.std.specs.Float.{nan}
use Rattle.samples.specs.Binary32.{+0}
use Rattle.samples.specs.Answers.{Accepted}
use Rattle.delay.specs.declared.Cursors.{Cursors}
use Rattle.delay.specs.declared.Four.{Four}
use Rattle.delay.specs.Ring.{list_of}
use Rattle.delay.specs.Calls.{longest_ring, fresh_answer, fresh_ring, reset_answer, reset_ring, get_answer, get_out, put_answer, put_ring, get4_answer, put4_answer, put4_ring}

-- ---- cursors

-- both cursors are within a ring of length l
abbrev pub Below : ℕ → Cursors → Type 0
Below l c = (c.read.0 < l) × (c.write.0 < l)

-- R3.20: both are, after any call that is accepted
pub record CursorBelow : Type 0 where
  pub fresh : (l : ℕ) → (fresh_answer l).answer ≡ Accepted → Below l (fresh_answer l).cursors
  pub reset : (l : ℕ) (c : Cursors) → (reset_answer l c).answer ≡ Accepted → Below l (reset_answer l c).cursors
  pub get : (l : ℕ) (c : Cursors) (n : ℕ) → (get_answer l c n).answer ≡ Accepted → Below l (get_answer l c n).cursors
  pub put : (l : ℕ) (c : Cursors) (n : ℕ) → (put_answer l c n).answer ≡ Accepted → Below l (put_answer l c n).cursors
  pub get4 : (ring : List Float) (c : Cursors) → (get4_answer ring c).answer ≡ Accepted → Below (length ring) (get4_answer ring c).cursors
  pub put4 : (l : ℕ) (c : Cursors) → (put4_answer l c).answer ≡ Accepted → Below l (put4_answer l c).cursors

-- the two cursors are equal
abbrev pub Equal : Cursors → Type 0
Equal c = c.read ≡ c.write

-- R3.20: cursors equal before a turn are equal after it, accepted or not
pub record CursorsStayEqual : Type 0 where
  pub turn : (l : ℕ) (c : Cursors) (n : ℕ) → Equal c → Equal (put_answer l (get_answer l c n).cursors n).cursors
  pub turn4 : (ring : List Float) (c : Cursors) → Equal c → Equal (put4_answer (length ring) (get4_answer ring c).cursors).cursors

-- ---- turns

-- how a turn gets: `get` of as many samples as the slice lent to it takes, whatever that holds, or `get4`
pub data Get : Type 0 where
  get_n : List Float → Get
  get4 : Get

-- how it puts: `put` of samples in a slice, or `put4`
pub data Put : Type 0 where
  put_n : List Float → Put
  put4 : Four → Put

-- a turn, a get and then a put of the same n
pub record Turn : Type 0 where
  pub get : Get
  pub put : Put

-- how many samples it gets, and those that it puts
abbrev pub get_size : Get → ℕ
get_size (get_n out) = length out
get_size get4 = 4

abbrev pub put_samples : Put → List Float
put_samples (put_n xs) = xs
put_samples (put4 x) = list_of x

-- each turn has an n of its own, from 1 to l, and one with a `get4` or a `put4` has n = 4
abbrev pub Each : ℕ → List Turn → Type 0
Each l [] = Unit {0}
Each l (t ∷ ts) = (get_size t.get ≡ length (put_samples t.put)) × (1 ≤ length (put_samples t.put)) × (length (put_samples t.put) ≤ l) × Each l ts

-- what a get hands out, and the cursors that it gives
abbrev pub gotten : List Float → Cursors → Get → List Float
gotten ring c (get_n out) = get_out ring c out
gotten ring c get4 = list_of (get4_answer ring c).x

abbrev pub after_get : List Float → Cursors → Get → Cursors
after_get ring c (get_n out) = (get_answer (length ring) c (length out)).cursors
after_get ring c get4 = (get4_answer ring c).cursors

-- the ring that a put leaves, and the cursors that it gives
abbrev pub ring_after : List Float → Cursors → Put → List Float
ring_after ring c (put_n xs) = put_ring ring c xs
ring_after ring c (put4 x) = put4_ring ring c x

abbrev pub after_put : ℕ → Cursors → Put → Cursors
after_put l c (put_n xs) = (put_answer l c (length xs)).cursors
after_put l c (put4 x) = (put4_answer l c).cursors

-- what each turn's get hands out, from a ring and its cursors on; its put goes on from the cursors that get gave
unfoldable pub gets : List Float → Cursors → List Turn → List (List Float)
gets ring c [] = []
gets ring c (t ∷ ts) =
    let c₁ = after_get ring c t.get in
    gotten ring c t.get ∷ gets (ring_after ring c₁ t.put) (after_put (length ring) c₁ t.put) ts

-- all samples put, in order
abbrev pub all_put : List Turn → List Float
all_put ts = flatten (map (λ t. put_samples t.put) ts)

-- from a fresh, or from a reset while the cursors are equal: P holds of L, all samples put and all samples got
abbrev pub FromSilence : (ℕ → List Float → List Float → Type 0) → Type 0
FromSilence P =
    (ring : List Float) (ts : List Turn) → 1 ≤ length ring → length ring ≤ longest_ring → Each (length ring) ts
    → P (length ring) (all_put ts) (flatten (gets (fresh_ring ring) (fresh_answer (length ring)).cursors ts))
    × ((c : Cursors) → Equal c → Below (length ring) c
    → P (length ring) (all_put ts) (flatten (gets (reset_ring ring c) (reset_answer (length ring) c).cursors ts)))

-- R3.19: all that is got is the front of L times +0 followed by all that is put
abbrev pub RingLaw : Type 0
RingLaw = FromSilence (λ l puts got. got ≡ take (length puts) (replicate l +0 ++ puts))

-- R3.19: the same of each sample got
abbrev pub RingSample : Type 0
RingSample = FromSilence (λ l puts got. (t : ℕ) → t < length puts → get_or got t nan ≡ cond (ltb t l) +0 (get_or puts (t - l) nan))
