-- The ring's laws. On the view, the ring as it lies from the cursor on, a turn takes n samples off the front and joins the n that are put to
-- the end. Assumes nothing.
use Rattle.std.specs.Prelude.{Err}
use borrow.Author.Tests.{lt-ltb, le-ltb, leb-true}
use native.Mathlib.Omega.{arith}
use mathlib.Core.Path.{◌≡◌, refl, ap, ◌∙◌}
use mathlib.Core.Bool.{cond}
use mathlib.Core.List.{List, [], ◌∷◌, ◌++◌, flatten}
use mathlib.Core.Logic.{⊎_elim}
use Prim.Native.Nat.{ℕ, ◌+◌, ◌-◌, ◌≤◌, ◌<◌}
use lib.Dec.{ltb}
use lib.Ieee.{Float, nan}
use lib.ListN.{length, get_or, take, replicate, length-append, length-replicate, get_or-replicate, get_or-append}
use lib.Seq.{get_or-append-add, get_or-take}
use Rattle.samples.specs.Binary32.{+0}
use Rattle.samples.specs.Answers.{Answer, Accepted, accept}
use Rattle.samples.specs.declared.Samples.{Samples}
use Rattle.samples.specs.declared.Refusal.TheVariants.{BadLength}
use Rattle.samples.proofs.Laws.{needed, split_and, accept_no, accept_either}
use Rattle.samples.proofs.Turns.{lt_or_ge}
use Rattle.delay.specs.declared.Cursors.{Cursors}
use Rattle.delay.specs.declared.RingAnswer.{RingAnswer}
use Rattle.delay.specs.Ring.{rotl, wrap, read, write, ahead}
use Rattle.delay.specs.Calls.{length_ok, judged_count, judged_ring, both, read_to, write_to}
use Rattle.delay.specs.RingLaw.{Get, get_n, get4, Put, put_n, put4, Turn, get_size, put_samples, Each, gotten, after_get, ring_after, after_put, gets, all_put, RingLaw, RingSample, CursorBelow, Equal, CursorsStayEqual}
use Rattle.delay.proofs.Views.{wrap_less, ahead_less, length-rotl, rotl_same, length-write, turn_view, take_on}
use Rattle.delay.proofs.Laws.{Ready, Moves, judged_ok, ok_judged, count_ok_lem, ok_count, ready_read, fresh_ok, reset_ok, get_ok, put_ok, get4_ok, put4_ok}

-- ---- a get of n samples and one of four, and so with a put, do the same on a ring that has as many

got_ok : (ring : List Float) (c : Cursors) (g : Get) → Moves (length ring) c (get_size g)
    → (after_get ring c g ≡ read_to c (wrap (length ring) (c.read.0 + get_size g))) × (gotten ring c g ≡ take (get_size g) (rotl c.read.0 ring))
unfolding read
got_ok ring c (get_n out) m = let e = get_ok ring out c m in (ap (λ (r : RingAnswer). r.cursors) e.0, e.1)
got_ok ring c get4 m = let e = get4_ok ring c m.ready m.fits in (e.1, e.2)

put_in : (ring : List Float) (c : Cursors) (p : Put) → Moves (length ring) c (length (put_samples p))
    → (after_put (length ring) c p ≡ write_to c (wrap (length ring) (c.write.0 + length (put_samples p))))
    × (ring_after ring c p ≡ write ring c.write.0 (put_samples p))
put_in ring c (put_n xs) m = let e = put_ok ring xs c m in (ap (λ (r : RingAnswer). r.cursors) e.0, e.1)
put_in ring c (put4 x) m = let e = put4_ok ring c x m.ready m.fits in (ap (λ (r : RingAnswer). r.cursors) e.0, e.1)

-- from any ring, with the cursors equal: the invariant of the turns
gets_view : (ring : List Float) (k : ℕ) (ts : List Turn) → length ring ≤ 65536 → k < length ring → Each (length ring) ts
    → flatten (gets ring (both k) ts) ≡ take (length (all_put ts)) (rotl k ring ++ all_put ts)
unfolding gets flatten
gets_view ring k [] s h each = refl
gets_view ring k (t ∷ ts) s h each =
    let l : ℕ = length ring in
    let xs : List Float = put_samples t.put in
    let n : ℕ = length xs in
    let k' : ℕ = wrap l (k + n) in
    let b : k' < l = wrap_less l (k + n) (omega (arith, each.2)) in
    let ring' : List Float = write ring k xs in
    let lr : length ring' ≡ l = length-write ring xs k each.2 in
    let r : Ready l (both k) = record { some = omega arith; small = s; reads = h; writes = h } in
    let g = rw each.0 at (got_ok ring (both k) t.get (rw each.0 (record { ready = r; some = each.1; fits = each.2 }))) in
    let p = put_in ring (read_to (both k) k') t.put (record { ready = ready_read r b; some = each.1; fits = each.2 }) in
    let later : flatten (gets ring' (both k') ts) ≡ take (length (all_put ts)) (rotl k' ring' ++ all_put ts) = gets_view ring' k' ts (omega arith) (omega arith) (rw lr each.3) in
    let lv : n ≤ length (rotl k ring) = simp length-rotl each.2 in
    rw (g.0, g.1, p.0, p.1, later, turn_view ring xs k h each.2, length-append) (take_on (rotl k ring) xs (all_put ts) (length (all_put ts)) lv)

-- from a silent one
from_zeros : (l k : ℕ) (ts : List Turn) → l ≤ 65536 → k < l → Each l ts
    → flatten (gets (replicate l +0) (both k) ts) ≡ take (length (all_put ts)) (replicate l +0 ++ all_put ts)
from_zeros l k ts s h each =
    let lr : length (replicate l +0) ≡ l = length-replicate l +0 in
    gets_view (replicate l +0) k ts (omega arith) (omega arith) (rw lr each) ∙ rw (rotl_same l k +0 (omega arith)) refl

pub ring_law : RingLaw
ring_law ring ts h s each = (
  rw (fresh_ok ring h s).1 (from_zeros (length ring) 0 ts s (omega arith) each),
  λ c q b.
      let same : both c.read.0 ≡ c = λ i. record { read = c.read; write = q i } in
      let r : Ready (length ring) c = record { some = h; small = s; reads = b.0; writes = b.1 } in
      rw ((reset_ok ring c r).1, ← same) (from_zeros (length ring) c.read.0 ts s b.0 each),
)

-- sample t of what is got
delayed : (l t : ℕ) (xs out : List Float) → out ≡ take (length xs) (replicate l +0 ++ xs) → t < length xs
    → get_or out t nan ≡ cond (ltb t l) +0 (get_or xs (t - l) nan)
delayed l t xs out e b =
    rw (e, get_or-take (length xs) (replicate l +0 ++ xs) t nan b)
    (⊎_elim
    (λ (a : t < l).
    let c : t < length (replicate l +0) = simp length-replicate a in
    rw (lt-ltb t l, get_or-append (replicate l +0) xs nan t c) (get_or-replicate l t +0 nan a))
    (λ (a : l ≤ t).
    let f : t ≡ length (replicate l +0) + (t - l) = simp length-replicate (omega arith) in
    rw (le-ltb t l) (ap (λ (m : ℕ). get_or (replicate l +0 ++ xs) m nan) f ∙ get_or-append-add (replicate l +0) xs (t - l) nan))
    (lt_or_ge t l))

pub ring_sample : RingSample
ring_sample ring ts h s each =
    let all = ring_law ring ts h s each in
    (λ t b. delayed (length ring) t (all_put ts) _ all.0 b, λ c q k t b. delayed (length ring) t (all_put ts) _ (all.1 c q k) b)

pub cursor_below : CursorBelow
unfolding length_ok
cursor_below = record {
  fresh = λ l e. let b = leb-true 1 l (split_and _ _ (needed _ (Err BadLength) Accepted refl e).0).0 in (b, b);
  reset = λ l c e. let r = judged_ok l c e in (r.reads, r.writes);
  get = λ l c n e. let m = count_ok_lem l c n e in rw e (wrap_less l (c.read.0 + n) (omega (arith, m.ready)), m.ready.writes);
  put = λ l c n e. let m = count_ok_lem l c n e in rw e (m.ready.reads, wrap_less l (c.write.0 + n) (omega (arith, m.ready)));
  get4 = λ ring c e. let r = judged_ok (length ring) c e in rw e (ahead_less (length ring) c.read.0 4 r.reads, r.writes);
  put4 = λ l c e. let r = judged_ok l c e in rw e (r.reads, ahead_less l c.write.0 4 r.writes);
}

-- a get and a put that are judged alike and move alike leave equal cursors equal
together : (judged : Cursors → Answer) (f : ℕ → ℕ) (c : Cursors) → Equal c
    → (judged c ≡ Accepted → judged (read_to c (f c.read.0)) ≡ Accepted)
    → let r = accept (judged c) (read_to c (f c.read.0)) c in
    Equal (accept (judged r) (write_to r (f r.write.0)) r)
together judged f c q again =
    accept_either (λ (r : Cursors). Equal (accept (judged r) (write_to r (f r.write.0)) r)) (judged c)
    (λ e. rw (again e) (ap (λ (x : Samples). record { 0 = f x.0 }) q))
    (λ e. rw (accept_no (judged c) (write_to c (f c.write.0)) c e) q)

pub cursors_stay_equal : CursorsStayEqual
cursors_stay_equal = record {
  turn = λ l c n q. together (λ x. judged_count l x n) (λ k. wrap l (k + n)) c q
      (λ e. let m = count_ok_lem l c n e in
      ok_count l _ n (record { ready = ready_read m.ready (wrap_less l (c.read.0 + n) (omega (arith, m.ready))); some = m.some; fits = m.fits }));
  turn4 = λ ring c q. together (judged_ring (length ring)) (ahead (length ring) 4) c q
      (λ e. let r = judged_ok (length ring) c e in ok_judged (length ring) _ (ready_read r (ahead_less (length ring) c.read.0 4 r.reads)));
}
