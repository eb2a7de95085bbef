-- The laws by which the crates above speak of a ring: those of its views, what a judgement tells, what an accepted call gives, and the
-- length that every put of four leaves. Assumes nothing.
use Rattle.std.specs.Prelude.{Err}
use borrow.Author.Tests.{lt-ltb, le-leb, leb-true, ltb-true}
use mathlib.Core.Path.{◌≡◌, refl, ap, ◌∙◌}
use mathlib.Core.List.{List}
use Prim.Native.Nat.{ℕ, ◌+◌, ◌≤◌, ◌<◌}
use lib.Ieee.{Float}
use lib.ListN.{length, take, replicate}
use Rattle.samples.specs.Binary32.{+0}
use Rattle.samples.specs.Answers.{Answer, Accepted}
use Rattle.samples.specs.declared.Refusal.TheVariants.{BadState, BadLength, BadIndex}
use Rattle.samples.proofs.Laws.{needed, split_and}
use Rattle.delay.specs.declared.Cursors.{Cursors}
use Rattle.delay.specs.declared.Four.{Four}
use Rattle.delay.specs.Ring.{rotl, wrap, read, write, read_each, list_of}
use Rattle.delay.specs.Calls.{length_ok, cursors_ok, count_ok, judged_length, judged_ring_then, judged_ring, judged_count, both, read_to, write_to}
use Rattle.delay.specs.Calls.{fresh_answer, fresh_ring, reset_answer, reset_ring, get_answer, get_out, put_answer, put_ring, get4_answer, put4_answer, put4_ring}
-- `demands` cites it from here
pub use Rattle.samples.proofs.Laws.{accept_either}
pub use Rattle.delay.proofs.Views.{wrap_lo, wrap_hi, wrap_less, ahead-wrap, ahead_less, ahead-add, wrap-mod, ahead-mod, length-rotl, rotl_at, rotl_same}
pub use Rattle.delay.proofs.Views.{read_view, length-read, length-write, turn_view, take_on, view_front, read_each_lem, length-write_each, write_each_lem, all_join, all_parts, all-rotl, all_read, all-write}

-- ---- judgements: what an accepted call's arguments are, and that such arguments are accepted

-- a ring of length l with cursors c, as every call but fresh takes it
pub record Ready (l : ℕ) (c : Cursors) : Type 0 where
  pub some : 1 ≤ l
  pub small : l ≤ 65536
  pub reads : c.read.0 < l
  pub writes : c.write.0 < l

-- the same, and n samples to move
pub record Moves (l : ℕ) (c : Cursors) (n : ℕ) : Type 0 where
  pub ready : Ready l c
  pub some : 1 ≤ n
  pub fits : n ≤ l

ready_of : (l : ℕ) (c : Cursors) (rest : Answer) → judged_ring_then l c rest ≡ Accepted → Ready l c × (rest ≡ Accepted)
unfolding length_ok cursors_ok
ready_of l c rest e =
    let p = needed _ (Err BadLength) _ refl e in
    let q = needed _ (Err BadState) rest refl p.1 in
    let lengths = split_and _ _ p.0 in
    let cursors = split_and _ _ q.0 in (
      record {
        some = leb-true _ _ lengths.0;
        small = leb-true _ _ lengths.1;
        reads = ltb-true _ _ cursors.0;
        writes = ltb-true _ _ cursors.1;
      },
      q.1,
    )

ready_rest : (l : ℕ) (c : Cursors) (rest : Answer) → Ready l c → judged_ring_then l c rest ≡ rest
unfolding length_ok cursors_ok
ready_rest l c rest r =
    rw (le-leb 1 l r.some, le-leb l 65536 r.small, lt-ltb c.read.0 l r.reads, lt-ltb c.write.0 l r.writes) refl

pub judged_ok : (l : ℕ) (c : Cursors) → judged_ring l c ≡ Accepted → Ready l c
judged_ok l c e = (ready_of l c Accepted e).0

pub ok_judged : (l : ℕ) (c : Cursors) → Ready l c → judged_ring l c ≡ Accepted
ok_judged l c r = ready_rest l c Accepted r

pub count_ok_lem : (l : ℕ) (c : Cursors) (n : ℕ) → judged_count l c n ≡ Accepted → Moves l c n
unfolding count_ok
count_ok_lem l c n e =
    let p = ready_of l c _ e in
    let q = split_and _ _ (needed _ (Err BadIndex) Accepted refl p.1).0 in
    record { ready = p.0; some = leb-true _ _ q.0; fits = leb-true _ _ q.1 }

pub ok_count : (l : ℕ) (c : Cursors) (n : ℕ) → Moves l c n → judged_count l c n ≡ Accepted
unfolding count_ok
ok_count l c n m = ready_rest l c _ m.ready ∙ rw (le-leb 1 n m.some, le-leb n l m.fits) refl

-- a cursor that is moved within the ring leaves it so
pub ready_read : {l k : ℕ} {c : Cursors} → Ready l c → k < l → Ready l (read_to c k)
ready_read r h = record { some = r.some; small = r.small; reads = h; writes = r.writes }

pub ready_write : {l k : ℕ} {c : Cursors} → Ready l c → k < l → Ready l (write_to c k)
ready_write r h = record { some = r.some; small = r.small; reads = r.reads; writes = h }

-- ---- what an accepted call gives

pub fresh_ok : (ring : List Float) → 1 ≤ length ring → length ring ≤ 65536
    → (fresh_answer (length ring) ≡ record { answer = Accepted; cursors = both 0 }) × (fresh_ring ring ≡ replicate (length ring) +0)
unfolding length_ok
fresh_ok ring h g =
    let e : judged_length (length ring) ≡ Accepted = rw (le-leb 1 (length ring) h, le-leb (length ring) 65536 g) refl in
    (rw e refl, rw e refl)

pub reset_ok : (ring : List Float) (c : Cursors) → Ready (length ring) c
    → (reset_answer (length ring) c ≡ record { answer = Accepted; cursors = c }) × (reset_ring ring c ≡ replicate (length ring) +0)
reset_ok ring c r = let e = ok_judged (length ring) c r in (rw e refl, rw e refl)

pub get_ok : (ring out : List Float) (c : Cursors) → Moves (length ring) c (length out)
    → (get_answer (length ring) c (length out) ≡ record { answer = Accepted; cursors = read_to c (wrap (length ring) (c.read.0 + length out)) })
    × (get_out ring c out ≡ read ring c.read.0 (length out))
get_ok ring out c m = let e = ok_count (length ring) c (length out) m in (rw e refl, rw e refl)

pub put_ok : (ring xs : List Float) (c : Cursors) → Moves (length ring) c (length xs)
    → (put_answer (length ring) c (length xs) ≡ record { answer = Accepted; cursors = write_to c (wrap (length ring) (c.write.0 + length xs)) })
    × (put_ring ring c xs ≡ write ring c.write.0 xs)
put_ok ring xs c m = let e = ok_count (length ring) c (length xs) m in (rw e refl, rw e refl)

pub get4_ok : (ring : List Float) (c : Cursors) → Ready (length ring) c → 4 ≤ length ring
    → ((get4_answer ring c).answer ≡ Accepted)
    × ((get4_answer ring c).cursors ≡ read_to c (wrap (length ring) (c.read.0 + 4)))
    × (list_of (get4_answer ring c).x ≡ take 4 (rotl c.read.0 ring))
unfolding read read_each
get4_ok ring c r h =
    let e = ok_judged (length ring) c r in
    (e, rw e (ap (read_to c) (ahead-wrap (length ring) c.read.0 4 r.reads h)), rw e (read_each_lem ring c.read.0 4 r.reads h))

pub put4_ok : (ring : List Float) (c : Cursors) (x : Four) → Ready (length ring) c → 4 ≤ length ring
    → (put4_answer (length ring) c ≡ record { answer = Accepted; cursors = write_to c (wrap (length ring) (c.write.0 + 4)) })
    × (put4_ring ring c x ≡ write ring c.write.0 (list_of x))
put4_ok ring c x r h =
    let e = ok_judged (length ring) c r in (
      rw (e, ahead-wrap (length ring) c.write.0 4 r.writes h) refl,
      rw e (write_each_lem ring (list_of x) c.write.0 r.writes h),
    )

-- ---- its length, whatever is answered

pub length-put4_ring : (ring : List Float) (c : Cursors) (x : Four) → length (put4_ring ring c x) ≡ length ring
length-put4_ring ring c x =
    accept_either (λ (ys : List Float). length ys ≡ length ring) (judged_ring (length ring) c)
    (λ e. length-write_each ring (list_of x) c.write.0) (λ e. refl)
