-- A frame can be done as jobs: on own memory, each job in the order of the marks is accepted. The invariant: of the marks, the first k are
-- set and no other. Assumes nothing.
use Prim.Native.Nat.{ℕ, zero, suc, ◌+◌, ◌<◌, ◌≤◌}
use mathlib.Core.Path.{◌≡◌, refl, ap, ◌∙◌}
use mathlib.Core.Bool.{Bool, true, false, not, ◌&&◌}
use mathlib.Core.List.{List, [], ◌∷◌, ◌++◌}
use native.Mathlib.Nat.{zero-add, not-suc-le-zero}
use native.Mathlib.Decide.{ℕ_discrete}
use native.Mathlib.Omega.{arith}
use borrow.Author.Tests.{eq-eqb, lt-ltb}
use mathlib.Core.Logic.{inl}
use lib.Dec.{ltb}
use lib.ListN.{length, set, take, replicate, length-take, get_or-replicate}
use lib.Seq.{get_or-take}
use Rattle.samples.specs.Answers.{Accepted}
use Rattle.samples.specs.Lists.{all_from}
use Rattle.samples.proofs.Laws.{join_and}
use Rattle.unit.specs.Layout.{Model, jobs_len, mix_mark, line_mark, output_mark}
use Rattle.unit.specs.Range.{in_range}
use Rattle.judges.specs.Judges.{store_ok, work_ok}
use Rattle.judges.specs.Marks.{all_done, all_read}
use Rattle.rows.specs.Rows.{joined_rows}
use Rattle.machine.specs.Whole.{Play}
use Rattle.machine.specs.Ending.{Memory}
use Rattle.machine.specs.Jobs.{Job, read_job, mix_job, line_job, output_job, mark_of}
use Rattle.machine.specs.Calls.{ending, start, job, answer, after}
use Rattle.machine.specs.Requests.{own, Request, ask, request, requests}
use Rattle.demands.specs.AnyOrder.{OwnJob, own_job, Between, Begins, worked, jobs, in_order, InOrder}
use Rattle.demands.proofs.AnyOrderMarks.{at, set_here, set_there, Legal, legal_none}
use Rattle.demands.proofs.AnyOrderAt.{Opening, Fit, rows_at, filters_at, memory_at, work_long}
use Rattle.demands.proofs.AnyOrderRequests.{Marks, done}
use Rattle.demands.proofs.AnyOrderOpen.{opening_of, all_ok, tells, fit, begun, still_in_range}

-- a job on own memory
abbrev ours : Job → Request
ours j = ask (job j) own own

-- ---- lists

all_set : (k : ℕ) (marks : List Bool) → ((j : ℕ) → j < length marks → at marks j ≡ true) → all_from (λ i done. done) k marks ≡ true
all_set k [] h = refl
all_set k (d ∷ ds) h = join_and (h 0 (omega arith)) (all_set (suc k) ds (λ j b. h (suc j) (omega arith)))

first_set : (n : ℕ) (marks : List Bool) → ((j : ℕ) → j < n → at marks j ≡ true) → all_done (take n marks) ≡ true
first_set n marks h = all_set 0 (take n marks) (λ j b.
    let c : j < n = omega (arith, length-take n marks) in
    get_or-take n marks j false c ∙ h j c)

requests_on : (m : Model) (v : Memory) (rs ss : List Request) → requests m v (rs ++ ss) ≡ requests m (requests m v rs) ss
unfolding requests
requests_on m v [] ss = refl
requests_on m v (r ∷ rs) ss = requests_on m (request m v r) rs ss

-- ---- they are jobs on own memory

abbrev AllOwn : List Request → Type 0
AllOwn [] = Unit {0}
AllOwn (r ∷ rs) = OwnJob r × AllOwn rs

own_jobs : (kind : ℕ → Job) (i n : ℕ) (rest : List Request) → AllOwn rest → AllOwn (jobs kind i n ++ rest)
own_jobs kind i zero rest r = r
own_jobs kind i (suc n) rest r = (own_job (kind i), own_jobs kind (i + 1) n rest r)

own_between : (m : Model) (v : Memory) (rs : List Request) → AllOwn rs → Between m v rs
unfolding Between
own_between m v [] h = tt
own_between m v (r ∷ rs) h = (inl h.0, own_between m (request m v r) rs h.1)

-- ---- each is accepted

module _ (m : Model) (w : Memory) (p : Play) (begins : Begins m w.unit) (e : answer m w (start p) ≡ Accepted) where
  abbrev o : Opening
  o = opening_of m w p

  abbrev h : Fit m o
  h = fit m w p begins e

  -- the first k marks are set, and no other
  record Upto (k : ℕ) (marks : List Bool) : Type 0 where
    legal : Legal m marks
    done : (j : ℕ) → j < k → at marks j ≡ true
    open_still : (j : ℕ) → k ≤ j → j < jobs_len m → at marks j ≡ false

  record Reached (k : ℕ) (v : Memory) : Type 0 where
    marks : List Bool
    upto : Upto k marks
    is : v ≡ memory_at m o marks

  -- one mark more
  more : (k : ℕ) (marks : List Bool) → k < jobs_len m → Upto k marks → Legal m (set marks k true) → Upto (k + 1) (set marks k true)
  more k marks b t g = record {
    legal = g;
    done = λ j c. set_to j c (ℕ_discrete j k);
    open_still = λ j c d. set_there marks k j (λ q. omega arith) ∙ t.open_still j (omega arith) d;
  }
    where
      set_to : (j : ℕ) → j < k + 1 → Dec (j ≡ k) → at (set marks k true) j ≡ true
      set_to j c (yes q) = rw q (set_here marks k (omega (arith, t.legal.long)))
      set_to j c (no q) = set_there marks k j q ∙ t.done j (omega arith)

  -- a job that is accepted where the marks before its own are set
  step : (j : Job) (v : Memory) → mark_of m j < jobs_len m → ((marks : List Bool) (t : Upto (mark_of m j) marks) → Marks m o h marks t.legal j)
      → Reached (mark_of m j) v → Reached (mark_of m j + 1) (request m v (ours j))
  unfolding request
  step j v b ok t =
      let d = ok t.marks t.upto in
      record {
        marks = set t.marks (mark_of m j) true;
        upto = more (mark_of m j) t.marks b t.upto d.0;
        is = ap (λ (x : Memory). after m x (job j)) t.is ∙ d.1;
      }

  module _ (marks : List Bool) where
    store_fits : store_ok m (memory_at m o marks).unit (length w.store) ≡ true
    store_fits = eq-eqb _ _ (tells m w p begins e).store

    work_fits : work_ok m (memory_at m o marks).unit (length (joined_rows (rows_at m o marks))) ≡ true
    work_fits = eq-eqb _ _ (work_long m o h marks)

    ranged : in_range m (memory_at m o marks).unit ≡ true
    ranged = still_in_range m w p begins e (filters_at m o marks) marks

    read_ok : (i : ℕ) → i < m.lines → (t : Upto i marks) → Marks m o h marks t.legal (read_job i)
    unfolding ending
    read_ok i b t =
        let free : not (at marks i) ≡ true = ap not (t.open_still i (omega arith) (omega arith)) in
        done m o h marks t.legal (read_job i)
        (all_ok m (memory_at m o marks).unit _ (ltb i m.lines) (not (at marks i)) ranged (join_and store_fits work_fits) (lt-ltb i m.lines b) free)

    -- all reads are marked
    reads_set : (k : ℕ) → m.lines ≤ k → Upto k marks → all_read m (memory_at m o marks).unit ≡ true
    reads_set k b t = first_set m.lines marks (λ j c. t.done j (omega arith))

    mix_ok : (t : Upto (mix_mark m) marks) → Marks m o h marks t.legal mix_job
    unfolding ending
    mix_ok t =
        let free : not (at marks (mix_mark m)) ≡ true = ap not (t.open_still (mix_mark m) (omega arith) (omega arith)) in
        done m o h marks t.legal mix_job
        (all_ok m (memory_at m o marks).unit _ true (all_read m (memory_at m o marks).unit && not (at marks (mix_mark m))) ranged work_fits refl
        (join_and (reads_set (mix_mark m) (omega arith) t) free))

    line_ok : (i : ℕ) → i < m.lines → (t : Upto (line_mark m i) marks) → Marks m o h marks t.legal (line_job i)
    unfolding ending
    line_ok i b t =
        let free : not (at marks (line_mark m i)) ≡ true = ap not (t.open_still (line_mark m i) (omega arith) (omega arith)) in
        done m o h marks t.legal (line_job i)
        (all_ok m (memory_at m o marks).unit _ (ltb i m.lines) (at marks (mix_mark m) && not (at marks (line_mark m i))) ranged work_fits (lt-ltb i m.lines b)
        (join_and (t.done (mix_mark m) (omega arith)) free))

    output_ok : (t : Upto (output_mark m) marks) → Marks m o h marks t.legal output_job
    unfolding ending
    output_ok t =
        let free : not (at marks (output_mark m)) ≡ true = ap not (t.open_still (output_mark m) (omega arith) (omega arith)) in
        done m o h marks t.legal output_job
        (all_ok m (memory_at m o marks).unit _ true (all_read m (memory_at m o marks).unit && not (at marks (output_mark m))) ranged work_fits refl
        (join_and (reads_set (output_mark m) (omega arith) t) free))

  -- ---- one after the other

  reads : (n i : ℕ) (v : Memory) → i + n ≡ m.lines → Reached i v → Reached m.lines (requests m v (jobs read_job i n))
  unfolding requests
  reads zero i v q t = let k : i ≡ m.lines = omega arith in rw k at t
  reads (suc n) i v q t =
      reads n (i + 1) (request m v (ours (read_job i))) (omega arith)
      (step (read_job i) v (omega arith) (λ marks c. read_ok marks i (omega arith) c) t)

  lines : (n i : ℕ) (v : Memory) → i + n ≡ m.lines → Reached (line_mark m i) v → Reached (output_mark m) (requests m v (jobs line_job i n))
  unfolding requests
  lines zero i v q t = let k : line_mark m i ≡ output_mark m = omega arith in rw k at t
  lines (suc n) i v q t =
      let k : line_mark m i + 1 ≡ line_mark m (i + 1) = omega arith in
      let next = step (line_job i) v (omega arith) (λ marks c. line_ok marks i (omega arith) c) t in
      lines n (i + 1) (request m v (ours (line_job i))) (omega arith) (rw k at next)

  begins_at : Reached 0 (after m w (start p))
  begins_at = record {
    marks = replicate (jobs_len m) false;
    upto = record {
      legal = legal_none m;
      done = λ j c. absurd (not-suc-le-zero c);
      open_still = λ j c d. get_or-replicate (jobs_len m) j false false d;
    };
    is = begun m w p begins e;
  }

  all_reached : Reached (jobs_len m) (worked m w p (in_order m))
  unfolding requests
  all_reached =
      let v : Memory = after m w (start p) in
      let v₁ : Memory = requests m v (jobs read_job 0 m.lines) in
      let v₂ : Memory = request m v₁ (ours mix_job) in
      let v₃ : Memory = requests m v₂ (jobs line_job 0 m.lines) in
      let read = reads m.lines 0 v (zero-add m.lines) begins_at in
      let mixed = step mix_job v₁ (omega arith) mix_ok read in
      let k : mix_mark m + 1 ≡ line_mark m 0 = omega arith in
      let lined = lines m.lines 0 v₂ (zero-add m.lines) (rw k at mixed) in
      let put = step output_job v₃ (omega arith) output_ok lined in
      let l : output_mark m + 1 ≡ jobs_len m = omega arith in
      let rest : List Request = jobs line_job 0 m.lines ++ (ours output_job ∷ []) in
      let joins : worked m w p (in_order m) ≡ request m v₃ (ours output_job) =
      requests_on m v (jobs read_job 0 m.lines) (ours mix_job ∷ rest)
      ∙ requests_on m v₂ (jobs line_job 0 m.lines) (ours output_job ∷ []) in
      rw (joins, ← l) put

  done_all : all_done (worked m w p (in_order m)).unit.held.marks ≡ true
  done_all =
      let t = all_reached in
      ap (λ (v : Memory). all_done v.unit.held.marks) t.is
      ∙ all_set 0 t.marks (λ j b. t.upto.done j (omega (arith, t.upto.legal.long)))

pub in_order_lem : InOrder
in_order_lem m w p begins e = (
  own_between m (after m w (start p)) (in_order m)
      (own_jobs read_job 0 m.lines _ (own_job mix_job, own_jobs line_job 0 m.lines _ (own_job output_job, tt))),
  done_all m w p begins e,
)
