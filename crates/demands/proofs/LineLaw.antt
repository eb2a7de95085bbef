-- A line hands out what it was given its length earlier. The invariant: L times +0 and all that it was given are what it handed out and then
-- its view; and while a frame is open in which it was read, the row that waits is what the ring still holds there. Assumes nothing.
use Prim.Native.Nat.{ℕ, zero, suc, ◌*◌, ◌/◌, ◌<◌, ◌≤◌}
use mathlib.Core.Path.{◌≡◌, refl, sym, ap, ◌∙◌}
use mathlib.Core.Bool.{Bool, true, false, ◌&&◌, cond}
use mathlib.Core.List.{List, [], ◌∷◌, ◌++◌, append-nil, append_assoc}
use mathlib.Core.Logic.{◌⊎◌, inl, inr}
use native.Mathlib.Omega.{arith}
use borrow.Author.Tests.{eqb-true, eq-eqb}
use lib.Dec.{eqb}
use lib.IntN.{pos}
use lib.Ieee.{Float}
use lib.ListN.{length, get_or, take, drop, replicate, length-append, length-take, length-replicate, length-set, get_or-replicate, take-append-drop}
use lib.Seq.{take_at}
use Rattle.samples.specs.Lists.{row}
use Rattle.samples.specs.Answers.{Answer, Accepted, accept, accepted}
use Rattle.samples.specs.Binary32.{+0}
use Rattle.samples.proofs.Laws.{split_and, is_accepted, accept_no}
use Rattle.bands.specs.declared.Times.{Times}
use Rattle.delay.specs.Calls.{both}
use Rattle.delay.proofs.Laws.{accept_either, rotl_same}
use Rattle.unit.specs.UnitState.{UnitState}
use Rattle.unit.specs.Layout.{Model, lengths, store_len, work_len, jobs_len, mix_mark, line_mark, output_mark}
use Rattle.unit.specs.Fresh.{fresh_unit}
use Rattle.judges.specs.Judges.{store_ok, work_ok}
use Rattle.stages.specs.Frame.{frame_in, new_filters}
use Rattle.stages.specs.Settle.{all_moved, put_rows}
use Rattle.machine.specs.Whole.{counted, moved_on, Play, apply, count_for, frame_for, whole_due, at_once}
use Rattle.machine.specs.Several.{Several, singly, frames_due}
use Rattle.judges.specs.Marks.{marked}
use Rattle.judges.specs.Turns.{judged_close}
use Rattle.rows.specs.Rows.{rows_of}
use Rattle.machine.specs.Jobs.{unit_opened, unit_marked, read_row, unit_closed, unit_shut, Job, read_job, mix_job, line_job, output_job, job_work}
use Rattle.machine.specs.Ending.{Memory, Ending, refused}
use Rattle.machine.proofs.Cases.{whole_either, close-either}
use Rattle.machine.specs.Calls.{ending, Call, reset, whole, frames, start, job, close, abandon, answer, after}
use Rattle.machine.specs.Requests.{Slice, own, other, lent, left, Request, fresh, ask, seen, refusal, request, done_before, declined}
use Rattle.demands.specs.LineLaw.{Account, traded, noted_whole, noted_frames, noted, account, Plays, plays_whole, plays_frames, plays_start, plays_job, plays_close, plays_abandon}
use Rattle.demands.specs.LineLaw.{AllPlay, Silent, freshly, by_reset, LineLaw}
use Rattle.judges.proofs.Fits.{told}
use Rattle.demands.proofs.Lent.{fresh_long, Lent, reset_lent, whole_lent, close_lent, whole_put, cursors, within}
use Rattle.demands.proofs.LineRings.{ring_same, read-row, lines_held, length_moved}
use Rattle.demands.proofs.LineTurn.{Turn, view, held, read_long, equal_moved, ring_turn, work_rows, read_left}
use Rattle.demands.proofs.AnyOrderMarks.{true≢false, set_there, done_at}
use Rattle.demands.proofs.AnyOrderRequests.{declined_told, stays}
use Rattle.demands.proofs.Refused.{refused_no}

-- of line i, whose length is l
module _ (m : Model) (i : ℕ) (h : i < m.lines) (l : ℕ) where
  -- ---- what holds between calls

  -- of the unit: its lines' cursors and its marks
  record Line (u : UnitState) : Type 0 where
    lines : length u.cursors.lines ≡ m.lines
    equal : (cursors u i).read ≡ (cursors u i).write
    marks : length u.held.marks ≡ jobs_len m

  -- of the account
  record Even (a : Account) (u : UnitState) (store : List Float) : Type 0 where
    all : replicate l +0 ++ a.given ≡ a.out ++ view (lengths m u) i u.cursors.lines store
    long : length a.out ≡ length a.given

  record Holds (u : UnitState) (store : List Float) (a : Account) : Type 0 where
    line : Line u
    even : Even a u store
    waits : u.held.busy ≡ true → marked u i ≡ true → a.waiting ≡ read_row m u i store

  -- a turn of the view keeps the account
  turn_even : (zeros given out old new read put : List Float) → zeros ++ given ≡ out ++ old → Turn old new read put
      → zeros ++ (given ++ put) ≡ (out ++ read) ++ new
  turn_even zeros given out old new read put e t =
      sym (append_assoc zeros given put)
      ∙ ap (λ (l : List Float). l ++ put) e
      ∙ append_assoc out old put
      ∙ ap (λ (l : List Float). out ++ (l ++ put)) (sym (take-append-drop (length put) old))
      ∙ ap (λ (l : List Float). out ++ l) (append_assoc (take (length put) old) (drop (length put) old) put)
      ∙ sym (append_assoc out (take (length put) old) (drop (length put) old ++ put))
      ∙ (λ x. (out ++ sym t.taken x) ++ sym t.then x)

  turn_long : (given out old new read put : List Float) → length out ≡ length given → Turn old new read put → length (out ++ read) ≡ length (given ++ put)
  turn_long given out old new read put e t =
      let l : length read ≡ length put = ap length t.taken ∙ length-take (length put) old ∙ omega (arith, t.fits) in
      length-append out read ∙ omega (arith, length-append given put)

  -- ---- a frame that is accepted

  -- from u to v, which has its cursors moved, with the rows put; no frame is open then
  frame_holds : (u v : UnitState) (store rows rings read : List Float) (a : Account) → Holds u store a → Lent m u (length store)
      → length rows ≡ m.lines * u.settings.frame → read ≡ read_row m u i store
      → v.settings ≡ u.settings → v.cursors.lines ≡ all_moved u.settings.frame (lengths m u) u.cursors.lines → length v.held.marks ≡ jobs_len m → v.held.busy ≡ false
      → Holds v (put_rows u.settings.frame m.lines 0 (lengths m u) u.cursors.lines rows rings store) (traded a read (row u.settings.frame i rows))
  frame_holds u v store rows rings read a inv lent e q vs vl vm vb =
      let line = inv.line in
      let t = ring_turn m i h u store lent line.lines line.equal rows rings e in
      let g = u.settings.frame in
      let put = row g i rows in
      let ls = lengths m u in
      let new = view ls i (all_moved g ls u.cursors.lines) (put_rows g m.lines 0 ls u.cursors.lines rows rings store) in
      record {
        line = record {
          lines = ap length vl ∙ length_moved g ls u.cursors.lines ∙ line.lines;
          equal = rw vl (equal_moved m i h u store lent line.lines line.equal);
          marks = vm;
        };
        even = rw (q, vl, vs)
            record {
              all = turn_even (replicate l +0) a.given a.out _ new (read_row m u i store) put inv.even.all t;
              long = turn_long a.given a.out _ new (read_row m u i store) put inv.even.long t;
            };
        waits = λ b. absurd (true≢false (sym b ∙ vb));
      }

  -- ---- a call that leaves the store and the cursors

  kept_holds : (u v : UnitState) (store : List Float) (a : Account) → Holds u store a → v.settings ≡ u.settings → v.cursors.lines ≡ u.cursors.lines
      → length v.held.marks ≡ jobs_len m → (v.held.busy ≡ true → marked v i ≡ true → a.waiting ≡ read_row m u i store) → Holds v store a
  kept_holds u v store a inv vs vl vm w =
      let line = inv.line in
      record {
        line = record { lines = ap length vl ∙ line.lines; equal = rw vl line.equal; marks = vm };
        even = rw (vl, vs) record { all = inv.even.all; long = inv.even.long };
        waits = λ b c. rw (vl, vs) (w b c);
      }

  -- a frame that is opened has no mark, and one that is shut isn't open
  opened_holds : (u : UnitState) (p : Play) (store : List Float) (a : Account) → Holds u store a → Holds (unit_opened m u p) store a
  opened_holds u p store a inv =
      kept_holds u (unit_opened m u p) store a inv refl refl (length-replicate (jobs_len m) false)
      (λ b c. absurd (true≢false (sym c ∙ get_or-replicate (jobs_len m) i false false (omega arith))))

  shut_holds : (u : UnitState) (store : List Float) (a : Account) → Holds u store a → Holds (unit_shut m u) store a
  shut_holds u store a inv =
      kept_holds u (unit_shut m u) store a inv refl refl (length-replicate (jobs_len m) false) (λ b c. absurd (true≢false (sym b)))

  -- another job than read i
  other_job : (u : UnitState) (k : ℕ) (store : List Float) (a : Account) {fs : List _} → Holds u store a → (i ≡ k → ⊥) → Holds (unit_marked u k fs) store a
  other_job u k store a {fs} inv apart =
      kept_holds u (unit_marked u k fs) store a inv refl refl (length-set u.held.marks k true ∙ inv.line.marks)
      (λ b c. inv.waits b (sym (set_there u.held.marks k i apart) ∙ c))

  -- read i: its row waits
  this_job : (u : UnitState) (k : ℕ) (store waiting : List Float) (a : Account) {fs : List _} → Holds u store a → waiting ≡ read_row m u i store
      → Holds (unit_marked u k fs) store (record { out = a.out; given = a.given; waiting = waiting })
  this_job u k store waiting a inv e = record {
    line = record {
      lines = inv.line.lines;
      equal = inv.line.equal;
      marks = length-set u.held.marks k true ∙ inv.line.marks;
    };
    even = record { all = inv.even.all; long = inv.even.long };
    waits = λ b c. e;
  }

  -- ---- a call answered a

  memory_holds : (x : Answer) (new old : Memory) (b' b : Account) → (x ≡ Accepted → Holds new.unit new.store b') → Holds old.unit old.store b
      → Holds (accept x new old).unit (accept x new old).store (accept x b' b)
  memory_holds x new old b' b p q = go (accepted x) refl
    where
      go : (y : Bool) → accepted x ≡ y → Holds (accept x new old).unit (accept x new old).store (accept x b' b)
      go true e = let r = is_accepted x e in rw r (p r)
      go false e = simp accept_no q

  -- row i of what a whole call reads
  whole_row : (u : UnitState) (p : Play) (store : List Float) → Lent m u (length store) → row u.settings.frame i (frame_for m u p store).reads ≡ read_row m u i store
  unfolding frame_in
  whole_row u p store lent =
      read-row u.settings.frame (lengths m u) u.cursors.lines m.lines i store h (held m i h u store lent)

  module _ (w : Memory) (a : Account) (inv : Holds w.unit w.store a) where
    abbrev u : UnitState
    u = w.unit

    -- after the call c on w
    abbrev Then : Call → Type 0
    Then c = Holds (after m w c).unit (after m w c).store (noted m i w a c)

    -- a call that ends in x, where an accepted one hands out `read` and is given `put`
    abbrev Ends : List Float → List Float → Ending → Type 0
    Ends read put x = Holds x.memory.unit x.memory.store (accept x.answer (traded a read put) a)

    -- refused, it leaves all as it was
    refused_holds : (read put : List Float) (due : Answer) (output : List Float) → accepted due ≡ false → Ends read put (refused due w output)
    refused_holds read put due output n = rw (accept_no due (traded a read put) a n) inv

    whole_holds : (p : Play) (output : List Float) → Then (whole p output)
    unfolding ending noted noted_whole
    whole_holds p output =
        let r = frame_for m u p w.store in
        let f = u.settings.frame in
        whole_either m w output (Ends (row f i r.reads) (row f i r.lines.put)) p
        (λ d q.
        let t = whole_lent m u (length w.store) (length w.work) (length output) p d in
        frame_holds u (moved_on m u (new_filters r) (count_for u p)) w.store r.lines.put r.output.rings (row f i r.reads) a inv t.lent
        (whole_put m u p w.store t.input) (whole_row u p w.store t.lent) refl refl inv.line.marks t.free)
        (λ d q. inv)
        (λ n. refused_holds (row f i r.reads) (row f i r.lines.put) (whole_due m u p (length w.store) (length w.work) (length output)) output n)

    close_holds : (output : List Float) → Then (close output)
    unfolding ending noted
    close_holds output =
        let f = u.settings.frame in
        let r = rows_of m.lines f w.work in
        close-either m w output (Ends a.waiting (row f i r.mixed))
        (λ d q.
        let t = close_lent m u (length w.store) (length w.work) (length output) d in
        frame_holds u (unit_closed m u) w.store r.mixed r.rings a.waiting a inv t.lent
        (work_rows m f w.work t.work_long).mixed (inv.waits t.busy (done_at u.held.marks i t.done (omega (arith, inv.line.marks))))
        refl refl (length-replicate (jobs_len m) false) refl)
        (λ d q. shut_holds u w.store a inv)
        (λ n. refused_holds a.waiting (row f i r.mixed) (judged_close m u (length w.store) (length w.work) (length output)) output n)

    -- a job
    abbrev Stands : Memory → Type 0
    Stands v = Holds v.unit v.store a

    read_told : (j : ℕ) → answer m w (job (read_job j)) ≡ Accepted → Lent m u (length w.store) × (length w.work ≡ work_len m u.settings.frame)
    unfolding ending
    read_told j e =
        let t = told m u (store_ok m u (length w.store) && work_ok m u (length w.work)) _ _ e in
        let l = split_and (store_ok m u (length w.store)) (work_ok m u (length w.work)) t.slices_ok in
        (record { range = t.range; long = eqb-true _ _ l.0 }, eqb-true _ _ l.1)

    read_holds : (j : ℕ) → Then (job (read_job j))
    unfolding ending noted
    read_holds j = go (eqb j i) refl
      where
        left : List Float
        left = row u.settings.frame i (rows_of m.lines u.settings.frame (job_work m w (read_job j))).reads

        new : Account
        new = record { out = a.out; given = a.given; waiting = left }

        its_row : j ≡ i → answer m w (job (read_job j)) ≡ Accepted → left ≡ read_row m u i w.store
        its_row q e =
            let t = read_told j e in
            ap (λ (k : ℕ). row u.settings.frame i (rows_of m.lines u.settings.frame (job_work m w (read_job k))).reads) q
            ∙ read_left m u i w.store w.work h t.1 (read_long m i h u w.store t.0)

        then : Memory
        then = record { unit = unit_marked u j u.filters; store = w.store; work = job_work m w (read_job j) }

        go : (b : Bool) → eqb j i ≡ b → Then (job (read_job j))
        go true e =
            let q : j ≡ i = eqb-true j i e in
            rw e (memory_holds (answer m w (job (read_job j))) then w new a (λ d. this_job u j w.store left a inv (its_row q d)) inv)
        go false e =
            let apart : i ≡ j → ⊥ = λ q. true≢false (sym (eq-eqb j i (sym q)) ∙ e) in
            rw e (accept_either Stands (answer m w (job (read_job j))) (λ d. other_job u j w.store a inv apart) (λ n. inv))

    job_holds : (j : Job) → Then (job j)
    unfolding ending noted
    job_holds (read_job j) = read_holds j
    job_holds mix_job =
        accept_either Stands (answer m w (job mix_job)) (λ e. other_job u (mix_mark m) w.store a inv (λ q. omega arith)) (λ n. inv)
    job_holds (line_job j) =
        accept_either Stands (answer m w (job (line_job j))) (λ e. other_job u (line_mark m j) w.store a inv (λ q. omega arith)) (λ n. inv)
    job_holds output_job =
        accept_either Stands (answer m w (job output_job)) (λ e. other_job u (output_mark m) w.store a inv (λ q. omega arith)) (λ n. inv)

  -- ---- several frames at once

  -- a whole call that is refused isn't noted
  not_noted : (w : Memory) (a : Account) (p : Play) (output : List Float) → accepted (answer m w (whole p output)) ≡ false → noted_whole m i w a p output ≡ a
  unfolding noted_whole
  not_noted w a p output n = accept_no (answer m w (whole p output)) _ a n

  module _ (t : Times) (coefficients : List Float) (f : ℕ) where
    -- after the frames of x, noted one by one
    abbrev Through : Memory → Account → List Float → List Float → Several → Type 0
    Through w a input output x =
        Holds x.ending.memory.unit x.ending.memory.store (noted_frames m i t coefficients f x.done w a input output)

    singly_holds : (n : ℕ) (w : Memory) (a : Account) (input output : List Float) → Holds w.unit w.store a
        → Through w a input output (singly m t coefficients f n w input output)
    unfolding ending noted noted_frames singly
    singly_holds zero w a input output inv = inv
    singly_holds (suc n) w a input output inv =
        let p = apply t coefficients (take f input) in
        let o = take f output in
        let e = at_once m w p o in
        let then = whole_holds w a inv p o in
        accept_either (Through w a input output) e.answer
        (λ d. singly_holds n e.memory (noted_whole m i w a p o) (drop f input) (drop f output) then)
        (λ r. rw (not_noted w a p o r) at then)

  frames_holds : (w : Memory) (a : Account) (t : Times) (coefficients input output : List Float) → Holds w.unit w.store a
      → let c = frames t coefficients input output in
      Holds (after m w c).unit (after m w c).store (noted m i w a c)
  unfolding ending noted noted_frames
  frames_holds w a t coefficients input output inv =
      let f = w.unit.settings.frame in
      accept_either (Through t coefficients f w a input output)
      (frames_due m w t coefficients input output)
      (λ d. singly_holds t coefficients f (length input / f) w a input output inv) (λ r. inv)

  -- ---- requests

  -- the account after one
  abbrev entered : Memory → Account → Request → Account
  entered w a (fresh rate frame s) = a
  entered w a (ask c s k) = noted m i (seen w s k) a c

  -- one that changes nothing enters nothing
  refused_same : (x : Answer) (new a : Account) → refusal x ≡ true → accept x new a ≡ a
  refused_same x new a e = accept_no x new a (refused_no x e)

  nothing-noted : (w : Memory) (a : Account) (c : Call) → done_before m w c ≡ 0 → refusal (answer m w c) ≡ true → noted m i w a c ≡ a
  unfolding noted noted_frames
  nothing-noted w a reset d e = refl
  nothing-noted w a (whole p output) d e = not_noted w a p output (refused_no (answer m w (whole p output)) e)
  nothing-noted w a (frames t coefficients input output) d e =
      ap (λ (n : ℕ). noted_frames m i t coefficients w.unit.settings.frame n w a input output) d
  nothing-noted w a (start p) d e = refl
  nothing-noted w a (job (read_job j)) d e = either (eqb j i) (refused_same (answer m w (job (read_job j))) _ a e)
    where
      either : (b : Bool) {x : Account} → x ≡ a → cond b x a ≡ a
      either true q = q
      either false q = refl
  nothing-noted w a (job mix_job) d e = refl
  nothing-noted w a (job (line_job j)) d e = refl
  nothing-noted w a (job output_job) d e = refl
  nothing-noted w a (close output) d e = refused_same (answer m w (close output)) _ a e
  nothing-noted w a abandon d e = refl

  nothing_entered : (w : Memory) (a : Account) (r : Request) → declined m w r ≡ true → entered w a r ≡ a
  nothing_entered w a (fresh rate frame s) e = refl
  nothing_entered w a (ask c s k) e = let d = declined_told m w c s k e in nothing-noted (seen w s k) a c d.0 d.1

  -- what is lent and left as it was
  left-lent : (s : Slice) (mine : List Float) → left s (lent s mine) mine ≡ mine
  left-lent own mine = refl
  left-lent (other xs) mine = refl

  plays_holds : (w : Memory) (a : Account) (r : Request) → Plays r → Holds w.unit w.store a
      → Holds (request m w r).unit (request m w r).store (entered w a r)
  unfolding request ending noted
  plays_holds w a r (plays_whole p output k) inv = whole_holds (seen w own k) a inv p output
  plays_holds w a r (plays_frames t coefficients input output k) inv = frames_holds (seen w own k) a t coefficients input output inv
  plays_holds w a r (plays_start p s k) inv =
      accept_either (λ (v : Memory). Holds v.unit (left s v.store w.store) a) (answer m (seen w s k) (start p))
      (λ e. rw (left-lent s w.store) (opened_holds w.unit p w.store a inv))
      (λ n. rw (left-lent s w.store) inv)
  plays_holds w a r (plays_job j k) inv = job_holds (seen w own k) a inv j
  plays_holds w a r (plays_close output k) inv = close_holds (seen w own k) a inv output
  plays_holds w a r (plays_abandon s k) inv =
      accept_either (λ (v : Memory). Holds v.unit (left s v.store w.store) a) (answer m (seen w s k) abandon)
      (λ e. rw (left-lent s w.store) (shut_holds w.unit w.store a inv))
      (λ n. rw (left-lent s w.store) inv)

  one_holds : (w : Memory) (a : Account) (r : Request) → Plays r ⊎ (declined m w r ≡ true) → Holds w.unit w.store a
      → Holds (request m w r).unit (request m w r).store (entered w a r)
  one_holds w a r (inl p) inv = plays_holds w a r p inv
  one_holds w a r (inr e) inv = rw (stays m w r e, nothing_entered w a r e) inv

  law : (w : Memory) (a : Account) (rs : List Request) → AllPlay m w rs → Holds w.unit w.store a
      → let b = account m i w a rs in
      b.out ≡ take (length b.given) (replicate l +0 ++ b.given)
  unfolding account AllPlay
  law w a [] p inv = rw inv.even.all (sym (take_at a.out _ (length a.given) inv.even.long))
  law w a (fresh rate frame s ∷ rs) p inv =
      law (request m w (fresh rate frame s)) a rs p.1 (one_holds w a (fresh rate frame s) p.0 inv)
  law w a (ask c s k ∷ rs) p inv =
      law (request m w (ask c s k)) (noted m i (seen w s k) a c) rs p.1 (one_holds w a (ask c s k) p.0 inv)

-- ---- from silence

abbrev nothing : Account
nothing = record { out = []; given = []; waiting = [] }

module _ (m : Model) (i : ℕ) (h : i < m.lines) where
  silent_view : (u : UnitState) (store : ℕ) → store ≡ store_len m (lengths m u) → (cursors u i).read.0 ≤ get_or (lengths m u) i 0
      → view (lengths m u) i u.cursors.lines (replicate store +0) ≡ replicate (get_or (lengths m u) i 0) +0
  unfolding store_len
  silent_view u store e b =
      let same = ring_same u.settings.frame (lengths m u) m.lines i store +0 h (lines_held m u store (omega arith)) in
      rw same (rotl_same (get_or (lengths m u) i 0) (cursors u i).read.0 +0 b)

  -- with no frame open
  from_silence : (u : UnitState) (store : ℕ) → store ≡ store_len m (lengths m u) → (cursors u i).read.0 ≤ get_or (lengths m u) i 0 → u.held.busy ≡ false
      → Line m i h (get_or (lengths m u) i 0) u → Holds m i h (get_or (lengths m u) i 0) u (replicate store +0) nothing
  from_silence u store e b free line = record {
    line = line;
    even = record { all = append-nil (replicate (get_or (lengths m u) i 0) +0) ∙ sym (silent_view u store e b); long = refl };
    waits = λ q. absurd (true≢false (sym q ∙ free));
  }

  begins : (w : Memory) → Silent m w → Holds m i h (get_or (lengths m w.unit) i 0) w.unit w.store nothing
  unfolding ending
  begins w (freshly w₀ rate frame e) =
      let c = get_or-replicate m.lines i (both 0) (both 0) h in
      rw e
      (from_silence (fresh_unit m rate frame) (length w₀.store) (fresh_long m rate frame (length w₀.store) e) (rw c (omega arith)) refl
      record {
        lines = length-replicate m.lines (both 0);
        equal = rw c refl;
        marks = length-replicate (jobs_len m) false;
      })
  begins w (by_reset w₀ sized e together) =
      let u = w₀.unit in
      let t = reset_lent m u (length w₀.store) e in
      let near = within m u i t.0.range (omega (arith, sized.lines)) in
      rw e
      (from_silence (counted u (pos 0)) (length w₀.store) t.0.long (omega arith) t.1
      record { lines = sized.lines; equal = together.lines i; marks = sized.marks })

pub line_law : LineLaw
line_law m w silent i h rs p = law m i h (get_or (lengths m w.unit) i 0) w nothing rs p (begins m i h w silent)
