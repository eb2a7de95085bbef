-- Demand 3: the memory of an open frame is a function of its marks, so that any order of the jobs, with any refused calls in between, ends in
-- the memory at all marks, which is the whole frame's. Assumes nothing.
use Rattle.std.specs.Prelude.{Err}
use Prim.Native.Nat.{ℕ}
use mathlib.Core.Path.{◌≡◌, refl, sym, ap, subst, ◌∙◌}
use mathlib.Core.Bool.{Bool, true, ◌&&◌, cond}
use mathlib.Core.List.{List}
use mathlib.Core.Logic.{◌⊎◌, inl, inr}
use borrow.Author.Tests.{eq-eqb}
use lib.Ieee.{Float}
use lib.ListN.{length, replicate}
use Rattle.samples.specs.declared.Refusal.TheVariants.{NotFinite}
use Rattle.samples.specs.Answers.{Answer, Accepted, accept, accepted}
use Rattle.samples.specs.Binary32.{+0}
use Rattle.audio_buffer.specs.Verdict.{verdict_of}
use Rattle.unit.specs.UnitState.{UnitState}
use Rattle.unit.specs.Layout.{Model}
use Rattle.unit.specs.Room.{unit_rings}
use Rattle.unit.specs.Fresh.{no_frame}
use Rattle.judges.specs.Marks.{all_done}
use Rattle.judges.specs.Turns.{judged_close}
use Rattle.stages.specs.Frame.{Frame, new_filters}
use Rattle.stages.specs.Settle.{frame_finite, settled, moved}
use Rattle.rows.specs.Rows.{Rows, rows_of}
use Rattle.frame.specs.Parts.{rows_finite}
use Rattle.machine.specs.Ending.{Memory, Ending, refused, cleared}
use Rattle.machine.specs.Whole.{Play, count_for, whole_due, wiped, played, at_once}
use Rattle.machine.specs.Jobs.{ended, closed}
use Rattle.machine.specs.Calls.{start, whole, ending, answer}
use Rattle.machine.proofs.Cases.{cond_either, close-either}
use Rattle.demands.specs.AnyOrder.{Begins, AnyOrder, CloseRefusesExactly}
use Rattle.demands.proofs.Lent.{close_lent}
use Rattle.demands.proofs.Refused.{failure_gives_back}
use Rattle.demands.proofs.AnyOrderMarks.{Legal, true≢false}
use Rattle.demands.proofs.AnyOrderAt.{Opening, frame_at, Fit, filters_at, unit_with, unit_at, memory_at, work_long, cut}
use Rattle.demands.proofs.AnyOrderJobs.{whole_rows, all_rows, all_filters}
use Rattle.demands.proofs.AnyOrderBlank.{idle}
use Rattle.demands.proofs.AnyOrderOpen.{opening_of, all_ok, lent_ok_lem, Opened, tells, fit, goes, still_in_range}

-- a close that nothing but its numbers can refuse has all marks, and an output of its length
tells_done : (m : Model) (v : Memory) (output : List Float) → judged_close m v.unit (length v.store) (length v.work) (length output) ≡ Accepted
    → (all_done v.unit.held.marks ≡ true) × (length output ≡ v.unit.settings.frame)
tells_done m v output d = let c = close_lent m v.unit (length v.store) (length v.work) (length output) d in (c.done, c.output_long)

module _ (m : Model) (w : Memory) (p : Play) (begins : Begins m w.unit) (e : answer m w (start p) ≡ Accepted) where
  abbrev o : Opening
  o = opening_of m w p

  abbrev u : UnitState
  u = w.unit

  abbrev R : Frame
  R = frame_at m o

  abbrev opens : Opened m w p
  opens = tells m w p begins e

  abbrev fits : Fit m o
  fits = fit m w p begins e

  -- ---- a close with all marks

  module _ (marks : List Bool) (legal : Legal m marks) (done : all_done marks ≡ true) (output : List Float) (long : length output ≡ u.settings.frame) where
    abbrev v : Memory
    v = memory_at m o marks

    -- the unit with the frame's filters
    abbrev full : UnitState
    full = unit_with o (new_filters R) marks

    unit_is : unit_at m o marks ≡ full
    unit_is = λ t. unit_with o (all_filters m o fits marks legal.long done t) marks

    abbrev rows : Rows
    rows = rows_of m.lines u.settings.frame v.work

    rows_are : rows ≡ whole_rows m o
    rows_are = cut m o fits marks ∙ all_rows m o fits marks legal.long done

    -- what is due of the close, and of the whole call
    abbrev due : Answer
    due = judged_close m v.unit (length v.store) (length v.work) (length output)

    due_is : due ≡ Accepted
    due_is =
        all_ok m v.unit _ true (true && all_done marks) (still_in_range m w p begins e (filters_at m o marks) marks)
        (lent_ok_lem m v output (eq-eqb _ _ opens.store) (eq-eqb _ _ (work_long m o fits marks)) long) refl done

    abbrev whole_due_lem : Answer
    whole_due_lem = whole_due m u p (length w.store) (length w.work) (length output)

    whole_is : whole_due_lem ≡ Accepted
    whole_is = opens.due output long

    -- what is held for a frame is blank, as it was
    quiet : no_frame m ≡ u.held
    quiet = sym (idle m u begins.sized opens.range opens.free)

    -- the work memory is as long as it was
    work_is : cleared v.work ≡ cleared w.work
    work_is = ap (λ (k : ℕ). replicate k +0) (work_long m o fits marks ∙ sym opens.work)

    -- what the rows come to at the close is what the frame comes to
    as_played : ended m (record { unit = full; store = w.store; work = v.work }) (whole_rows m o) output ≡ played m w R (count_for u p) output
    unfolding ended played rows_finite frame_finite
    as_played =
        λ t.
        cond (frame_finite R)
        (record {
          answer = Accepted;
          verdict = verdict_of (count_for u p);
          memory = record {
            unit = record { settings = u.settings; cursors = moved m u; count = count_for u p; filters = new_filters R; held = quiet t };
            store = settled m.lines u.settings.frame (unit_rings m u) R.lines.put R.output.rings w.store;
            work = work_is t;
          };
          output = R.output.out;
        })
        (refused (Err NotFinite)
        (record {
          unit = record { settings = u.settings; cursors = u.cursors; count = u.count; filters = u.filters; held = quiet t };
          store = w.store;
          work = work_is t;
        })
        output)

    as_whole : closed m v output ≡ at_once m w p output
    as_whole =
        ap (λ (a : Answer). accept a (ended m v rows output) (refused a v output)) due_is
        ∙ (λ t. ended m (record { unit = unit_is t; store = w.store; work = v.work }) (rows_are t) output)
        ∙ as_played
        ∙ sym (ap (λ (a : Answer). accept a (played m w R (count_for u p) output) (refused a w output)) whole_is)

    -- it is answered 0 or 9, and after a 9 all is as it was
    whole_played : at_once m w p output ≡ played m w R (count_for u p) output
    whole_played = ap (λ (a : Answer). accept a (played m w R (count_for u p) output) (refused a w output)) whole_is

    answered : ((at_once m w p output).answer ≡ Accepted) ⊎ ((at_once m w p output).answer ≡ Err NotFinite)
    unfolding played
    answered =
        subst (λ (x : Ending). (x.answer ≡ Accepted) ⊎ (x.answer ≡ Err NotFinite)) (sym whole_played)
        (cond_either (λ (x : Ending). (x.answer ≡ Accepted) ⊎ (x.answer ≡ Err NotFinite)) (frame_finite R) (λ q. inl refl) (λ q. inr refl))

    nothing_left : (at_once m w p output).answer ≡ Err NotFinite → at_once m w p output ≡ refused (Err NotFinite) (wiped w) output
    unfolding ending
    nothing_left q = failure_gives_back m w (whole p output) q ∙ rw opens.free refl

  -- what an accepted close tells
  told_by : (marks : List Bool) (output : List Float) → (closed m (memory_at m o marks) output).answer ≡ Accepted
      → (all_done marks ≡ true) × (length output ≡ u.settings.frame)
  told_by marks output q =
      let v : Memory = memory_at m o marks in
      close-either m v output (λ (x : Ending). x.answer ≡ Accepted → (all_done marks ≡ true) × (length output ≡ u.settings.frame))
      (λ d r s. tells_done m v output d) (λ d r s. tells_done m v output d)
      (λ n s. absurd (true≢false (sym (ap accepted s) ∙ n))) q

pub any_order : AnyOrder
any_order m w p rs h output q =
    let g = goes m w p h.begins h.opens rs h.between in
    let c = told_by m w p h.begins h.opens g.to output (subst (λ (v : Memory). (closed m v output).answer ≡ Accepted) g.is q) in
    rw g.is (as_whole m w p h.begins h.opens g.to g.legal c.0 output c.1)

pub close_refuses_exactly : CloseRefusesExactly
close_refuses_exactly m w p rs h done output long =
    let g = goes m w p h.begins h.opens rs h.between in
    let all : all_done g.to ≡ true = subst (λ (v : Memory). all_done v.unit.held.marks ≡ true) g.is done in
    record {
      same = rw g.is (as_whole m w p h.begins h.opens g.to g.legal all output long);
      answered = answered m w p h.begins h.opens g.to g.legal all output long;
      failed = nothing_left m w p h.begins h.opens g.to g.legal all output long;
    }
