-- Any request that may come between open and close takes the memory at some marks to the memory at some marks: one that is declined leaves
-- it, and an accepted job adds its mark. Assumes nothing.
use Prim.Native.Nat.{ℕ}
use mathlib.Core.Path.{◌≡◌, refl, ap, ◌∙◌}
use mathlib.Core.Bool.{Bool, true, false, not, ◌&&◌}
use mathlib.Core.List.{List, [], ◌∷◌}
use mathlib.Core.Logic.{◌⊎◌, inl, inr}
use native.Mathlib.Omega.{arith}
use borrow.Author.Tests.{ltb-true, eqb-true}
use lib.Dec.{eqb}
use lib.Ieee.{Float}
use lib.ListN.{set, take}
use Rattle.samples.specs.Answers.{Accepted, accepted}
use Rattle.samples.proofs.Laws.{split_and, is_accepted, accept_no}
use Rattle.unit.specs.Layout.{Model, mix_mark, line_mark, output_mark}
use Rattle.judges.specs.Marks.{all_read}
use Rattle.machine.specs.Jobs.{Job, read_job, mix_job, line_job, output_job, mark_of}
use Rattle.machine.specs.Ending.{Memory, Ending}
use Rattle.machine.specs.Calls.{ending, Call, reset, whole, frames, start, job, close, abandon, answer, after}
use Rattle.machine.specs.Requests.{Slice, own, other, lent, left, Request, fresh, ask, seen, refusal, answer_of, request, requests, done_before, declined}
use Rattle.demands.specs.Several.{applies_of, after_all}
use Rattle.demands.specs.Refusals.{so_far}
use Rattle.demands.specs.AnyOrder.{OwnJob, own_job, Between}
use Rattle.judges.proofs.Fits.{told}
use Rattle.demands.proofs.Lent.{not_is}
use Rattle.demands.proofs.Refused.{refusal_changes_nothing, refused_fresh}
use Rattle.demands.proofs.AnyOrderMarks.{at, Legal, legal_set}
use Rattle.demands.proofs.AnyOrderAt.{Opening, Fit, unit_with, memory_at}
use Rattle.demands.proofs.AnyOrderJobs.{read_filters, read_work_lem, mix_filters, mix_work, line_filters, line_work, output_filters, output_work}

-- ---- a refusal of 1 to 8 with no frame done

nothing-done : (m : Model) (w : Memory) (c : Call) → done_before m w c ≡ 0 → so_far m w c ≡ w
unfolding after_all
nothing-done m w reset e = refl
nothing-done m w (whole p output) e = refl
nothing-done m w (frames t coefficients input output) e = ap (λ (k : ℕ). after_all m w (take k (applies_of w t coefficients input output))) e
nothing-done m w (start p) e = refl
nothing-done m w (job j) e = refl
nothing-done m w (close output) e = refl
nothing-done m w abandon e = refl

call_stays : (m : Model) (w : Memory) (c : Call) → done_before m w c ≡ 0 → refusal (answer m w c) ≡ true → after m w c ≡ w
call_stays m w c d e = ap (λ (x : Ending). x.memory) (refusal_changes_nothing m w c e) ∙ nothing-done m w c d

-- what was lent and is left as it was
pub left_same : (s : Slice) (mine : List Float) {new : List Float} → new ≡ lent s mine → left s new mine ≡ mine
left_same own mine e = e
left_same (other xs) mine e = refl

-- what a call that is declined tells
pub declined_told : (m : Model) (w : Memory) (c : Call) (s k : Slice) → declined m w (ask c s k) ≡ true
    → (done_before m (seen w s k) c ≡ 0) × (refusal (answer m (seen w s k) c) ≡ true)
unfolding answer_of declined
declined_told m w c s k e =
    let d = split_and (eqb (done_before m (seen w s k) c) 0) (refusal (answer m (seen w s k) c)) e in
    (eqb-true _ 0 d.0, d.1)

pub stays : (m : Model) (w : Memory) (r : Request) → declined m w r ≡ true → request m w r ≡ w
unfolding answer_of declined request
stays m w (fresh rate frame s) e =
    let es = ap (λ (x : Ending). x.memory.store) (refused_fresh m rate frame (lent s w.store) e) in
    λ t. record { unit = w.unit; store = left_same s w.store es t; work = w.work }
stays m w (ask c s k) e =
    let d = declined_told m w c s k e in
    let q = call_stays m (seen w s k) c d.0 d.1 in
    λ t. record { unit = (q t).unit; store = left_same s w.store (λ i. (q i).store) t; work = left_same k w.work (λ i. (q i).work) t }

-- ---- where a request leads

module _ (m : Model) (o : Opening) where
  pub record Goes (w : Memory) : Type 0 where
    pub to : List Bool
    pub legal : Legal m to
    pub is : w ≡ memory_at m o to

  here : (marks : List Bool) → Legal m marks → Goes (memory_at m o marks)
  here marks g = record { to = marks; legal = g; is = refl }

  module _ (h : Fit m o) (marks : List Bool) (g : Legal m marks) where
    abbrev w : Memory
    w = memory_at m o marks

    -- with its mark besides
    abbrev pub Marks : Job → Type 0
    Marks j = Legal m (set marks (mark_of m j) true) × (after m w (job j) ≡ memory_at m o (set marks (mark_of m j) true))

    -- each job on the unit's own memory, where it is accepted
    pub done : (j : Job) → answer m w (job j) ≡ Accepted → Marks j
    unfolding ending
    done (read_job i) e =
        let t = told m w.unit _ _ (not (at marks i)) e in
        let b = ltb-true i m.lines t.line_ok in
        let ef = read_filters m o h marks g i b in
        let ew = read_work_lem m o h marks g i b in (
          legal_set m marks i g (omega arith) (λ c d. absurd (omega arith)),
          rw e (λ x. record { unit = unit_with o (ef x) (set marks i true); store = o.store; work = ew x }),
        )
    done mix_job e =
        let t = told m w.unit _ _ (all_read m w.unit && not (at marks (mix_mark m))) e in
        let q = split_and (all_read m w.unit) (not (at marks (mix_mark m))) t.on_turn in
        let ef = mix_filters m o h marks g q.0 (not_is _ q.1) in
        let ew = mix_work m o h marks g q.0 (not_is _ q.1) in (
          legal_set m marks (mix_mark m) g (omega arith) (λ c d. absurd (omega arith)),
          rw e (λ x. record { unit = unit_with o (ef x) (set marks (mix_mark m) true); store = o.store; work = ew x }),
        )
    done (line_job i) e =
        let t = told m w.unit _ _ (at marks (mix_mark m) && not (at marks (line_mark m i))) e in
        let b = ltb-true i m.lines t.line_ok in
        let q = split_and (at marks (mix_mark m)) (not (at marks (line_mark m i))) t.on_turn in
        let ef = line_filters m o h marks g i b q.0 (not_is _ q.1) in
        let ew = line_work m o h marks g i b q.0 (not_is _ q.1) in (
          legal_set m marks (line_mark m i) g (omega arith) (λ c d. q.0),
          rw e (λ x. record { unit = unit_with o (ef x) (set marks (line_mark m i) true); store = o.store; work = ew x }),
        )
    done output_job e =
        let t = told m w.unit _ _ (all_read m w.unit && not (at marks (output_mark m))) e in
        let q = split_and (all_read m w.unit) (not (at marks (output_mark m))) t.on_turn in
        let ef = output_filters m o h marks g q.0 (not_is _ q.1) in
        let ew = output_work m o h marks g q.0 (not_is _ q.1) in (
          legal_set m marks (output_mark m) g (omega arith) (λ c d. absurd (omega arith)),
          rw e (λ x. record { unit = unit_with o (ef x) (set marks (output_mark m) true); store = o.store; work = ew x }),
        )

    -- accepted or not, it leads to the memory at some marks
    either : (j : Job) → Goes (after m w (job j))
    unfolding ending
    either j = go (accepted (answer m w (job j))) refl
      where
        go : (b : Bool) → accepted (answer m w (job j)) ≡ b → Goes (after m w (job j))
        go true e = let d = done j (is_accepted _ e) in record { to = set marks (mark_of m j) true; legal = d.0; is = d.1 }
        go false e = record { to = marks; legal = g; is = accept_no (answer m w (job j)) _ w e }

    one : (r : Request) → OwnJob r ⊎ (declined m w r ≡ true) → Goes (request m w r)
    unfolding request
    one r (inl (own_job j)) = either j
    one r (inr e) = record { to = marks; legal = g; is = stays m w r e }

  -- any requests, from the memory at legal marks
  pub order : Fit m o → (rs : List Request) (marks : List Bool) → Legal m marks → Between m (memory_at m o marks) rs → Goes (requests m (memory_at m o marks) rs)
  unfolding requests Between
  order h [] marks g b = here marks g
  order h (r ∷ rs) marks g b =
      let first = one h marks g r b.0 in
      let rest : Between m (memory_at m o first.to) rs = rw first.is at b.1 in
      rw first.is (order h rs first.to first.legal rest)
