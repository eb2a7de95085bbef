-- Each of the unit's calls ends as the machine says, by its own contract; so a refused, a failed and an abandoned one leave what the machine's
-- laws say. Assumes nothing.
use mathlib.Core.Path.{◌≡◌, refl, sym, ap, ◌∙◌}
use mathlib.Core.Bool.{Bool, true, false}
use mathlib.Core.List.{List, []}
use lib.Ieee.{Float}
use Rattle.samples.specs.Answers.{Answer, accept, accepted}
use Rattle.samples.proofs.Laws.{is_accepted, accept_no}
use Rattle.unit.specs.declared.Outcome.{Outcome}
use Rattle.unit.specs.declared.FramesOutcome.{FramesOutcome}
use Rattle.unit.specs.Layout.{wall}
use Rattle.unit.specs.Fresh.{least_unit}
use Rattle.machine.specs.Ending.{Memory, Ending, outcome_of, refused, quietly}
use Rattle.machine.specs.Calls.{ending}
use Rattle.machine.specs.Requests.{refusal}
use Rattle.demands.specs.Refusals.{so_far, output_so_far}
use Rattle.demands.specs.TheContracts.{leaving, Function, EndsAsCall, RefusedLeaves, FailedGivesBack}
use Rattle.demands.specs.TheCalls.{as_reset, as_apply, as_apply_frames, as_tail, as_open_apply, as_open_tail, as_job_read, as_job_mix, as_job_line, as_job_output, as_close, as_abandon}
use Rattle.demands.specs.TheCalls.{EachCall, CallsEnd, RefusedCalls, FailedCalls, AbandonedCall, FreshEnds, RefusedFreshCall}
use Rattle.demands.proofs.Refused.{refusal_changes_nothing, failure_gives_back, abandon_gives_back, refused_fresh}

-- ---- a contract's clauses, put together

-- a result and slices that are those of an ending are all of it
all_of : (e : Ending) {x : Outcome} {store work output : List Float}
    → x ≡ outcome_of e → store ≡ e.memory.store → work ≡ e.memory.work → output ≡ e.output → leaving x store work output ≡ e
all_of e p q r o = λ t. leaving (p t) (q t) (r t) (o t)

-- what is done to what a call leaves may be done to the new and to the old
accept_of : {A B : Type 0} (f : A → B) (due : Answer) (new old : A) → f (accept due new old) ≡ accept due (f new) (f old)
accept_of f due new old = go (accepted due) refl
  where
    go : (b : Bool) → accepted due ≡ b → f (accept due new old) ≡ accept due (f new) (f old)
    go true e = rw (is_accepted due e) refl
    go false e = ap f (accept_no due new old e) ∙ sym (accept_no due (f new) (f old) e)

-- a slice that a quiet call isn't lent counts for nothing: what it would hold is left, and nothing else comes from it
abbrev storing : List Float → Memory → Memory
storing rest w = record { unit = w.unit; store = rest; work = w.work }

abbrev working : List Float → Memory → Memory
working rest w = record { unit = w.unit; store = w.store; work = rest }

no_store : (due : Answer) (new old : Memory) (rest : List Float) {x : Outcome} {work : List Float}
    → x ≡ outcome_of (quietly due new old) → work ≡ (accept due new old).work
    → leaving x rest work [] ≡ quietly due (storing rest new) (storing rest old)
no_store due new old rest p q =
    (λ t. leaving (p t) rest (q t) [])
    ∙ (λ t. record { answer = due; verdict = (outcome_of (quietly due new old)).verdict; memory = accept_of (storing rest) due new old t; output = [] })

no_work : (due : Answer) (new old : Memory) (rest : List Float) {x : Outcome} {store : List Float}
    → x ≡ outcome_of (quietly due new old) → store ≡ (accept due new old).store
    → leaving x store rest [] ≡ quietly due (working rest new) (working rest old)
no_work due new old rest p q =
    (λ t. leaving (p t) (q t) rest [])
    ∙ (λ t. record { answer = due; verdict = (outcome_of (quietly due new old)).verdict; memory = accept_of (working rest) due new old t; output = [] })

-- a store lent to be read alone is left, whether a quiet call is accepted or not
store_read : (due : Answer) (new old : Memory) {x : Outcome} {work : List Float} → new.store ≡ old.store
    → x ≡ outcome_of (quietly due new old) → work ≡ (accept due new old).work → leaving x old.store work [] ≡ quietly due new old
store_read due new old e p q = all_of (quietly due new old) p (sym (accept_of (λ (w : Memory). w.store) due new old ∙ either (accepted due) refl)) q refl
  where
    either : (b : Bool) → accepted due ≡ b → accept due new.store old.store ≡ old.store
    either true h = rw (is_accepted due h) e
    either false h = accept_no due new.store old.store h

-- ---- each call

pub calls_end : CallsEnd
unfolding ending
calls_end = record {
  reset = λ κs a x s p rest. no_work _ _ _ rest p.0 p.1;
  apply = λ κs a x s p rest. all_of _ p.0 p.1.0 p.1.1.0 p.1.1.1;
  apply_frames = λ κs a x s p rest. all_of _ (ap (λ (r : FramesOutcome). r.outcome) p.0) p.1.0 p.1.1.0 p.1.1.1;
  tail = λ κs a x s p rest. all_of _ p.0 p.1.0 p.1.1.0 p.1.1.1;
  open_apply = λ κs a x s p rest. store_read _ _ _ refl p.0 p.1;
  open_tail = λ κs a x s p rest. store_read _ _ _ refl p.0 p.1;
  job_read = λ κs a x s p rest. store_read _ _ _ refl p.0 p.1;
  job_mix = λ κs a x s p rest. no_store _ _ _ rest p.0 p.1;
  job_line = λ κs a x s p rest. no_store _ _ _ rest p.0 p.1;
  job_output = λ κs a x s p rest. no_store _ _ _ rest p.0 p.1;
  close = λ κs a x s p rest. all_of _ p.0 p.1.0 p.1.1.0 p.1.1.1;
  abandon = λ κs a x s p rest. no_store _ _ _ rest p.0 p.1;
}

pub fresh_ends : FreshEnds
fresh_ends κs a x s p = no_work _ _ _ [] p.0 p.1

-- ---- so what is proved of the machine's endings holds of what the contract allows

module _ (f : Function) (ends : EndsAsCall f) where
  refused_leaves : RefusedLeaves f
  refused_leaves κs a x s p rest h =
      let w = f.lent κs a rest in
      let c = f.call κs a in
      let e = ends κs a x s p rest in
      e ∙ refusal_changes_nothing wall w c (ap (λ (y : Ending). refusal y.answer) (sym e) ∙ h) ∙ ap (λ (y : Ending). refused y.answer (so_far wall w c) (output_so_far wall w c)) (sym e)

  failed_gives_back : FailedGivesBack f
  failed_gives_back κs a x s p rest h =
      let e = ends κs a x s p rest in
      e ∙ failure_gives_back wall (f.lent κs a rest) (f.call κs a) (ap (λ (y : Ending). y.answer) (sym e) ∙ h)

-- what follows of a call that ends as the machine says, of each
each : {say : Function → Type 0} → ((f : Function) → EndsAsCall f → say f) → EachCall say
each so = record {
  reset = so as_reset calls_end.reset;
  apply = so as_apply calls_end.apply;
  apply_frames = so as_apply_frames calls_end.apply_frames;
  tail = so as_tail calls_end.tail;
  open_apply = so as_open_apply calls_end.open_apply;
  open_tail = so as_open_tail calls_end.open_tail;
  job_read = so as_job_read calls_end.job_read;
  job_mix = so as_job_mix calls_end.job_mix;
  job_line = so as_job_line calls_end.job_line;
  job_output = so as_job_output calls_end.job_output;
  close = so as_close calls_end.close;
  abandon = so as_abandon calls_end.abandon;
}

pub refused_calls : RefusedCalls
refused_calls = each refused_leaves

pub failed_calls : FailedCalls
failed_calls = each failed_gives_back

pub abandoned_call : AbandonedCall
abandoned_call κs a x s p rest h =
    let e = calls_end.abandon κs a x s p rest in
    ap (λ (y : Ending). y.memory) e ∙ abandon_gives_back wall _ (ap (λ (y : Ending). y.answer) (sym e) ∙ h)

pub refused_fresh_call : RefusedFreshCall
refused_fresh_call κs a x s p h =
    let e = fresh_ends κs a x s p in
    e ∙ refused_fresh wall a.0 a.1.0 a.1.1.0.now (ap (λ (y : Ending). refusal y.answer) (sym e) ∙ h)
    ∙ ap (λ (y : Ending). refused y.answer (record { unit = least_unit wall; store = a.1.1.0.now; work = [] }) []) (sym e)
