-- Demand 1's refusals, over all calls at once: what a refused and a failed one leave. Assumes nothing.
use Rattle.std.specs.Prelude.{Option, Some, None, Ok, Err}
use Prim.Native.Nat.{ℕ, ◌*◌, ◌/◌}
use mathlib.Core.Path.{◌≡◌, refl, sym, ap, ◌∙◌}
use mathlib.Core.Bool.{Bool, true, false}
use mathlib.Core.List.{List, [], ◌++◌}
use mathlib.Core.Logic.{inl, inr}
use native.Mathlib.Nat.{eq-or-lt_of_le}
use lib.Dec.{eqb}
use lib.Ieee.{Float}
use lib.ListN.{length, take, drop}
use Rattle.samples.specs.Lists.{row}
use Rattle.samples.specs.declared.Refusal.TheVariants.{BadState, BadLength, BadIndex, OutOfTurn, BadTime, BadCoefficient, NotFinite}
use Rattle.samples.specs.Answers.{Answer, Accepted, number_of, accepted, need, or_else}
use Rattle.samples.proofs.Laws.{accept_no, accept_either}
use Rattle.search.specs.Search.{first_bad, all_finite}
use Rattle.bands.specs.declared.Times.{Times}
use Rattle.bands.specs.Times.{times_ok}
use Rattle.unit.specs.UnitState.{UnitState}
use Rattle.unit.specs.Layout.{Model}
use Rattle.unit.specs.Range.{in_range}
use Rattle.judges.specs.Judges.{judged, judged_given, bad_input, judged_fresh}
use Rattle.machine.specs.Ending.{Memory, Ending, refused, quietly}
use Rattle.machine.specs.Whole.{Play, apply, tail, whole_due, at_once}
use Rattle.machine.specs.Several.{Several, frames_due}
use Rattle.machine.specs.Jobs.{Job, read_job, mix_job, line_job, output_job, open_due, job_due}
use Rattle.machine.specs.Calls.{Call, reset, whole, frames, start, job, close, abandon, ending, answer}
use Rattle.machine.specs.Requests.{refusal}
use Rattle.machine.proofs.Cases.{whole_either, close-either}
use Rattle.demands.specs.Several.{applies, after_all, outputs_of, Singly}
use Rattle.demands.specs.Refusals.{so_far, output_so_far, RefusalChangesNothing, RefusedFresh, given_back, FailureGivesBack, AbandonGivesBack}
use Rattle.judges.proofs.Fits.{told}
use Rattle.demands.proofs.Lent.{whole_lent, close_lent}
use Rattle.demands.proofs.Several.{none-behind, apply_at, singly_is}
use Rattle.demands.proofs.AnyOrderMarks.{true≢false}

-- ---- several frames at once end as the one among them that is refused

-- of the answers that are bad: `leaves` is what a whole call that is answered so leaves of the memory that it finds
module _ (m : Model) (bad : Answer → Type 0) (leaves : Memory → Memory) (not_done : bad Accepted → ⊥)
    (whole-leaves : (w : Memory) (p : Play) (output : List Float) → let x = at_once m w p output in bad x.answer → x ≡ refused x.answer (leaves w) output) where
  module _ (w : Memory) (t : Times) (coefficients : List Float) (f n : ℕ) (input output : List Float) where
    abbrev calls : List Call
    calls = applies t coefficients f n input output

    -- answered so, x leaves that of the memory that the frames done left, and the output behind theirs
    abbrev Leaves : Several → Type 0
    Leaves x =
        let first = take x.done calls in
        bad x.ending.answer → x.ending ≡ refused x.ending.answer (leaves (after_all m w first)) (outputs_of m w first ++ drop (x.done * f) output)

    -- with none of 1 to 7 due: the one that is refused found that memory
    singly_leave : (x : Several) → Singly m w f calls output x → Leaves x
    unfolding ending
    singly_leave x s b =
        elim (eq-or-lt_of_le s.few) [
          | inl e ↦ absurd (not_done (rw (s.all e).answered at b))
          | inr h ↦
              let d = rw (apply_at t coefficients f n x.done input output h) at (s.stopped h) in
              let e = whole-leaves (after_all m w (take x.done calls)) (apply t coefficients (row f x.done input)) (row f x.done output) (rw d.answered at b) in
              λ i. record {
                answer = x.ending.answer;
                verdict = (d.verdict ∙ ap (λ (y : Ending). y.verdict) e) i;
                memory = (d.memory ∙ ap (λ (y : Ending). y.memory) e) i;
                output = s.outputs i;
              }
        ]

    -- with one of them due no frame was done
    judged_leave : (due : Answer) → (bad due → leaves w ≡ w) → Leaves (record { ending = refused due w output; done = 0 })
    unfolding after_all outputs_of
    judged_leave due stays b = λ i. refused due (sym (stays b) i) (sym (none-behind f output) i)

  frames_leave : (w : Memory) (t : Times) (coefficients input output : List Float)
      → let due = frames_due m w t coefficients input output in
      let c = frames t coefficients input output in
      (bad due → leaves w ≡ w) → bad (answer m w c) → ending m w c ≡ refused (answer m w c) (leaves (so_far m w c)) (output_so_far m w c)
  unfolding ending
  frames_leave w t coefficients input output stays =
      let f = w.unit.settings.frame in
      let n = length input / f in
      let due = frames_due m w t coefficients input output in
      accept_either (Leaves w t coefficients f n input output) due
      (λ a. singly_leave w t coefficients f n input output _ (singly_is m t coefficients f n w input output))
      (λ r. judged_leave w t coefficients f n input output due stays)

-- ---- 1 to 8

-- is no acceptance
pub refused_no : (a : Answer) → refusal a ≡ true → accepted a ≡ false
refused_no (Ok tt) e = absurd (true≢false (sym e))
refused_no (Err bad) e = refl

quiet_no : (due : Answer) (new old : Memory) → refusal due ≡ true → quietly due new old ≡ refused due old []
quiet_no due new old e = ap (refused' due) (accept_no due new old (refused_no due e))
  where
    refused' : Answer → Memory → Ending
    refused' a w = refused a w []

whole_refused : (m : Model) (w : Memory) (p : Play) (output : List Float) → let x = at_once m w p output in
    refusal x.answer ≡ true → x ≡ refused x.answer w output
whole_refused m w p output =
    whole_either m w output (λ (x : Ending). refusal x.answer ≡ true → x ≡ refused x.answer w output) p
    (λ d q r. absurd (true≢false (sym r))) (λ d q r. absurd (true≢false (sym r))) (λ n r. refl)

pub refusal_changes_nothing : RefusalChangesNothing
unfolding ending
refusal_changes_nothing m w reset e = quiet_no _ _ w e
refusal_changes_nothing m w (whole p output) e = whole_refused m w p output e
refusal_changes_nothing m w (frames t coefficients input output) e =
    frames_leave m (λ a. refusal a ≡ true) (λ v. v) (λ r. true≢false (sym r)) (whole_refused m) w t coefficients input output (λ r. refl) e
refusal_changes_nothing m w (start p) e = quiet_no _ _ w e
refusal_changes_nothing m w (job j) e = quiet_no _ _ w e
refusal_changes_nothing m w (close output) e =
    close-either m w output (λ (x : Ending). refusal x.answer ≡ true → x ≡ refused x.answer w output)
    (λ d q r. absurd (true≢false (sym r))) (λ d q r. absurd (true≢false (sym r))) (λ n r. refl) e
refusal_changes_nothing m w abandon e = quiet_no _ _ w e

pub refused_fresh : RefusedFresh
refused_fresh m rate frame store e = quiet_no (judged_fresh m rate frame (length store)) _ _ e

-- ---- 9: no judgement but that of a frame answers it

abbrev pub is_nine : Answer → Bool
is_nine a = eqb (number_of a) 9

nine_needed : (ok : Bool) (bad rest : Answer) → is_nine bad ≡ false → is_nine rest ≡ false → is_nine (need ok bad rest) ≡ false
nine_needed true bad rest b r = r
nine_needed false bad rest b r = b

judged_not_nine : (m : Model) (u : UnitState) (lent line turn : Bool) → is_nine (judged m u lent line turn) ≡ false
unfolding judged
judged_not_nine m u lent line turn =
    nine_needed (in_range m u) (Err BadState) _ refl (nine_needed lent (Err BadLength) _ refl (nine_needed line (Err BadIndex) _ refl (nine_needed turn (Err OutOfTurn) Accepted refl refl)))

found_not_nine : (f : Option ℕ) → is_nine (bad_input f) ≡ false
found_not_nine (Some i) = refl
found_not_nine None = refl

given_not_nine : (t : Times) (coefficients input : List Float) → is_nine (judged_given t coefficients input) ≡ false
unfolding judged_given
given_not_nine t coefficients input =
    nine_needed (times_ok t) (Err BadTime) _ refl (nine_needed (all_finite coefficients) (Err BadCoefficient) _ refl (found_not_nine (first_bad input)))

or_not_nine : (a b : Answer) → is_nine a ≡ false → is_nine b ≡ false → is_nine (or_else a b) ≡ false
or_not_nine a b p q = accept_either (λ (x : Answer). is_nine x ≡ false) a {new = b} {old = a} (λ _. q) (λ _. p)

apply_not_nine : (m : Model) (u : UnitState) (t : Times) (coefficients input : List Float) (slices line turn : Bool)
    → is_nine (or_else (judged m u slices line turn) (judged_given t coefficients input)) ≡ false
apply_not_nine m u t coefficients input slices line turn =
    or_not_nine (judged m u slices line turn) (judged_given t coefficients input) (judged_not_nine m u slices line turn) (given_not_nine t coefficients input)

pub whole_not_nine : (m : Model) (u : UnitState) (p : Play) (store work output : ℕ) → is_nine (whole_due m u p store work output) ≡ false
whole_not_nine m u (apply t coefficients input) store work output = apply_not_nine m u t coefficients input _ _ _
whole_not_nine m u tail store work output = judged_not_nine m u _ _ _

pub frames_not_nine : (m : Model) (w : Memory) (t : Times) (coefficients input output : List Float) → is_nine (frames_due m w t coefficients input output) ≡ false
frames_not_nine m w t coefficients input output = apply_not_nine m w.unit t coefficients [] _ _ _

open_not_nine : (m : Model) (u : UnitState) (p : Play) (store work : ℕ) → is_nine (open_due m u p store work) ≡ false
open_not_nine m u (apply t coefficients input) store work = apply_not_nine m u t coefficients input _ _ _
open_not_nine m u tail store work = judged_not_nine m u _ _ _

job_not_nine : (m : Model) (w : Memory) (j : Job) → is_nine (job_due m w j) ≡ false
job_not_nine m w (read_job i) = judged_not_nine m w.unit _ _ _
job_not_nine m w mix_job = judged_not_nine m w.unit _ _ _
job_not_nine m w (line_job i) = judged_not_nine m w.unit _ _ _
job_not_nine m w output_job = judged_not_nine m w.unit _ _ _

no_nine : {A : Type 0} (due : Answer) → is_nine due ≡ false → due ≡ Err NotFinite → A
no_nine due n e = absurd (true≢false (ap is_nine (sym e) ∙ n))

whole_failed : (m : Model) (w : Memory) (p : Play) (output : List Float) → let x = at_once m w p output in
    x.answer ≡ Err NotFinite → x ≡ refused x.answer (given_back m w) output
whole_failed m w p output =
    whole_either m w output (λ (x : Ending). x.answer ≡ Err NotFinite → x ≡ refused x.answer (given_back m w) output) p
    (λ d q r. no_nine Accepted refl r)
    (λ d q r. rw (whole_lent m w.unit (length w.store) (length w.work) (length output) p d).free refl)
    (λ n r. no_nine _ (whole_not_nine m w.unit p (length w.store) (length w.work) (length output)) r)

pub failure_gives_back : FailureGivesBack
unfolding ending
failure_gives_back m w reset e = no_nine _ (judged_not_nine m w.unit _ _ _) e
failure_gives_back m w (whole p output) e = rw e at (whole_failed m w p output e)
failure_gives_back m w (frames t coefficients input output) e =
    rw e at
    (frames_leave m (λ a. a ≡ Err NotFinite) (given_back m) (no_nine Accepted refl) (whole_failed m) w t coefficients input output
    (no_nine _ (frames_not_nine m w t coefficients input output)) e)
failure_gives_back m w (start p) e = no_nine _ (open_not_nine m w.unit p _ _) e
failure_gives_back m w (job j) e = no_nine _ (job_not_nine m w j) e
failure_gives_back m w (close output) e =
    close-either m w output (λ (x : Ending). x.answer ≡ Err NotFinite → x ≡ refused (Err NotFinite) (given_back m w) output)
    (λ d q r. no_nine Accepted refl r)
    (λ d q r. rw (close_lent m w.unit (length w.store) (length w.work) (length output) d).busy refl)
    (λ n r. no_nine _ (judged_not_nine m w.unit _ _ _) r) e
failure_gives_back m w abandon e = no_nine _ (judged_not_nine m w.unit _ _ _) e

pub abandon_gives_back : AbandonGivesBack
unfolding ending
abandon_gives_back m w e = rw (e, (told m w.unit _ _ w.unit.held.busy e).on_turn) refl
