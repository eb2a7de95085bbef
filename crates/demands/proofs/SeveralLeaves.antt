-- Several frames by how the first of them ends, and what they leave of the work memory. Assumes nothing.
use Rattle.std.specs.Prelude.{Err}
use Prim.Native.Nat.{ℕ, zero, suc, ◌/◌}
use mathlib.Core.Path.{◌≡◌, refl, ◌∙◌}
use mathlib.Core.Bool.{Bool, true, false, ◌||◌, cond}
use mathlib.Core.List.{List}
use native.Mathlib.Omega.{arith}
use borrow.Author.Tests.{le-leb}
use lib.Dec.{leb}
use lib.Ieee.{Float}
use lib.ListN.{length, take, drop, length-replicate}
use Rattle.samples.specs.declared.Refusal.TheVariants.{NotFinite}
use Rattle.samples.specs.Answers.{Answer, Accepted, accept, accepted}
use Rattle.samples.proofs.Laws.{accept_no, accept_either}
use Rattle.bands.specs.declared.Times.{Times}
use Rattle.unit.specs.Layout.{Model}
use Rattle.machine.specs.Ending.{Memory, Ending, refused, cleared}
use Rattle.machine.specs.Whole.{Play, apply, frame_for, count_for, whole_due, kept, wiped}
use Rattle.machine.specs.Several.{Several, done_then, stopped_by, singly, frames_due}
use Rattle.machine.proofs.Cases.{whole_either}
use Rattle.demands.specs.Several.{SeveralWork}
use Rattle.demands.proofs.Refused.{is_nine, frames_not_nine, whole_not_nine}

-- ---- n frames and one before them, by how that one ends

module _ (m : Model) (t : Times) (coefficients : List Float) (f n : ℕ) (w : Memory) (input output : List Float) where
  abbrev p : Play
  p = apply t coefficients (take f input)

  abbrev pub due : Answer
  due = whole_due m w.unit p (length w.store) (length w.work) (length (take f output))

  -- where it is kept
  abbrev pub first : Ending
  first = kept m w (frame_for m w.unit p w.store) (count_for w.unit p)

  -- what the others come to
  abbrev pub later : Memory → Several
  later v = singly m t coefficients f n v (drop f input) (drop f output)

  pub singly_either : (P : Several → Type 0)
      → (due ≡ Accepted → P (done_then first (later first.memory)))
      → (due ≡ Accepted → P (stopped_by (refused (Err NotFinite) (wiped w) (take f output)) (drop f output)))
      → (accepted due ≡ false → P (stopped_by (refused due w (take f output)) (drop f output)))
      → P (singly m t coefficients f (suc n) w input output)
  unfolding singly
  singly_either P done failed not_done =
      whole_either m w (take f output) (λ (e : Ending). P (accept e.answer (done_then e (later e.memory)) (stopped_by e (drop f output)))) p
      (λ d q. done d) (λ d q. failed d)
      (λ r. rw (accept_no due (done_then (refused due w (take f output)) (later w)) (stopped_by (refused due w (take f output)) (drop f output)) r) (not_done r))

-- ---- the work memory

-- what x leaves of `work`
abbrev Works : List Float → Several → Type 0
Works work x = x.ending.memory.work ≡ cond (leb 1 x.done || is_nine x.ending.answer) (cleared work) work

same_either : {A : Type 0} (b : Bool) {x y : A} → x ≡ y → cond b x y ≡ y
same_either true e = e
same_either false e = refl

-- behind a frame that is done it is +0 already
done_works : (work : List Float) (e : Ending) (x : Several) → Works (cleared work) x → Works work (done_then e x)
done_works work e x h =
    let again : cleared (cleared work) ≡ cleared work = rw length-replicate refl in
    rw (le-leb 1 (suc x.done) (omega arith)) (h ∙ same_either (leb 1 x.done || is_nine x.ending.answer) again)

singly_works : (m : Model) (t : Times) (coefficients : List Float) (f n : ℕ) (w : Memory) (input output : List Float)
    → Works w.work (singly m t coefficients f n w input output)
unfolding singly
singly_works m t coefficients f zero w input output = refl
singly_works m t coefficients f (suc n) w input output =
    let e = first m t coefficients f n w input output in
    singly_either m t coefficients f n w input output (Works w.work)
    (λ d. done_works w.work e (later m t coefficients f n w input output e.memory) (singly_works m t coefficients f n e.memory (drop f input) (drop f output)))
    (λ d. refl)
    (λ r. rw (whole_not_nine m w.unit (apply t coefficients (take f input)) (length w.store) (length w.work) (length (take f output))) refl)

pub several_work : SeveralWork
several_work m w t coefficients input output =
    let f = w.unit.settings.frame in
    accept_either (Works w.work) (frames_due m w t coefficients input output)
    (λ a. singly_works m t coefficients f (length input / f) w input output)
    (λ r. rw (frames_not_nine m w t coefficients input output) refl)
