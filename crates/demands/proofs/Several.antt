-- Several frames at once are the same applies made singly, up to the first that is refused. Assumes nothing.
use Prim.Native.Nat.{ℕ, zero, suc, ◌*◌, ◌/◌, ◌<◌}
use mathlib.Core.Path.{◌≡◌, refl, sym, ap, ◌∙◌}
use mathlib.Core.Bool.{false}
use mathlib.Core.List.{List, ◌∷◌, ◌++◌, append_assoc}
use native.Mathlib.Nat.{zero-mul, zero-div, not-suc-le-zero, le_of_suc-le-suc}
use native.Mathlib.Omega.{arith}
use lib.Ieee.{Float}
use lib.ListN.{length, get_or, take, drop, take-append-drop}
use lib.Seq.{drop-drop}
use Rattle.samples.specs.Lists.{row}
use Rattle.samples.specs.Answers.{Accepted, accepted}
use Rattle.samples.proofs.Laws.{accept_either}
use Rattle.samples.proofs.Rows.{next_row}
use Rattle.bands.specs.declared.Times.{Times}
use Rattle.unit.specs.Layout.{Model}
use Rattle.machine.specs.Ending.{Memory, Ending}
use Rattle.machine.specs.Whole.{Play, apply, at_once}
use Rattle.machine.specs.Several.{Several, done_then, stopped_by, singly}
use Rattle.machine.specs.Calls.{Call, reset, whole, ending}
use Rattle.machine.proofs.Cases.{whole_either}
use Rattle.demands.specs.Several.{applies, after_all, outputs_of, AllAccepted, Singly, EachFrame, SeveralIsSingly, NoFrames}
use Rattle.demands.proofs.AnyOrderMarks.{true≢false}

-- ---- the applies

-- behind no frame is all
pub none-behind : (f : ℕ) (l : List Float) → drop (0 * f) l ≡ l
none-behind f l = rw zero-mul

-- number k plays frame k
pub apply_at : (t : Times) (coefficients : List Float) (f n k : ℕ) (input output : List Float) → k < length (applies t coefficients f n input output)
    → get_or (applies t coefficients f n input output) k reset ≡ whole (apply t coefficients (row f k input)) (row f k output)
apply_at t coefficients f zero k input output h = absurd (not-suc-le-zero h)
apply_at t coefficients f (suc n) zero input output h = refl
apply_at t coefficients f (suc n) (suc k) input output h = apply_at t coefficients f n k (drop f input) (drop f output) (le_of_suc-le-suc h)

apply_count : (t : Times) (coefficients : List Float) (f n : ℕ) (input output : List Float) → length (applies t coefficients f n input output) ≡ n
apply_count t coefficients f zero input output = refl
apply_count t coefficients f (suc n) input output = ap suc (apply_count t coefficients f n (drop f input) (drop f output))

pub each_frame : EachFrame
each_frame w t coefficients input output =
    let f = w.unit.settings.frame in
    let n = length input / f in
    (apply_count t coefficients f n input output, λ k. apply_at t coefficients f n k input output)

-- one that is refused leaves the output
output_stays : (m : Model) (w : Memory) (p : Play) (output : List Float) → accepted (at_once m w p output).answer ≡ false → (at_once m w p output).output ≡ output
output_stays m w p output =
    whole_either m w output (λ (x : Ending). accepted x.answer ≡ false → x.output ≡ output) p
    (λ d q r. absurd (true≢false r)) (λ d q r. refl) (λ n r. refl)

-- ---- a call c on w, and then others

module _ (m : Model) (w : Memory) (f : ℕ) (c : Call) (cs : List Call) (output : List Float) where
  abbrev e : Ending
  e = ending m w c

  -- it is done, and they come to x
  done_then_lem : (x : Several) → e.answer ≡ Accepted → Singly m e.memory f cs (drop f output) x → Singly m w f (c ∷ cs) output (done_then e x)
  unfolding after_all outputs_of AllAccepted
  done_then_lem x a s = record {
    few = omega (arith, s.few);
    first = (a, s.first);
    outputs = rw (s.outputs, drop-drop, next_row, append_assoc);
    all = λ q. let d = s.all (omega arith) in record { answered = d.answered; verdict = d.verdict; memory = d.memory };
    stopped = λ h. let d = s.stopped (omega arith) in record { refused = d.refused; answered = d.answered; verdict = d.verdict; memory = d.memory };
  }

  -- it is refused, and they aren't looked at
  stopped_at : accepted e.answer ≡ false → e.output ≡ take f output → Singly m w f (c ∷ cs) output (stopped_by e (drop f output))
  unfolding after_all outputs_of AllAccepted
  stopped_at n o = record {
    few = omega arith;
    first = tt;
    outputs = ap (λ (l : List Float). l ++ drop f output) o ∙ take-append-drop f output ∙ sym (none-behind f output);
    all = λ q. absurd (omega arith);
    stopped = λ h. record { refused = n; answered = refl; verdict = refl; memory = refl };
  }

-- ---- n frames of f samples

module _ (m : Model) (t : Times) (coefficients : List Float) (f : ℕ) where
  pub singly_is : (n : ℕ) (w : Memory) (input output : List Float)
      → Singly m w f (applies t coefficients f n input output) output (singly m t coefficients f n w input output)
  unfolding singly ending after_all outputs_of AllAccepted
  singly_is zero w input output = record {
    few = omega arith;
    first = tt;
    outputs = sym (none-behind f output);
    all = λ q. record { answered = refl; verdict = refl; memory = refl };
    stopped = λ h. absurd (omega arith);
  }
  singly_is (suc n) w input output =
      let p = apply t coefficients (take f input) in
      let e = at_once m w p (take f output) in
      let c = whole p (take f output) in
      let cs = applies t coefficients f n (drop f input) (drop f output) in
      accept_either (Singly m w f (c ∷ cs) output) e.answer
      (λ a. done_then_lem m w f c cs output _ a (singly_is n e.memory (drop f input) (drop f output)))
      (λ r. stopped_at m w f c cs output r (output_stays m w p (take f output) r))

pub several_is_singly : SeveralIsSingly
several_is_singly m w t coefficients input output due =
    let f = w.unit.settings.frame in
    rw due (singly_is m t coefficients f (length input / f) w input output)

pub no_frames : NoFrames
unfolding singly
no_frames m w t coefficients output due = rw (due, zero-div) refl
