-- What several frames at once tell that 1 to 7 let by; and where they are accepted, all are done and handed out. Assumes nothing.
use Prim.Native.Nat.{ℕ, ◌*◌, ◌/◌, ◌%◌}
use mathlib.Core.Path.{◌≡◌, refl, sym, ap, ◌∙◌}
use mathlib.Core.Bool.{true, false}
use mathlib.Core.List.{List, [], append-nil}
use mathlib.Core.Logic.{inl, inr}
use native.Mathlib.Nat.{eq-or-lt_of_le, div-add-mod'}
use native.Mathlib.Omega.{arith}
use lib.Ieee.{Float}
use lib.ListN.{length, drop, drop_of_length-le}
use lib.Seq.{take_all}
use Rattle.samples.specs.Answers.{Accepted, accepted}
use Rattle.samples.proofs.Laws.{accept_either}
use Rattle.search.specs.Search.{all_finite}
use Rattle.bands.specs.declared.Times.{Times}
use Rattle.bands.specs.Times.{times_ok}
use Rattle.unit.specs.Layout.{Model, work_len, coefficients_len}
use Rattle.judges.proofs.Fits as fits
use Rattle.machine.specs.Ending.{Memory}
use Rattle.machine.specs.Several.{Several, several, frames_due}
use Rattle.machine.specs.Calls.{Call}
use Rattle.demands.specs.Several.{applies_of, Singly, NoneWhileOpen, AllHandedOut}
use Rattle.demands.proofs.Lent.{Lent}
use Rattle.demands.proofs.Several.{each_frame, several_is_singly}
use Rattle.demands.proofs.AnyOrderMarks.{true≢false}

-- a unit and a memory of which an apply is judged by what it is given alone
pub record Playable (m : Model) (w : Memory) : Type 0 where
  pub lent : Lent m w.unit (length w.store)
  pub free : w.unit.held.busy ≡ false
  pub work : length w.work ≡ work_len m w.unit.settings.frame

-- times and coefficients of which it is judged by its input alone
pub record Suits (m : Model) (t : Times) (coefficients : List Float) : Type 0 where
  pub long : length coefficients ≡ coefficients_len m
  pub times : times_ok t ≡ true
  pub finite : all_finite coefficients ≡ true

pub record FramesLetBy (m : Model) (w : Memory) (t : Times) (coefficients input output : List Float) : Type 0 where
  pub playable : Playable m w
  pub suits : Suits m t coefficients
  pub frames : length input ≡ length input / w.unit.settings.frame * w.unit.settings.frame
  pub beside : length output ≡ length input

whole_frames : (f n : ℕ) → n % f ≡ 0 → n ≡ n / f * f
whole_frames f n e = omega (arith, div-add-mod' n f)

pub frames_let_by : (m : Model) (w : Memory) (t : Times) (coefficients input output : List Float) → frames_due m w t coefficients input output ≡ Accepted
    → FramesLetBy m w t coefficients input output
frames_let_by m w t coefficients input output e =
    let h = fits.frames_let_by m w.unit t coefficients (length input) (length w.store) (length w.work) (length output) e in
    record {
      playable = record { lent = record { range = h.range; long = h.rings }; free = h.free; work = h.rows };
      suits = record { long = h.given; times = h.times; finite = h.finite };
      frames = whole_frames w.unit.settings.frame (length input) h.whole;
      beside = h.beside;
    }

-- with a frame open 1 to 7 don't
pub none_while_open : NoneWhileOpen
none_while_open m w t coefficients input output busy =
    accept_either (λ (x : Several). x.done ≡ 0) (frames_due m w t coefficients input output)
    (λ a. absurd (true≢false (sym busy ∙ (frames_let_by m w t coefficients input output a).playable.free))) (λ r. refl)

-- ---- all are done

-- accepted, 1 to 7 let them by, and none of them was refused
all_let_by : (m : Model) (w : Memory) (t : Times) (coefficients input output : List Float) → (several m w t coefficients input output).ending.answer ≡ Accepted
    → frames_due m w t coefficients input output ≡ Accepted
all_let_by m w t coefficients input output =
    let due = frames_due m w t coefficients input output in
    accept_either (λ (x : Several). x.ending.answer ≡ Accepted → due ≡ Accepted) due (λ a e. a) (λ r e. e)

none_refused : (m : Model) (w : Memory) (f : ℕ) (calls : List Call) (output : List Float) (x : Several) → Singly m w f calls output x → x.ending.answer ≡ Accepted
    → x.done ≡ length calls
none_refused m w f calls output x s e =
    elim (eq-or-lt_of_le s.few) [
      | inl q ↦ q
      | inr h ↦ let d = s.stopped h in absurd (true≢false (ap accepted (sym e ∙ d.answered) ∙ d.refused))
    ]

pub all_handed_out : AllHandedOut
all_handed_out m w t coefficients input output e =
    let f = w.unit.settings.frame in
    let calls = applies_of w t coefficients input output in
    let x = several m w t coefficients input output in
    let due = all_let_by m w t coefficients input output e in
    let h = frames_let_by m w t coefficients input output due in
    let s = several_is_singly m w t coefficients input output due in
    let all = none_refused m w f calls output x s e in
    let number = all ∙ (each_frame w t coefficients input output).0 in
    let rest : drop (x.done * f) output ≡ [] = drop_of_length-le output {i = x.done * f} (omega (arith, ap (λ (k : ℕ). k * f) number, h.frames, h.beside)) in
    (number, s.outputs ∙ rw (rest, append-nil, take_all x.done calls (omega (arith, all))) refl)
