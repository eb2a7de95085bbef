-- How a whole call and a close end, by cases: refused, failed, or kept. Assumes nothing.
use Rattle.std.specs.Prelude.{Err}
use mathlib.Core.Path.{◌≡◌, refl}
use mathlib.Core.Bool.{Bool, true, false, cond}
use mathlib.Core.List.{List}
use lib.Ieee.{Float}
use lib.ListN.{length}
use Rattle.samples.specs.declared.Refusal.TheVariants.{NotFinite}
use Rattle.samples.specs.Answers.{Accepted, accepted}
use Rattle.samples.proofs.Laws.{accept_either}
use Rattle.unit.specs.Layout.{Model}
use Rattle.judges.specs.Turns.{judged_close}
use Rattle.stages.specs.Settle.{frame_finite}
use Rattle.rows.specs.Rows.{rows_of}
use Rattle.frame.specs.Parts.{rows_finite}
use Rattle.machine.specs.Ending.{Memory, Ending, refused}
use Rattle.machine.specs.Whole.{Play, frame_for, count_for, whole_due, kept, wiped, played, at_once}
use Rattle.machine.specs.Jobs.{memory_shut, kept_rows, ended, closed}

pub cond_either : {A : Type 0} (P : A → Type 0) (b : Bool) {x y : A} → (b ≡ true → P x) → (b ≡ false → P y) → P (cond b x y)
cond_either P true f g = f refl
cond_either P false f g = g refl

module _ (m : Model) (w : Memory) (output : List Float) (P : Ending → Type 0) where
  pub whole_either : (p : Play)
      → let due = whole_due m w.unit p (length w.store) (length w.work) (length output) in
      let r = frame_for m w.unit p w.store in
      (due ≡ Accepted → frame_finite r ≡ true → P (kept m w r (count_for w.unit p)))
      → (due ≡ Accepted → frame_finite r ≡ false → P (refused (Err NotFinite) (wiped w) output))
      → (accepted due ≡ false → P (refused due w output))
      → P (at_once m w p output)
  unfolding played
  whole_either p f g h =
      accept_either P (whole_due m w.unit p (length w.store) (length w.work) (length output))
      (λ e. cond_either P (frame_finite (frame_for m w.unit p w.store)) (f e) (g e)) h

  pub close-either :
      let due = judged_close m w.unit (length w.store) (length w.work) (length output) in
      let r = rows_of m.lines w.unit.settings.frame w.work in
      (due ≡ Accepted → rows_finite w.unit.filters r ≡ true → P (kept_rows m w r))
      → (due ≡ Accepted → rows_finite w.unit.filters r ≡ false → P (refused (Err NotFinite) (memory_shut m w) output))
      → (accepted due ≡ false → P (refused due w output))
      → P (closed m w output)
  unfolding ended
  close-either f g h =
      accept_either P (judged_close m w.unit (length w.store) (length w.work) (length output))
      (λ e. cond_either P (rows_finite w.unit.filters (rows_of m.lines w.unit.settings.frame w.work)) (f e) (g e)) h
