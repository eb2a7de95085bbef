-- What each apply leaves of the unit and its memory, several frames at once leave. Assumes nothing.
use Prim.Native.Nat.{ℕ, zero, suc, ◌/◌}
use mathlib.Core.List.{List}
use lib.Ieee.{Float}
use lib.ListN.{length, take, drop}
use Rattle.samples.proofs.Laws.{accept_either}
use Rattle.bands.specs.declared.Times.{Times}
use Rattle.unit.specs.Layout.{Model}
use Rattle.machine.specs.Ending.{Memory}
use Rattle.machine.specs.Whole.{Play, apply, at_once}
use Rattle.machine.specs.Several.{Several, singly, frames_due, several}

module _ (m : Model) (P : Memory → Type 0) (keeps : (v : Memory) (p : Play) (output : List Float) → P v → P (at_once m v p output).memory)
    (t : Times) (coefficients : List Float) where
  abbrev In : Several → Type 0
  In x = P x.ending.memory

  singly_keeps : (f n : ℕ) (w : Memory) (input output : List Float) → P w → In (singly m t coefficients f n w input output)
  unfolding singly
  singly_keeps f zero w input output h = h
  singly_keeps f (suc n) w input output h =
      let e = at_once m w (apply t coefficients (take f input)) (take f output) in
      let k = keeps w (apply t coefficients (take f input)) (take f output) h in
      accept_either In e.answer (λ a. singly_keeps f n e.memory (drop f input) (drop f output) k) (λ a. k)

  pub several_keeps : (w : Memory) (input output : List Float) → P w → In (several m w t coefficients input output)
  several_keeps w input output h =
      let f = w.unit.settings.frame in
      accept_either In (frames_due m w t coefficients input output)
      (λ a. singly_keeps f (length input / f) w input output h) (λ a. h)
