-- What a frame of the program is answered, and by its answer what it leaves of the unit and of the silent row. Assumes nothing.
use mathlib.Core.Path.{◌≡◌, refl, sym, ◌∙◌}
use mathlib.Core.Bool.{Bool, true, false}
use mathlib.Core.List.{List}
use lib.Ieee.{Float}
use lib.ListN.{length, replicate}
use Rattle.samples.specs.Answers.{Answer, accept, or_else}
use Rattle.samples.specs.Binary32.{+0}
use Rattle.samples.proofs.Laws.{accept_no, accept_either}
use Rattle.unit.specs.UnitState.{UnitState}
use Rattle.unit.specs.Layout.{wall}
use Rattle.stages.specs.Frame.{Frame, new_filters}
use Rattle.stages.specs.Settle.{frame_finite, nine_of}
use Rattle.machine.specs.Ending.{Ending}
use Rattle.machine.specs.Whole.{Play, whole_due, frame_for, count_for, moved_on, played}
use Rattle.shell.specs.Settings.{frame, store_floats, work_floats}
use Rattle.shell.specs.Frames.{input_play, play_ends}
use Rattle.shell.specs.Refused.{DueOrNine}

module _ (u : UnitState) (p : Play) (store work : List Float) where
  abbrev r : Frame
  r = frame_for wall u p store

  -- where it is accepted, the unit goes on and the row is the frame's
  abbrev Left : Ending → Type 0
  Left e =
      (e.memory.unit ≡ accept e.answer (moved_on wall u (new_filters r) (count_for u p)) u)
      × (e.output ≡ accept e.answer r.output.out (replicate frame +0))

  abbrev due : Answer
  due = whole_due wall u p (length store) (length work) frame

  abbrev end : Ending
  end = played wall (record { unit = u; store = store; work = work }) r (count_for u p) (replicate frame +0)

  pub left : Left (play_ends u p store work)
  unfolding played
  left = accept_either Left due (λ _. go (frame_finite r) refl) (λ h. (sym (accept_no due _ _ h), sym (accept_no due _ _ h)))
    where
      go : (b : Bool) → frame_finite r ≡ b → Left end
      go true h = rw h (refl, refl)
      go false h = rw h (refl, refl)

  answer_is : (play_ends u p store work).answer ≡ or_else due (nine_of r)
  unfolding played
  answer_is = accept_either (λ (e : Ending). e.answer ≡ or_else due (nine_of r)) due (λ h. rw h (go (frame_finite r) refl)) (λ h. sym (accept_no due (nine_of r) due h))
    where
      go : (b : Bool) → frame_finite r ≡ b → end.answer ≡ nine_of r
      go true h = rw h refl
      go false h = rw h refl

pub due_or_nine : DueOrNine
due_or_nine u bytes store work m n = (on (input_play bytes), on Play.tail)
  where
    on : (p : Play) → (play_ends u p store work).answer ≡ or_else (whole_due wall u p store_floats work_floats frame) (nine_of (frame_for wall u p store))
    on p = answer_is u p store work ∙ (λ j. or_else (whole_due wall u p (m j) (n j) frame) (nine_of (frame_for wall u p store)))
