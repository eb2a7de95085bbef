-- Several frames at once (R10): applies made singly, with one set of times and coefficients.
use Rattle.std.specs.Prelude.{ℕ, zero, suc, ◌/◌, List, ◌++◌, Float, pos, length, take, drop}
use Rattle.samples.specs.Answers.{Answer, Accepted, accept}
use Rattle.audio_buffer.specs.Verdict.{verdict_of}
use Rattle.bands.specs.declared.Times.{Times}
use Rattle.unit.specs.declared.FramesOutcome.{FramesOutcome}
use Rattle.unit.specs.Layout.{Model}
use Rattle.judges.specs.Judges.{judged_frames}
use Rattle.machine.specs.Ending.{Memory, Ending, outcome_of, refused}
use Rattle.machine.specs.Whole.{apply, at_once}

-- R10.6: how several frames end: as a call does, and how many of them were done
pub record Several : Type 0 where
  pub ending : Ending
  pub done : ℕ

-- R10.9: no frame is left to be done. The verdict is that of the count kept
abbrev pub none_left : Memory → List Float → Several
none_left w output = record { ending = record { answer = Accepted; verdict = verdict_of w.unit.count; memory = w; output = output }; done = 0 }

-- R10.4: a frame that ended in e is done, and those after it came to x
abbrev pub done_then : Ending → Several → Several
done_then e x = record {
  ending = record { answer = x.ending.answer; verdict = x.ending.verdict; memory = x.ending.memory; output = e.output ++ x.ending.output };
  done = suc x.done;
}

-- R10.5, R10.7: a frame that ended in e is refused. Those after it aren't looked at, and their output stays
abbrev pub stopped_by : Ending → List Float → Several
stopped_by e rest =
    record { ending = record { answer = e.answer; verdict = e.verdict; memory = e.memory; output = e.output ++ rest }; done = 0 }

-- R10.4: n applies of f samples each, each on what the one before it left, up to the first that is refused
unfoldable pub singly : Model → Times → List Float → ℕ → ℕ → Memory → List Float → List Float → Several
singly m t coefficients f zero w input output = none_left w output
singly m t coefficients f (suc n) w input output =
    let e = at_once m w (apply t coefficients (take f input)) (take f output) in
    accept e.answer (done_then e (singly m t coefficients f n e.memory (drop f input) (drop f output))) (stopped_by e (drop f output))

-- R10.2: what is due of them of 1 to 7
abbrev pub frames_due : Model → Memory → Times → List Float → List Float → List Float → Answer
frames_due m w t coefficients input output =
    judged_frames m w.unit t coefficients (length input) (length w.store) (length w.work) (length output)

-- R10.2, R10.3: that is judged once, before the first frame
abbrev pub several : Model → Memory → Times → List Float → List Float → List Float → Several
several m w t coefficients input output =
    let f = w.unit.settings.frame in
    let due = frames_due m w t coefficients input output in
    accept due (singly m t coefficients f (length input / f) w input output) (record { ending = refused due w output; done = 0 })

-- R10.6: what the caller is given of it beside the memory lent
abbrev pub frames_outcome_of : Several → FramesOutcome
frames_outcome_of x = record { outcome = outcome_of x.ending; done = record { 0 = pos x.done } }
