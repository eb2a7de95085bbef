-- All calls that are given a state, as one.
use Rattle.std.specs.Prelude.{List, Float}
use Rattle.samples.specs.Answers.{Answer}
use Rattle.unit.specs.Layout.{Model}
use Rattle.machine.specs.Ending.{Memory, Ending}
use Rattle.bands.specs.declared.Times.{Times}
use Rattle.machine.specs.Whole.{Play, silenced, at_once}
use Rattle.machine.specs.Several.{several}
use Rattle.machine.specs.Jobs.{Job, opened, done, closed, abandoned}

-- a whole call, several frames at once and a close are lent an output besides. `start` opens a frame
pub data Call : Type 0 where
  reset : Call
  whole : Play → List Float → Call
  frames : Times → List Float → List Float → List Float → Call
  start : Play → Call
  job : Job → Call
  close : List Float → Call
  abandon : Call

-- how it ends
unfoldable pub ending : Model → Memory → Call → Ending
ending m w reset = silenced m w
ending m w (whole p output) = at_once m w p output
ending m w (frames t coefficients input output) = (several m w t coefficients input output).ending
ending m w (start p) = opened m w p
ending m w (job j) = done m w j
ending m w (close output) = closed m w output
ending m w abandon = abandoned m w

abbrev pub answer : Model → Memory → Call → Answer
answer m w c = (ending m w c).answer

abbrev pub after : Model → Memory → Call → Memory
after m w c = (ending m w c).memory
