-- A unit with its memory, and how a call on it ends.
use Rattle.std.specs.Prelude.{List, [], Float, length, replicate}
use Rattle.samples.specs.Answers.{Answer, accept}
use Rattle.samples.specs.Binary32.{+0}
use Rattle.audio_buffer.specs.declared.AudioEffectState.{AudioEffectState}
use Rattle.audio_buffer.specs.declared.AudioEffectState.TheVariants.{TailComplete}
use Rattle.unit.specs.declared.State.{State}
use Rattle.unit.specs.declared.Outcome.{Outcome}
use Rattle.unit.specs.UnitState.{UnitState, of_state}
use Rattle.unit.specs.Outcome.{outcome}

-- a unit, and the store and the work memory that a call on it is lent: the empty list where a call is lent none
pub record Memory : Type 0 where
  pub unit : UnitState
  pub store : List Float
  pub work : List Float

abbrev pub lend : State → List Float → List Float → Memory
lend s store work = record { unit = of_state s; store = store; work = work }

-- how a call ends: its answer and its verdict, the unit and its memory then, and the output that it was lent
pub record Ending : Type 0 where
  pub answer : Answer
  pub verdict : AudioEffectState
  pub memory : Memory
  pub output : List Float

-- what the caller is given of it beside the memory lent
abbrev pub outcome_of : Ending → Outcome
outcome_of e = outcome e.answer e.memory.unit e.verdict

-- R2.32, R2.34: a refused call leaves the memory w, and its verdict is TailComplete
abbrev pub refused : Answer → Memory → List Float → Ending
refused due w output = record { answer = due; verdict = TailComplete; memory = w; output = output }

-- R2.35: a call that is lent no output and leaves no tail to wait for. `new` where it is accepted, and `old` where it is refused
abbrev pub quietly : Answer → Memory → Memory → Ending
quietly due new old = record { answer = due; verdict = TailComplete; memory = accept due new old; output = [] }

-- memory that is +0 throughout
abbrev pub cleared : List Float → List Float
cleared xs = replicate (length xs) +0
