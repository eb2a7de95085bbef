-- What a call of the unit gives back: its answer, the verdict and the state.
use Rattle.samples.specs.Answers.{Answer}
use Rattle.audio_buffer.specs.declared.AudioEffectState.{AudioEffectState}
use Rattle.unit.specs.declared.Outcome.{Outcome}
use Rattle.unit.specs.UnitState.{UnitState, to_state}

abbrev pub outcome : Answer → UnitState → AudioEffectState → Outcome
outcome a u verdict = record { answer = a; verdict = verdict; state = to_state u }
