-- One frame of the program: from the bytes read to the bytes written (R9.4 to R9.9).
use Rattle.std.specs.Prelude.{List, ℕ, ◌*◌, Float, replicate}
use Rattle.samples.specs.Answers.{Answer, accept}
use Rattle.samples.specs.Binary32.{+0}
use Rattle.wire.specs.Wire.{decoded, encoded}
use Rattle.unit.specs.UnitState.{UnitState}
use Rattle.unit.specs.Layout.{wall}
use Rattle.machine.specs.Ending.{Ending}
use Rattle.machine.specs.Whole.{Play, apply, tail, whole_due, at_once}
use Rattle.shell.specs.Settings.{frame, store_floats, work_floats, times, coefficients}

-- R9.4, R9.6, R9.7: the samples of a frame's bytes
abbrev pub heard : List ℕ → List Float
heard bytes = decoded frame bytes

-- R9.5: a frame of input
abbrev pub input_play : List ℕ → Play
input_play bytes = apply times coefficients (heard bytes)

-- what is due of it, and of a frame of the tail, before the frame is judged, for a unit u that is lent the program's memory
abbrev pub input_due : UnitState → List ℕ → Answer
input_due u bytes = whole_due wall u (input_play bytes) store_floats work_floats frame

abbrev pub tail_due : UnitState → Answer
tail_due u = whole_due wall u tail store_floats work_floats frame

-- how each ends, lent a silent row for its output
abbrev pub play_ends : UnitState → Play → List Float → List Float → Ending
play_ends u p store work = at_once wall (record { unit = u; store = store; work = work }) p (replicate frame +0)

abbrev pub input_ends : UnitState → List ℕ → List Float → List Float → Ending
input_ends u bytes store work = play_ends u (input_play bytes) store work

abbrev pub tail_ends : UnitState → List Float → List Float → Ending
tail_ends u store work = play_ends u tail store work

-- R9.8, R9.9: the bytes written, of a refused frame all 0
unfoldable pub said : Ending → List ℕ
said e = accept e.answer (encoded e.output) (replicate (4 * frame) 0)
