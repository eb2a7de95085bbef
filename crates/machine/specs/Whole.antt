-- Fresh, reset, and a whole frame (R4).
use Rattle.std.specs.Prelude.{ℕ, Bool, true, false, cond, List, [], Float, ℤ, pos, length, replicate, Err}
use Rattle.samples.specs.declared.Refusal.TheVariants.{NotFinite}
use Rattle.samples.specs.Answers.{Answer, Accepted, accept}
use Rattle.samples.specs.Binary32.{+0}
use Rattle.audio_buffer.specs.Verdict.{verdict_of}
use Rattle.iir.specs.declared.Filter.{Filter}
use Rattle.bands.specs.declared.Times.{Times}
use Rattle.bands.specs.Tail.{tail_count, fallen}
use Rattle.unit.specs.UnitState.{UnitState}
use Rattle.unit.specs.Layout.{Model, filters_len}
use Rattle.unit.specs.Room.{unit_rings}
use Rattle.unit.specs.Fresh.{fresh_unit, least_unit}
use Rattle.judges.specs.Judges.{judged_fresh, judged_reset, judged_apply, judged_tail}
use Rattle.stages.specs.Lines.{filters_of}
use Rattle.stages.specs.Frame.{Frame, new_filters, frame_in}
use Rattle.stages.specs.Settle.{frame_finite, settled, moved}
use Rattle.machine.specs.Ending.{Memory, Ending, refused, quietly, cleared}

-- R4.24: fresh; R2.33: the state of a refused one
abbrev pub begun : Model → ℕ → ℕ → List Float → Ending
begun m rate frame store =
    quietly (judged_fresh m rate frame (length store))
    (record { unit = fresh_unit m rate frame; store = cleared store; work = [] })
    (record { unit = least_unit m; store = store; work = [] })

-- the unit with another count
abbrev pub counted : UnitState → ℤ → UnitState
counted u count = record { settings = u.settings; cursors = u.cursors; count = count; filters = u.filters; held = u.held }

-- R4.25, R4.26: reset
abbrev pub silenced : Model → Memory → Ending
silenced m w =
    quietly (judged_reset m w.unit (length w.store))
    (record { unit = counted w.unit (pos 0); store = cleared w.store; work = w.work })
    w

-- ---- a frame to be played, at once or as jobs: an apply with its times, coefficients and input, or a tail

pub data Play : Type 0 where
  apply : Times → List Float → List Float → Play
  tail : Play

abbrev pub is_tail : Play → Bool
is_tail (apply t coefficients input) = false
is_tail tail = true

-- R4.3, R4.4: the filters that it begins with
abbrev pub filters_for : Model → UnitState → Play → List Filter
filters_for m u (apply t coefficients input) = filters_of (filters_len m) coefficients
filters_for m u tail = u.filters

-- R5.8: its input row. A tail has none, and the row is +0 throughout
abbrev pub input_for : UnitState → Play → List Float
input_for u (apply t coefficients input) = input
input_for u tail = replicate u.settings.frame +0

-- R4.13: the count that it sets, step 6
abbrev pub count_for : UnitState → Play → ℤ
count_for u (apply t coefficients input) = pos (tail_count t u.settings.rate u.settings.frame)
count_for u tail = fallen u.count

-- its frame
abbrev pub frame_for : Model → UnitState → Play → List Float → Frame
frame_for m u p store =
    frame_in m.lines u.settings.frame m.factor m.divisor (is_tail p) (unit_rings m u) (filters_for m u p) (input_for u p) store

-- R2.22, R2.23: what is due of the whole call before its frame is judged
abbrev pub whole_due : Model → UnitState → Play → ℕ → ℕ → ℕ → Answer
whole_due m u (apply t coefficients input) store work output = judged_apply m u t coefficients input store work output
whole_due m u tail store work output = judged_tail m u store work output

-- ---- apply and tail

-- R4.20, R4.21: the unit after an accepted frame, its cursors moved, its filters those of the frame, its count set
abbrev pub moved_on : Model → UnitState → List Filter → ℤ → UnitState
moved_on m u filters count = record { settings = u.settings; cursors = moved m u; count = count; filters = filters; held = u.held }

-- R4.17 to R4.23: a frame r kept and handed out, and the work memory cleared
abbrev pub kept : Model → Memory → Frame → ℤ → Ending
kept m w r count =
    let u = w.unit in
    record {
      answer = Accepted;
      verdict = verdict_of count;
      memory = record {
        unit = moved_on m u (new_filters r) count;
        store = settled m.lines u.settings.frame (unit_rings m u) r.lines.put r.output.rings w.store;
        work = cleared w.work;
      };
      output = r.output.out;
    }

-- a memory whose work memory is cleared
abbrev pub wiped : Memory → Memory
wiped w = record { unit = w.unit; store = w.store; work = cleared w.work }

-- R4.14, R4.15: what a frame r comes to that nothing else refuses, 9 unless all of it is finite
unfoldable pub played : Model → Memory → Frame → ℤ → List Float → Ending
played m w r count output = cond (frame_finite r) (kept m w r count) (refused (Err NotFinite) (wiped w) output)

abbrev pub at_once : Model → Memory → Play → List Float → Ending
at_once m w p output =
    let u = w.unit in
    let due = whole_due m u p (length w.store) (length w.work) (length output) in
    accept due (played m w (frame_for m u p w.store) (count_for u p) output) (refused due w output)
