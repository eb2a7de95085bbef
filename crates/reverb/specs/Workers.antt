-- What the private workers of the whole calls and of several frames at once come to.
use Rattle.std.specs.Prelude.{ℕ, ◌/◌, Bool, true, false, cond, List, Float, ℤ, pos, length, take, Result, Ok, Err}
use Rattle.samples.specs.declared.Refusal.{Refusal}
use Rattle.samples.specs.declared.Refusal.TheVariants.{NotFinite}
use Rattle.samples.specs.Answers.{Answer, Accepted, accept, with_value}
use Rattle.search.specs.Search.{first_bad}
use Rattle.audio_buffer.specs.declared.AudioEffectState.TheVariants.{TailComplete}
use Rattle.audio_buffer.specs.Verdict.{verdict_of}
use Rattle.iir.specs.declared.Filter.{Filter}
use Rattle.bands.specs.declared.Times.{Times}
use Rattle.unit.specs.declared.State.{State}
use Rattle.unit.specs.declared.Rings.{Rings}
use Rattle.unit.specs.declared.Outcome.{Outcome}
use Rattle.unit.specs.declared.FramesOutcome.{FramesOutcome}
use Rattle.unit.specs.UnitState.{UnitState, of_state}
use Rattle.unit.specs.Layout.{wall}
use Rattle.unit.specs.Room.{passes_with, unit_rings}
use Rattle.unit.specs.Outcome.{outcome}
use Rattle.judges.specs.Judges.{bad_input}
use Rattle.stages.specs.Frame.{new_filters, frame_in}
use Rattle.stages.specs.Settle.{frame_finite, settled}
use Rattle.frame.specs.declared.Stepped.{Stepped}
use Rattle.frame.specs.Steps.{stepped_on}
use Rattle.machine.specs.Ending.{Ending, lend, cleared}
use Rattle.machine.specs.Whole.{played}
use Rattle.machine.specs.Several.{Several, singly}

-- the unit after what a frame came to
abbrev pub unit_stepped : UnitState → Stepped → ℤ → UnitState
unit_stepped u x count =
    record { settings = u.settings; cursors = record { lines = x.lines; passes = x.passes }; count = count; filters = x.filters; held = u.held }

-- R4.15, R4.21, R4.22: 9 unless all of it is finite
abbrev pub played_by : UnitState → Stepped → ℤ → Outcome
played_by u x count = cond x.ok (outcome Accepted (unit_stepped u x count) (verdict_of count)) (outcome (Err NotFinite) u TailComplete)

-- a frame through the filters fs, the input at the front of the work memory
abbrev pub playing : State → Bool → List Filter → ℤ → List Float → List Float → List Float → Ending
playing s tail fs count store work output =
    let r = unit_rings wall (of_state s) in
    let x = frame_in wall.lines s.frame wall.factor wall.divisor tail r fs (take s.frame work) store in
    played wall (lend s store work) x count output

-- ---- several frames

-- the rings as the frame x left them, those of the lines of the lengths ls
abbrev pub rings_at : List ℕ → Stepped → Rings
rings_at ls x = record { lines = record { lengths = ls; cursors = x.lines }; passes = passes_with wall x.passes }

-- what a frame among several gives, and what it leaves of the memory
pub record NextLeft : Type 0 where
  pub next : Result Stepped Refusal
  pub store : List Float
  pub work : List Float
  pub output : List Float

-- the answer of what is given or refused
abbrev pub answer_of : {T : Type 0} → Result T Refusal → Answer
answer_of (Ok given) = Accepted
answer_of (Err bad) = Err bad

-- the last frame that was kept: the one given, or `last` where it is refused
abbrev pub kept_of : Result Stepped Refusal → Stepped → Stepped
kept_of (Ok x) last = x
kept_of (Err bad) last = last

-- R10.5: refused with a, after the frame `last`
abbrev pub halted : Answer → Stepped → List Float → List Float → List Float → NextLeft
halted a last store work output = record { next = with_value a last; store = store; work = work; output = output }

-- R10.4: 8 where its input isn't finite, 9 where it comes to what isn't, and else kept
unfoldable pub next_frame : ℕ → List ℕ → Stepped → List Filter → List Float → List Float → List Float → List Float → NextLeft
next_frame f ls last fs input store work output =
    let due = bad_input (first_bad input) in
    let r = rings_at ls last in
    let x = frame_in wall.lines f wall.factor wall.divisor false r fs input store in
    accept due
    (cond (frame_finite x)
    (record {
      next = Ok (stepped_on f r true (new_filters x));
      store = settled wall.lines f r x.lines.put x.output.rings store;
      work = cleared work;
      output = x.output.out;
    })
    (halted (Err NotFinite) last store (cleared work) output))
    (halted due last store work output)

-- R10.4: all of them, each as an apply
abbrev pub playing_all : State → Times → List Float → List Float → List Float → List Float → List Float → Several
playing_all s t coefficients input store work output = singly wall t coefficients s.frame (length input / s.frame) (lend s store work) input output

-- R10.6, R10.9: several frames of which so many are done, the last of them as `last`
abbrev pub several_by : UnitState → Answer → Stepped → ℤ → ℕ → FramesOutcome
several_by u a last count done =
    record { outcome = outcome a (unit_stepped u last count) (accept a (verdict_of count) TailComplete); done = record { 0 = pos done } }
