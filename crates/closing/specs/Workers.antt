-- What the private workers of the end of an open frame leave of the state.
use Rattle.std.specs.Prelude.{cond, ℤ, List, Err}
use Rattle.samples.specs.declared.Refusal.TheVariants.{NotFinite}
use Rattle.samples.specs.Answers.{Accepted}
use Rattle.audio_buffer.specs.declared.AudioEffectState.TheVariants.{TailComplete}
use Rattle.audio_buffer.specs.Verdict.{verdict_of}
use Rattle.iir.specs.declared.Filter.{Filter}
use Rattle.unit.specs.declared.Outcome.{Outcome}
use Rattle.unit.specs.UnitState.{RingCursors, UnitState}
use Rattle.unit.specs.Layout.{wall}
use Rattle.unit.specs.Fresh.{no_frame}
use Rattle.unit.specs.Outcome.{outcome}
use Rattle.frame.specs.declared.Stepped.{Stepped}
use Rattle.machine.specs.Jobs.{unit_shut}

-- R5.25, R5.26: the unit with no frame open
abbrev pub idle : UnitState → RingCursors → ℤ → List Filter → UnitState
idle u cursors count filters = record { settings = u.settings; cursors = cursors; count = count; filters = filters; held = no_frame wall }

-- R5.23 to R5.26: 9 unless all that a frame came to is finite
abbrev pub closed_by : UnitState → Stepped → Outcome
closed_by u x =
    cond x.ok
    (outcome Accepted (idle u (record { lines = x.lines; passes = x.passes }) u.held.next x.filters) (verdict_of u.held.next))
    (outcome (Err NotFinite) (unit_shut wall u) TailComplete)
