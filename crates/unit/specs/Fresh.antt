-- R1.32: the state that fresh gives.
use Rattle.std.specs.Prelude.{ℕ, false, pos, length, replicate}
use Rattle.samples.specs.Binary32.{+0}
use Rattle.samples.specs.Sizes.{lowest_rate, shortest_frame}
use Rattle.delay.specs.Calls.{both}
use Rattle.iir.specs.declared.Filter.{Filter}
use Rattle.iir.specs.Step.{from_coefficients}
use Rattle.unit.specs.UnitState.{Held, UnitState}
use Rattle.unit.specs.Layout.{Model, filters_len, jobs_len}

-- nine times +0
abbrev pub blank : Filter
blank = from_coefficients +0 +0 +0 +0 +0

-- R1.30: what is held while no frame is open
abbrev pub no_frame : Model → Held
no_frame m = record {
  busy = false;
  tail = false;
  marks = replicate (jobs_len m) false;
  next = pos 0;
  before = replicate (filters_len m) blank;
}

-- R1.32: the initial state of a rate and a frame
abbrev pub fresh_unit : Model → ℕ → ℕ → UnitState
fresh_unit m rate frame = record {
  settings = record { rate = rate; frame = frame };
  cursors = record { lines = replicate m.lines (both 0); passes = replicate (length m.pass_lengths) (both 0) };
  count = pos 0;
  filters = replicate (filters_len m) blank;
  held = no_frame m;
}

-- R2.33: that of a refused fresh, the lowest rate and the shortest frame
abbrev pub least_unit : Model → UnitState
least_unit m = fresh_unit m lowest_rate shortest_frame
