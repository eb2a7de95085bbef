-- R1.26: the unit's state over lists, as a record of parts.
use Rattle.std.specs.Prelude.{ℕ, Bool, List, ℤ}
use Rattle.delay.specs.declared.Cursors.{Cursors}
use Rattle.iir.specs.declared.Filter.{Filter}
use Rattle.unit.specs.declared.State.{State}

pub record Settings : Type 0 where
  pub rate : ℕ
  pub frame : ℕ

-- of the lines' rings, and of the allpass rings
pub record RingCursors : Type 0 where
  pub lines : List Cursors
  pub passes : List Cursors

-- what is held for an open frame: `busy` says that there is one, and `tail` of which kind it is; `next` is the count that a close sets, and
-- `before` the filters from before the open
pub record Held : Type 0 where
  pub busy : Bool
  pub tail : Bool
  pub marks : List Bool
  pub next : ℤ
  pub before : List Filter

pub record UnitState : Type 0 where
  pub settings : Settings
  pub cursors : RingCursors
  pub count : ℤ
  pub filters : List Filter
  pub held : Held

-- a `State` is such a record whose lists have their lengths: these two are each other's inverse
abbrev pub of_state : State → UnitState
of_state s = record {
  settings = record { rate = s.rate; frame = s.frame };
  cursors = record { lines = s.lines; passes = s.passes };
  count = s.count.0;
  filters = s.filters;
  held = record { busy = s.busy; tail = s.tail; marks = s.marks; next = s.next.0; before = s.before };
}

abbrev pub to_state : UnitState → State
to_state u = record {
  rate = u.settings.rate;
  frame = u.settings.frame;
  lines = u.cursors.lines;
  passes = u.cursors.passes;
  count = record { 0 = u.count };
  filters = u.filters;
  busy = u.held.busy;
  tail = u.held.tail;
  marks = u.held.marks;
  next = record { 0 = u.held.next };
  before = u.held.before;
}
