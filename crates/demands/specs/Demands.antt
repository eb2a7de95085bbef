-- Demand 1: what is kept is finite (R8.7 to R8.10).
use Rattle.std.specs.Prelude.{ℕ, ◌≡◌, true, cond, List, length}
use Rattle.samples.specs.Answers.{Accepted}
use Rattle.search.specs.Search.{all_finite}
use Rattle.iir.specs.declared.Filter.{Filter}
use Rattle.unit.specs.UnitState.{UnitState}
use Rattle.unit.specs.Layout.{Model}
use Rattle.judges.specs.Judges.{judged_fresh}
use Rattle.stages.specs.Settle.{filters_finite}
use Rattle.machine.specs.Ending.{Memory}
use Rattle.machine.specs.Runs.{Event, afresh, run}

-- the filters that are kept: with a frame open, those from before it
abbrev pub kept_filters : UnitState → List Filter
kept_filters u = cond u.held.busy u.held.before u.filters

-- every number that is kept is finite: of the store, of the filters, and of those held for an open frame, which are blank while none is
pub record KeptNumbers (w : Memory) : Type 0 where
  pub store : all_finite w.store ≡ true
  pub filters : filters_finite (kept_filters w.unit) ≡ true
  pub before : filters_finite w.unit.held.before ≡ true

-- R8.9: from an accepted fresh on, with no frame open; R8.10: and while one is, the store and the filters from before it. The premise R8.8 is
-- that what happens is a list of events
abbrev pub KeptFinite : Type 0
KeptFinite =
    (m : Model) (w : Memory) (rate frame : ℕ) → judged_fresh m rate frame (length w.store) ≡ Accepted
    → (es : List Event) → KeptNumbers (run m (afresh m w rate frame) es)
