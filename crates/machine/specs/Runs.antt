-- A unit with its own store through any list of calls with any arguments.
use Rattle.std.specs.Prelude.{ℕ, List, [], ◌∷◌}
use Rattle.unit.specs.Layout.{Model}
use Rattle.machine.specs.Ending.{Memory}
use Rattle.machine.specs.Whole.{begun}
use Rattle.machine.specs.Requests.{Request, request}

-- what may happen to a unit: a fresh on its own store, whose state takes the place of the unit's, the blank one of a refused fresh too; or a
-- request, that is any other call, each time with any work memory and with the unit's own store or any other.
-- A store is lent as store alone: no part of it is lent as work memory or as output. That is the premise R8.8: a job writes its work
-- memory, and a stretch of the store lent as such may be left with an infinity by calls that all answer 0
pub data Event : Type 0 where
  anew : ℕ → ℕ → Event
  asked : Request → Event

-- after that fresh
abbrev pub afresh : Model → Memory → ℕ → ℕ → Memory
afresh m w rate frame =
    let e = begun m rate frame w.store in
    record { unit = e.memory.unit; store = e.memory.store; work = w.work }

-- after a list of events
unfoldable pub run : Model → Memory → List Event → Memory
run m w [] = w
run m w (anew rate frame ∷ es) = run m (afresh m w rate frame) es
run m w (asked r ∷ es) = run m (request m w r) es
