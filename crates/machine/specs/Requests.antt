-- Requests: a call on the unit, lent the unit's own memory or any other.
use Rattle.std.specs.Prelude.{ℕ, Bool, ◌&&◌, List, [], ◌∷◌, leb, eqb, Float}
use Rattle.samples.specs.Answers.{Answer, number_of}
use Rattle.unit.specs.Layout.{Model}
use Rattle.machine.specs.Ending.{Memory}
use Rattle.machine.specs.Whole.{begun}
use Rattle.machine.specs.Several.{several}
use Rattle.machine.specs.Calls.{Call, reset, whole, frames, start, job, close, abandon, answer, after}

-- a slice lent as store or as work memory: the unit's own, or any list
pub data Slice : Type 0 where
  own : Slice
  other : List Float → Slice

-- what a call is lent, where the unit's own memory holds `mine`
abbrev pub lent : Slice → List Float → List Float
lent own mine = mine
lent (other xs) mine = xs

-- what the unit's own memory holds after a call that left `new` in what it was lent
abbrev pub left : Slice → List Float → List Float → List Float
left own new mine = new
left (other xs) new mine = mine

-- a call with its store and its work memory. A reset is lent no work memory, and the mix, a line, the output and an abandon no store: there
-- the slice counts for nothing. Fresh takes no state: what it gives is another unit's, and a host that is refused keeps the state that it has
pub data Request : Type 0 where
  fresh : ℕ → ℕ → Slice → Request
  ask : Call → Slice → Slice → Request

-- the unit with what a call is lent
abbrev pub seen : Memory → Slice → Slice → Memory
seen w s k = record { unit = w.unit; store = lent s w.store; work = lent k w.work }

-- the unit and its own memory after a call that left v
abbrev pub back : Memory → Slice → Slice → Memory → Memory
back w s k v = record { unit = v.unit; store = left s v.store w.store; work = left k v.work w.work }

-- what a request is answered
unfoldable pub answer_of : Model → Memory → Request → Answer
answer_of m w (fresh rate frame s) = (begun m rate frame (lent s w.store)).answer
answer_of m w (ask c s k) = answer m (seen w s k) c

-- R2.32: an answer of 1 to 8
abbrev pub refusal : Answer → Bool
refusal a = leb 1 (number_of a) && leb (number_of a) 8

-- R10.6: the frames that a call has done when it is refused: none, but for several at once
abbrev pub done_before : Model → Memory → Call → ℕ
done_before m w reset = 0
done_before m w (whole p output) = 0
done_before m w (frames t coefficients input output) = (several m w t coefficients input output).done
done_before m w (start p) = 0
done_before m w (job j) = 0
done_before m w (close output) = 0
done_before m w abandon = 0

-- R2.32, R10.11: a refusal that changes nothing, which is one with no frame done
unfoldable pub declined : Model → Memory → Request → Bool
declined m w (fresh rate frame s) = refusal (answer_of m w (fresh rate frame s))
declined m w (ask c s k) = eqb (done_before m (seen w s k) c) 0 && refusal (answer_of m w (ask c s k))

-- the unit and its own memory after it
unfoldable pub request : Model → Memory → Request → Memory
request m w (fresh rate frame s) =
    record { unit = w.unit; store = left s (begun m rate frame (lent s w.store)).memory.store w.store; work = w.work }
request m w (ask c s k) = back w s k (after m (seen w s k) c)

-- after a list of requests
unfoldable pub requests : Model → Memory → List Request → Memory
requests m w [] = w
requests m w (r ∷ rs) = requests m (request m w r) rs
