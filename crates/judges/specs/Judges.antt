-- What is due of a call: the least number that applies (R2.2), lengths by the state's own F (R2.4).
use Rattle.std.specs.Prelude.{ℕ, ◌/◌, ◌%◌, Bool, true, not, ◌&&◌, List, [], eqb, leb, Float, length, Option, Some, None, Err}
use Rattle.samples.specs.declared.Refusal.TheVariants.{BadState, BadSize, BadLength, BadIndex, OutOfTurn, BadTime, BadCoefficient, BadSample}
use Rattle.samples.specs.Answers.{Answer, Accepted, need, or_else}
use Rattle.search.specs.Search.{first_bad, all_finite}
use Rattle.samples.specs.Sizes.{rate_ok, frame_ok}
use Rattle.bands.specs.declared.Times.{Times}
use Rattle.bands.specs.Times.{times_ok}
use Rattle.unit.specs.UnitState.{UnitState}
use Rattle.unit.specs.Layout.{Model, lengths, store_len, work_len, coefficients_len}
use Rattle.unit.specs.Fresh.{fresh_unit}
use Rattle.unit.specs.Range.{in_range}
use Rattle.unit.specs.Room.{lent_ok}

abbrev pub store_ok : Model → UnitState → ℕ → Bool
store_ok m u store = eqb store (store_len m (lengths m u))

-- R2.20: fresh, 2 and then 3, unless the store is that of the unit to be given
unfoldable pub judged_fresh : Model → ℕ → ℕ → ℕ → Answer
judged_fresh m rate frame store =
    need (rate_ok rate && frame_ok frame) (Err BadSize) (need (store_ok m (fresh_unit m rate frame) store) (Err BadLength) Accepted)

-- R2.11, R2.13 to R2.15: any other call of the unit. 1, then 3 unless every lent slice has its length, 4 unless its line, or how many frames it
-- is handed, is in range, and 5 unless it is its turn
unfoldable pub judged : Model → UnitState → Bool → Bool → Bool → Answer
judged m u lent line turn =
    need (in_range m u) (Err BadState) (need lent (Err BadLength) (need line (Err BadIndex) (need turn (Err OutOfTurn) Accepted)))

abbrev pub work_ok : Model → UnitState → ℕ → Bool
work_ok m u work = eqb work (work_len m u.settings.frame)

-- R2.22: what an apply is given, coefficients and input
abbrev pub given_ok : Model → UnitState → ℕ → ℕ → Bool
given_ok m u coefficients input = eqb coefficients (coefficients_len m) && eqb input u.settings.frame

-- R2.18: 8, and where the first one stands
abbrev pub bad_input : Option ℕ → Answer
bad_input (Some i) = Err (BadSample i)
bad_input None = Accepted

-- R2.16 to R2.18: what an apply is given besides, 6, then 7, then 8
unfoldable pub judged_given : Times → List Float → List Float → Answer
judged_given t coefficients input =
    need (times_ok t) (Err BadTime) (need (all_finite coefficients) (Err BadCoefficient) (bad_input (first_bad input)))

-- R2.21: reset, 1 3 5
abbrev pub judged_reset : Model → UnitState → ℕ → Answer
judged_reset m u store = judged m u (store_ok m u store) true (not u.held.busy)

-- R2.23: a whole tail, 1 3 5
abbrev pub judged_tail : Model → UnitState → ℕ → ℕ → ℕ → Answer
judged_tail m u store work output =
    judged m u (lent_ok m u store work output) true (not u.held.busy)

-- R2.22: a whole apply, 1 3 5 6 7 8
abbrev pub judged_apply : Model → UnitState → Times → List Float → List Float → ℕ → ℕ → ℕ → Answer
judged_apply m u t coefficients input store work output =
    or_else
    (judged m u (given_ok m u (length coefficients) (length input) && lent_ok m u store work output) true (not u.held.busy))
    (judged_given t coefficients input)

-- ---- several frames at once

-- R10.1: the most that one call may be handed
abbrev pub most_frames : ℕ
most_frames = 1024

-- R10.2: coefficients, an input of whole frames, and an output as long as it
abbrev pub frames_ok : Model → UnitState → ℕ → ℕ → ℕ → Bool
frames_ok m u coefficients input output =
    eqb coefficients (coefficients_len m) && (eqb (input % u.settings.frame) 0 && eqb output input)

-- R10.2: 1 3 4 5 6 7, of an input of so many samples. Of 6 to 8 it is what an apply that is given no sample is judged by
abbrev pub judged_frames : Model → UnitState → Times → List Float → ℕ → ℕ → ℕ → ℕ → Answer
judged_frames m u t coefficients input store work output =
    or_else
    (judged m u (frames_ok m u (length coefficients) input output && (store_ok m u store && work_ok m u work)) (leb (input / u.settings.frame) most_frames)
    (not u.held.busy))
    (judged_given t coefficients [])
