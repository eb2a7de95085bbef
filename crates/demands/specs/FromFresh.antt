-- The demands from an accepted fresh on, after any calls with any arguments (`Runs` of the machine), with no premise left over.
use Rattle.std.specs.Prelude.{ℕ, ◌<◌, ◌≡◌, true, false, List, [], ◌∷◌, ◌++◌, ◌⊎◌, ltb, Float, length, get_or, take, replicate, Err}
use Rattle.samples.specs.declared.Refusal.TheVariants.{NotFinite}
use Rattle.samples.specs.Answers.{Accepted}
use Rattle.samples.specs.Binary32.{+0}
use Rattle.samples.specs.Lists.{all_from}
use Rattle.unit.specs.UnitState.{UnitState}
use Rattle.unit.specs.Layout.{Model, wall, lengths, Sized}
use Rattle.unit.specs.Fresh.{no_frame}
use Rattle.unit.specs.Range.{in_range}
use Rattle.judges.specs.Judges.{judged_fresh}
use Rattle.judges.specs.Marks.{all_done}
use Rattle.machine.specs.Ending.{Memory}
use Rattle.machine.specs.Whole.{Play, at_once}
use Rattle.machine.specs.Jobs.{Job, closed}
use Rattle.machine.specs.Calls.{reset, start, job, close, abandon, answer, after}
use Rattle.machine.specs.Requests.{Slice, Request, ask, seen, answer_of, request, requests, declined}
use Rattle.machine.specs.Runs.{Event, afresh, run}
use Rattle.demands.specs.AnyOrder.{Between, worked, Exactly}
use Rattle.demands.specs.LineLaw.{account, AllPlay}

-- what a model is asked: two allpass stages, each of two rings, and no ring of length 0. The wall unit is such a model
pub record Built (m : Model) : Type 0 where
  pub four : length m.pass_lengths ≡ 4
  pub some : all_from (λ i l. ltb 0 l) 0 m.pass_lengths ≡ true

-- ---- every unit that calls lead to: its lists have their lengths, it is in range, and while no frame is open what is held for one is blank

pub record Reached (m : Model) (u : UnitState) : Type 0 where
  pub sized : Sized m u
  pub range : in_range m u ≡ true
  pub free : u.held.busy ≡ false → u.held ≡ no_frame m

abbrev pub StaysInRange : Type 0
StaysInRange = (m : Model) → Built m → (w : Memory) (rate frame : ℕ) (es : List Event) → Reached m (run m (afresh m w rate frame) es).unit

-- ---- the unit v of the wall, after a fresh that was accepted and any calls

pub data FromFresh : Memory → Type 0 where
  from_fresh : (w : Memory) (rate frame : ℕ) → judged_fresh wall rate frame (length w.store) ≡ Accepted → (es : List Event)
      → FromFresh (run wall (afresh wall w rate frame) es)

-- R8.22: an open that is accepted, any own jobs or refused calls, and a close that is accepted are the whole call
abbrev pub AnyOrderFromFresh : Type 0
AnyOrderFromFresh =
    (v : Memory) → FromFresh v → (p : Play) (rs : List Request) → answer wall v (start p) ≡ Accepted → Between wall (after wall v (start p)) rs
    → (output : List Float) → (closed wall (worked wall v p rs) output).answer ≡ Accepted → closed wall (worked wall v p rs) output ≡ at_once wall v p output

-- R8.25, R8.26: and with all marks set the close is refused exactly when the whole call would be
abbrev pub CloseFromFresh : Type 0
CloseFromFresh =
    (v : Memory) → FromFresh v → (p : Play) (rs : List Request) → answer wall v (start p) ≡ Accepted → Between wall (after wall v (start p)) rs
    → all_done (worked wall v p rs).unit.held.marks ≡ true → (output : List Float) → length output ≡ v.unit.settings.frame → Exactly wall v p rs output

-- R8.18, R8.19: what a line hands out after a reset that was accepted. From fresh on alone it is `line_law`
abbrev pub LineLawFromFresh : Type 0
LineLawFromFresh =
    (v : Memory) → FromFresh v → answer wall v reset ≡ Accepted → let w = after wall v reset in
    (i : ℕ) → i < wall.lines → (rs : List Request) → AllPlay wall w rs
    → let a = account wall i w (record { out = []; given = []; waiting = [] }) rs in
    a.out ≡ take (length a.given) (replicate (get_or (lengths wall w.unit) i 0) +0 ++ a.given)

-- ---- R8.6: what a frame that fails or is abandoned gives back

-- after an open come jobs on any store and work memory, and calls that are refused
pub data AnyJob : Request → Type 0 where
  any_job : (j : Job) (s k : Slice) → AnyJob (ask (job j) s k)

unfoldable pub Worked : Model → Memory → List Request → Type 0
Worked m w [] = Unit {0}
Worked m w (r ∷ rs) = (AnyJob r ⊎ (declined m w r ≡ true)) × Worked m (request m w r) rs

-- the unit w, whose lists are as long as a `State`'s, after a frame p is opened on any slices, and then such requests
abbrev pub after_open : Model → Memory → Play → Slice → Slice → Memory
after_open m w p s k = request m w (ask (start p) s k)

-- v, which is lent any slices, gives up a frame of w: the abandon that is accepted and the close that is answered 9 leave the unit of w, bit for
-- bit. The logic has one NaN: of a state whose filters hold one, up to which NaN it is
pub record GivesUp (m : Model) (w v : Memory) : Type 0 where
  pub abandoned : answer m v abandon ≡ Accepted → (after m v abandon).unit ≡ w.unit
  pub failed : (output : List Float) → answer m v (close output) ≡ Err NotFinite → (after m v (close output)).unit ≡ w.unit

-- and the unit's own store is still what it was
abbrev pub FrameGivenUp : Type 0
FrameGivenUp =
    (m : Model) (w : Memory) → Sized m w.unit → (p : Play) (s k : Slice) → answer_of m w (ask (start p) s k) ≡ Accepted
    → (rs : List Request) → Worked m (after_open m w p s k) rs → let v = requests m (after_open m w p s k) rs in
    ((s' k' : Slice) → GivesUp m w (seen v s' k')) × (v.store ≡ w.store)

-- from an accepted fresh on, with no premise on lists
abbrev pub FrameGivenUpFromFresh : Type 0
FrameGivenUpFromFresh =
    (w : Memory) → FromFresh w → (p : Play) (s k : Slice) → answer_of wall w (ask (start p) s k) ≡ Accepted
    → (rs : List Request) → Worked wall (after_open wall w p s k) rs → let v = requests wall (after_open wall w p s k) rs in
    ((s' k' : Slice) → GivesUp wall w (seen v s' k')) × (v.store ≡ w.store)
