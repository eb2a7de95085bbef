-- Demand 3 (R8.22 to R8.26): a frame done as jobs, however ordered and with any refused calls in between, is the frame of one whole call.
use Rattle.std.specs.Prelude.{ℕ, zero, suc, ◌+◌, ◌≡◌, true, List, [], ◌∷◌, ◌++◌, ◌⊎◌, Float, length, Err}
use Rattle.samples.specs.declared.Refusal.TheVariants.{NotFinite}
use Rattle.samples.specs.Answers.{Accepted}
use Rattle.unit.specs.UnitState.{UnitState}
use Rattle.unit.specs.Layout.{Model, Sized}
use Rattle.judges.specs.Marks.{all_done}
use Rattle.machine.specs.Ending.{Memory, refused}
use Rattle.machine.specs.Whole.{Play, wiped, at_once}
use Rattle.machine.specs.Jobs.{Job, read_job, mix_job, line_job, output_job, closed}
use Rattle.machine.specs.Calls.{job, start, answer, after}
use Rattle.machine.specs.Requests.{Request, ask, own, request, requests, declined}

-- ---- R8.24: what may come between open and close

-- a job on the unit's own memory
pub data OwnJob : Request → Type 0 where
  own_job : (j : Job) → OwnJob (ask (job j) own own)

-- R8.23, R8.24: each is a job on own memory, whatever it is answered, or any call on any slices that is refused. A job on a foreign slice that is
-- accepted would leave its rows there, and a close or an abandon that is accepted ends the frame
unfoldable pub Between : Model → Memory → List Request → Type 0
Between m w [] = Unit {0}
Between m w (r ∷ rs) = (OwnJob r ⊎ (declined m w r ≡ true)) × Between m (request m w r) rs

-- the unit and its memory after the frame p is opened, and then requests are made
abbrev pub worked : Model → Memory → Play → List Request → Memory
worked m w p rs = requests m (after m w (start p)) rs

-- ---- what is proved

-- what is asked of the model and of the unit before the open. That it is in range, that it has no frame open and that its memory has its
-- lengths is said by the open, which is accepted. Its cursors may be equal or not
pub record Begins (m : Model) (u : UnitState) : Type 0 where
  -- two allpass stages, each of two rings
  pub passes : length m.pass_lengths ≡ 4
  -- lists as long as a `State`'s
  pub sized : Sized m u

-- a frame p that is opened on the unit and memory w, and the requests made then
pub record Working (m : Model) (w : Memory) (p : Play) (rs : List Request) : Type 0 where
  pub begins : Begins m w.unit
  pub opens : answer m w (start p) ≡ Accepted
  pub between : Between m (after m w (start p)) rs

-- R8.22: a close on own store and work and any output, if it is accepted, ends the frame as the whole call on the opening's unit and memory would
-- have: the same answer, verdict, unit, store, work memory and output
abbrev pub AnyOrder : Type 0
AnyOrder =
    (m : Model) (w : Memory) (p : Play) (rs : List Request) → Working m w p rs → (output : List Float)
    → (closed m (worked m w p rs) output).answer ≡ Accepted → closed m (worked m w p rs) output ≡ at_once m w p output

-- R8.25, R8.26: with all marks set, and an output of its length, the close is answered 0 or 9, as the whole call is; and after a 9 all is as
-- it was before the open, the work memory +0 throughout
pub record Exactly (m : Model) (w : Memory) (p : Play) (rs : List Request) (output : List Float) : Type 0 where
  pub same : closed m (worked m w p rs) output ≡ at_once m w p output
  pub answered : ((at_once m w p output).answer ≡ Accepted) ⊎ ((at_once m w p output).answer ≡ Err NotFinite)
  pub failed : (at_once m w p output).answer ≡ Err NotFinite → at_once m w p output ≡ refused (Err NotFinite) (wiped w) output

abbrev pub CloseRefusesExactly : Type 0
CloseRefusesExactly =
    (m : Model) (w : Memory) (p : Play) (rs : List Request) → Working m w p rs → all_done (worked m w p rs).unit.held.marks ≡ true
    → (output : List Float) → length output ≡ w.unit.settings.frame → Exactly m w p rs output

-- ---- and a frame can be done as jobs

-- n jobs on own memory, from that of line i on
abbrev pub jobs : (ℕ → Job) → ℕ → ℕ → List Request
jobs kind i zero = []
jobs kind i (suc n) = ask (job (kind i)) own own ∷ jobs kind (i + 1) n

-- all jobs of a frame, in the order of their marks
abbrev pub in_order : Model → List Request
in_order m =
    jobs read_job 0 m.lines
    ++ (ask (job mix_job) own own ∷ (jobs line_job 0 m.lines ++ (ask (job output_job) own own ∷ [])))

-- R5.19: after an accepted open they are requests of that kind, and leave all marks set
abbrev pub InOrder : Type 0
InOrder =
    (m : Model) (w : Memory) (p : Play) → Begins m w.unit → answer m w (start p) ≡ Accepted
    → Between m (after m w (start p)) (in_order m) × (all_done (worked m w p (in_order m)).unit.held.marks ≡ true)
