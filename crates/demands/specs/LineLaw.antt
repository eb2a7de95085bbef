-- Demand 2: what a line hands out (R8.18 to R8.21).
use Rattle.std.specs.Prelude.{ℕ, zero, suc, ◌<◌, ◌≡◌, true, cond, List, [], ◌∷◌, ◌++◌, ◌⊎◌, eqb, Float, length, get_or, take, drop, replicate}
use Rattle.samples.specs.Lists.{row}
use Rattle.samples.specs.Answers.{Accepted, accept}
use Rattle.samples.specs.Binary32.{+0}
use Rattle.bands.specs.declared.Times.{Times}
use Rattle.delay.specs.Calls.{both}
use Rattle.unit.specs.UnitState.{UnitState}
use Rattle.unit.specs.Layout.{Model, lengths, Sized}
use Rattle.judges.specs.Judges.{judged_fresh}
use Rattle.rows.specs.Rows.{rows_of}
use Rattle.machine.specs.Whole.{Play, apply, frame_for}
use Rattle.machine.specs.Several.{several}
use Rattle.machine.specs.Ending.{Memory}
use Rattle.machine.specs.Jobs.{Job, read_job, mix_job, line_job, output_job, job_work}
use Rattle.machine.specs.Calls.{Call, reset, whole, frames, start, job, close, abandon, answer, after}
use Rattle.machine.specs.Requests.{Slice, own, Request, fresh, ask, seen, request, declined}
use Rattle.machine.specs.Runs.{Event, afresh, run}

-- ---- a line's account

-- what line i has handed out and what it was given, and the row that it read for the frame now open
pub record Account : Type 0 where
  pub out : List Float
  pub given : List Float
  pub waiting : List Float

-- R8.20: an accepted frame hands out the row read and is given the row put
abbrev pub traded : Account → List Float → List Float → Account
traded a read put = record { out = a.out ++ read; given = a.given ++ put; waiting = a.waiting }

-- a whole call's rows are its frame's
unfoldable pub noted_whole : Model → ℕ → Memory → Account → Play → List Float → Account
noted_whole m i w a p output =
    let f = w.unit.settings.frame in
    let r = frame_for m w.unit p w.store in
    accept (answer m w (whole p output)) (traded a (row f i r.reads) (row f i r.lines.put)) a

-- R8.20, R10.11: several frames at once are noted as their applies, one by one: the n that were done, of f samples each
unfoldable pub noted_frames : Model → ℕ → Times → List Float → ℕ → ℕ → Memory → Account → List Float → List Float → Account
noted_frames m i t coefficients f zero w a input output = a
noted_frames m i t coefficients f (suc n) w a input output =
    let p = apply t coefficients (take f input) in
    noted_frames m i t coefficients f n (after m w (whole p (take f output))) (noted_whole m i w a p (take f output)) (drop f input) (drop f output)

-- of jobs, the row read is what the accepted read i left in the work memory lent to it: it waits, and is handed out by the accepted close of its
-- frame, or never where the frame is abandoned or answered 9. (No close is accepted before a read i of its own frame.) The row put is mixed row i
-- of the work memory lent to that close
unfoldable pub noted : Model → ℕ → Memory → Account → Call → Account
noted m i w a reset = a
noted m i w a (whole p output) = noted_whole m i w a p output
noted m i w a (frames t coefficients input output) =
    noted_frames m i t coefficients w.unit.settings.frame (several m w t coefficients input output).done w a input output
noted m i w a (start p) = a
noted m i w a (job (read_job j)) =
    let f = w.unit.settings.frame in
    let left = row f i (rows_of m.lines f (job_work m w (read_job j))).reads in
    cond (eqb j i) (accept (answer m w (job (read_job j))) (record { out = a.out; given = a.given; waiting = left }) a) a
noted m i w a (job mix_job) = a
noted m i w a (job (line_job j)) = a
noted m i w a (job output_job) = a
noted m i w a (close output) =
    let f = w.unit.settings.frame in
    accept (answer m w (close output)) (traded a a.waiting (row f i (rows_of m.lines f w.work).mixed)) a
noted m i w a abandon = a

-- over a list of requests
unfoldable pub account : Model → ℕ → Memory → Account → List Request → Account
account m i w a [] = a
account m i w a (fresh rate frame s ∷ rs) = account m i (request m w (fresh rate frame s)) a rs
account m i w a (ask c s k ∷ rs) = account m i (request m w (ask c s k)) (noted m i (seen w s k) a c) rs

-- ---- the calls that the law is of

-- the calls of frames, each with any work memory. Whole calls, several frames at once, reads and closes are lent the unit's own store: a read
-- hands out what the store lent to it holds, and what is put into another store doesn't come out of this one
pub data Plays : Request → Type 0 where
  plays_whole : (p : Play) (output : List Float) (k : Slice) → Plays (ask (whole p output) own k)
  plays_frames : (t : Times) (coefficients input output : List Float) (k : Slice) → Plays (ask (frames t coefficients input output) own k)
  plays_start : (p : Play) (s k : Slice) → Plays (ask (start p) s k)
  plays_job : (j : Job) (k : Slice) → Plays (ask (job j) own k)
  plays_close : (output : List Float) (k : Slice) → Plays (ask (close output) own k)
  plays_abandon : (s k : Slice) → Plays (ask abandon s k)

-- or any call at all that is refused and changes nothing
unfoldable pub AllPlay : Model → Memory → List Request → Type 0
AllPlay m w [] = Unit {0}
AllPlay m w (r ∷ rs) = (Plays r ⊎ (declined m w r ≡ true)) × AllPlay m (request m w r) rs

-- both cursors of every ring are equal
pub record Together (u : UnitState) : Type 0 where
  pub lines : (i : ℕ) → (get_or u.cursors.lines i (both 0)).read ≡ (get_or u.cursors.lines i (both 0)).write
  pub passes : (i : ℕ) → (get_or u.cursors.passes i (both 0)).read ≡ (get_or u.cursors.passes i (both 0)).write

-- a unit in which no sound is left: after an accepted fresh, or after an accepted reset with the cursors equal
pub data Silent (m : Model) : Memory → Type 0 where
  freshly : (w : Memory) (rate frame : ℕ) → judged_fresh m rate frame (length w.store) ≡ Accepted → Silent m (afresh m w rate frame)
  by_reset : (w : Memory) → Sized m w.unit → answer m w reset ≡ Accepted → Together w.unit → Silent m (after m w reset)

-- R8.18, R8.19: sample t of what line i hands out is sample t - L of what it was given, or +0 where t < L
abbrev pub LineLaw : Type 0
LineLaw =
    (m : Model) (w : Memory) → Silent m w → (i : ℕ) → i < m.lines → (rs : List Request) → AllPlay m w rs
    → let a = account m i w (record { out = []; given = []; waiting = [] }) rs in
    a.out ≡ take (length a.given) (replicate (get_or (lengths m w.unit) i 0) +0 ++ a.given)

-- R8.21: in every state that calls lead to from an accepted fresh
abbrev pub CursorsTogether : Type 0
CursorsTogether =
    (m : Model) (w : Memory) (rate frame : ℕ) → judged_fresh m rate frame (length w.store) ≡ Accepted
    → (es : List Event) → Together (run m (afresh m w rate frame) es).unit
