-- A frame done as jobs (R5): opened, its jobs, closed or abandoned.
use Rattle.std.specs.Prelude.{ℕ, ◌*◌, Bool, true, false, cond, List, Float, ℤ, length, get_or, set, replicate, Err}
use Rattle.samples.specs.declared.Refusal.TheVariants.{NotFinite}
use Rattle.samples.specs.Answers.{Answer, Accepted, accept}
use Rattle.samples.specs.Binary32.{+0}
use Rattle.samples.specs.Lists.{set_row}
use Rattle.audio_buffer.specs.Verdict.{verdict_of}
use Rattle.delay.specs.Calls.{both}
use Rattle.delay.specs.Ring.{read}
use Rattle.hadamard.specs.Rows.{mixed_rows}
use Rattle.iir.specs.declared.Filter.{Filter}
use Rattle.unit.specs.UnitState.{UnitState}
use Rattle.unit.specs.Layout.{Model, lengths, stretch, allpass_in, jobs_len, mix_mark, line_mark, output_mark}
use Rattle.unit.specs.Room.{passes_with, unit_rings}
use Rattle.unit.specs.Fresh.{no_frame}
use Rattle.judges.specs.Turns.{judged_open_apply, judged_open_tail, judged_read, judged_mix, judged_line, judged_output, judged_close, judged_abandon}
use Rattle.stages.specs.Settle.{settled, moved}
use Rattle.rows.specs.Rows.{Rows, rows_of, laid}
use Rattle.rows.specs.Parts.{line_laid, line_ends}
use Rattle.outputs.specs.Steps.{output_laid, output_ends}
use Rattle.frame.specs.Parts.{rows_finite}
use Rattle.machine.specs.Ending.{Memory, Ending, refused, quietly, cleared}
use Rattle.machine.specs.Whole.{Play, apply, tail, is_tail, filters_for, input_for, count_for}

-- ---- open (R5.3 to R5.8)

abbrev pub open_due : Model → UnitState → Play → ℕ → ℕ → Answer
open_due m u (apply t coefficients input) store work = judged_open_apply m u t coefficients input store work
open_due m u tail store work = judged_open_tail m u store work

-- R5.6: the unit with a frame open
abbrev pub unit_open : Model → UnitState → Bool → List Filter → ℤ → UnitState
unit_open m u kind filters next = record {
  settings = u.settings;
  cursors = u.cursors;
  count = u.count;
  filters = filters;
  held = record { busy = true; tail = kind; marks = replicate (jobs_len m) false; next = next; before = u.filters };
}

abbrev pub unit_opened : Model → UnitState → Play → UnitState
unit_opened m u p = unit_open m u (is_tail p) (filters_for m u p) (count_for u p)

-- R5.8: all of the work memory is set, beside input and rings to +0
unfoldable pub open_laid : Model → ℕ → List Float → List Float → List Float
open_laid m f input rings =
    let rows = replicate (m.lines * f) +0 in
    laid input rows rows (replicate f +0) rings

abbrev pub memory_opened : Model → Memory → Play → Memory
memory_opened m w p =
    let u = w.unit in
    record {
      unit = unit_opened m u p;
      store = w.store;
      work = open_laid m u.settings.frame (input_for u p) (allpass_in (lengths m u) w.store);
    }

abbrev pub opened : Model → Memory → Play → Ending
opened m w p = quietly (open_due m w.unit p (length w.store) (length w.work)) (memory_opened m w p) w

-- ---- the jobs (R5.10 to R5.17): each works from the state, store and work memory that it is handed, and leaves its rows, its filters and its
-- mark there, and all else as it was

pub data Job : Type 0 where
  read_job : ℕ → Job
  mix_job : Job
  line_job : ℕ → Job
  output_job : Job

abbrev pub mark_of : Model → Job → ℕ
mark_of m (read_job i) = i
mark_of m mix_job = mix_mark m
mark_of m (line_job i) = line_mark m i
mark_of m output_job = output_mark m

abbrev pub job_due : Model → Memory → Job → Answer
job_due m w (read_job i) = judged_read m w.unit i (length w.store) (length w.work)
job_due m w mix_job = judged_mix m w.unit (length w.work)
job_due m w (line_job i) = judged_line m w.unit i (length w.work)
job_due m w output_job = judged_output m w.unit (length w.work)

-- R5.11: step 2 of line i
abbrev pub read_row : Model → UnitState → ℕ → List Float → List Float
read_row m u i store = read (stretch (lengths m u) i store) (get_or u.cursors.lines i (both 0)).read.0 u.settings.frame

unfoldable pub read_work : Model → UnitState → ℕ → List Float → List Float → List Float
read_work m u i store work =
    let r = rows_of m.lines u.settings.frame work in
    laid r.input (set_row u.settings.frame i (read_row m u i store) r.reads) r.mixed r.output r.rings

-- R5.12: step 3
unfoldable pub mix_laid : Model → ℕ → List Float → List Float
mix_laid m f work =
    let r = rows_of m.lines f work in
    laid r.input r.reads (mixed_rows m.lines f m.factor r.reads) r.output r.rings

-- R5.11 to R5.14: the work memory after a job. Line i leaves step 4, the output step 5 and the allpass rings
abbrev pub job_work : Model → Memory → Job → List Float
job_work m w (read_job i) = read_work m w.unit i w.store w.work
job_work m w mix_job = mix_laid m w.unit.settings.frame w.work
job_work m w (line_job i) = line_laid m w.unit.settings.frame i w.unit.held.tail w.unit.filters true w.work
job_work m w output_job =
    output_laid m.lines w.unit.settings.frame m.divisor (passes_with m w.unit.cursors.passes) w.unit.filters true w.work

-- R5.13, R5.14: the filters after a job, which are new for line i its three, and for the output the tone's three
abbrev pub job_filters : Model → Memory → Job → List Filter
job_filters m w (read_job i) = w.unit.filters
job_filters m w mix_job = w.unit.filters
job_filters m w (line_job i) = line_ends m w.unit.settings.frame i w.unit.filters true w.work
job_filters m w output_job =
    output_ends m.lines w.unit.settings.frame m.divisor (passes_with m w.unit.cursors.passes) w.unit.filters true w.work

-- R5.16, R5.17: the unit with the job of mark k done, and its filters then
abbrev pub unit_marked : UnitState → ℕ → List Filter → UnitState
unit_marked u k filters = record {
  settings = u.settings;
  cursors = u.cursors;
  count = u.count;
  filters = filters;
  held = record { busy = u.held.busy; tail = u.held.tail; marks = set u.held.marks k true; next = u.held.next; before = u.held.before };
}

abbrev pub memory_done : Model → Memory → Job → Memory
memory_done m w j = record { unit = unit_marked w.unit (mark_of m j) (job_filters m w j); store = w.store; work = job_work m w j }

abbrev pub done : Model → Memory → Job → Ending
done m w j = quietly (job_due m w j) (memory_done m w j) w

-- ---- close (R5.20 to R5.27): what is put, handed out, moved and counted is so here and not before (R5.9)

-- R5.23, R5.25: after a frame that is accepted, with the filters that its jobs left
abbrev pub unit_closed : Model → UnitState → UnitState
unit_closed m u = record { settings = u.settings; cursors = moved m u; count = u.held.next; filters = u.filters; held = no_frame m }

-- R5.26: the unit as it was before the open
abbrev pub unit_shut : Model → UnitState → UnitState
unit_shut m u = record { settings = u.settings; cursors = u.cursors; count = u.count; filters = u.held.before; held = no_frame m }

-- R5.27: and the work memory +0 throughout
abbrev pub memory_shut : Model → Memory → Memory
memory_shut m w = record { unit = unit_shut m w.unit; store = w.store; work = cleared w.work }

-- R5.22, R5.24, R5.25: the rows of an open frame kept and handed out
abbrev pub kept_rows : Model → Memory → Rows → Ending
kept_rows m w r =
    let u = w.unit in
    record {
      answer = Accepted;
      verdict = verdict_of u.held.next;
      memory = record {
        unit = unit_closed m u;
        store = settled m.lines u.settings.frame (unit_rings m u) r.mixed r.rings w.store;
        work = cleared w.work;
      };
      output = r.output;
    }

-- R5.21: what they come to at the close, 9 unless all of them are finite
unfoldable pub ended : Model → Memory → Rows → List Float → Ending
ended m w r output = cond (rows_finite w.unit.filters r) (kept_rows m w r) (refused (Err NotFinite) (memory_shut m w) output)

abbrev pub closed : Model → Memory → List Float → Ending
closed m w output =
    let u = w.unit in
    let due = judged_close m u (length w.store) (length w.work) (length output) in
    accept due (ended m w (rows_of m.lines u.settings.frame w.work) output) (refused due w output)

-- R5.28: abandon
abbrev pub abandoned : Model → Memory → Ending
abandoned m w = quietly (judged_abandon m w.unit (length w.work)) (memory_shut m w) w
