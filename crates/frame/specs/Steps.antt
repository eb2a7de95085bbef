-- What a whole frame leaves of the memory lent: where there is room for the frame, and where there is none.
use Rattle.std.specs.Prelude.{ℕ, Bool, false, cond, List, Float, length, take, replicate}
use Rattle.samples.specs.Binary32.{+0}
use Rattle.iir.specs.declared.Filter.{Filter}
use Rattle.unit.specs.declared.Rings.{Rings}
use Rattle.unit.specs.Layout.{Model}
use Rattle.unit.specs.Room.{room_ok}
use Rattle.stages.specs.Frame.{Frame, new_filters, frame_in}
use Rattle.stages.specs.Settle.{frame_finite, settled, all_moved}
use Rattle.rows.specs.Rows.{Rows, rows_of}
use Rattle.frame.specs.Parts.{rows_finite}
use Rattle.frame.specs.declared.Stepped.{Stepped}

-- what the caller is given, and what is left of the store, the work memory and the output
pub record Left : Type 0 where
  pub stepped : Stepped
  pub store : List Float
  pub work : List Float
  pub output : List Float

-- what a frame of f samples on the rings r came to: whether all of it is `ok`, its filters, and the cursors moved on
abbrev pub stepped_on : ℕ → Rings → Bool → List Filter → Stepped
stepped_on f r ok gs = record { ok = ok; filters = gs; lines = all_moved f r.lines.lengths r.lines.cursors; passes = all_moved f r.passes.lengths r.passes.cursors }

-- a frame of n lines whose filters and rows are these is kept and handed out if all of it is `ok`. The cursors move on and the work memory is cleared
-- whether it is or not
unfoldable pub left_by : ℕ → ℕ → Rings → Bool → List Filter → Rows → List Float → List Float → List Float → Left
left_by n f r ok gs rows store work output = record {
  stepped = stepped_on f r ok gs;
  store = cond ok (settled n f r rows.mixed rows.rings store) store;
  work = replicate (length work) +0;
  output = cond ok rows.output output;
}

-- R3.37: where there is no room for it nothing is done
abbrev pub untouched : Rings → List Filter → List Float → List Float → List Float → Left
untouched r fs store work output =
    record { stepped = record { ok = false; filters = fs; lines = r.lines.cursors; passes = r.passes.cursors }; store = store; work = work; output = output }

-- the rows of a frame
abbrev pub rows_in : List Float → Frame → Rows
rows_in input r = record { input = input; reads = r.reads; mixed = r.lines.put; output = r.output.out; rings = r.output.rings }

-- R4.5 to R4.20: a whole frame, from the filters fs and the input at the front of the work memory
abbrev pub ran_with_room : ℕ → ℕ → Float → Float → Bool → Rings → List Filter → List Float → List Float → List Float → Left
ran_with_room n f k d tail r fs store work output =
    let x = frame_in n f k d tail r fs (take f work) store in
    left_by n f r (frame_finite x) (new_filters x) (rows_in (take f work) x) store work output

abbrev pub ran : Model → ℕ → Rings → Bool → List Filter → List Float → List Float → List Float → Left
ran m f r tail fs store work output =
    cond (room_ok m f r (length store) (length work) (length output))
    (ran_with_room m.lines f m.factor m.divisor tail r fs store work output)
    (untouched r fs store work output)

-- R5.21 to R5.23: the end of a frame whose rows lie in the work memory, and whose filters are fs
abbrev pub finished_with_room : ℕ → ℕ → Rings → List Filter → List Float → List Float → List Float → Left
finished_with_room n f r fs store work output =
    let rows = rows_of n f work in
    left_by n f r (rows_finite fs rows) fs rows store work output

abbrev pub finished : Model → ℕ → Rings → List Filter → List Float → List Float → List Float → Left
finished m f r fs store work output =
    cond (room_ok m f r (length store) (length work) (length output))
    (finished_with_room m.lines f r fs store work output)
    (untouched r fs store work output)
