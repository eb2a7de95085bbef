-- `bands::tail_count` meets its contract. Assumes nothing.
use Rattle.std.proofs.Common.{sym, ◌∙◌, arith}
use Rattle.bands.proofs.Tail.{Counts, counts}
use Rattle.bands.proofs.tail_count.Goals.{In-Ok}
use Rattle.bands.proofs.tail_count.Goals as goal

known : (c : goal.In-Ok) → let a = c.args in Counts a.t a.rate a.frame
known c = counts _ _ _ (sym c.judge.ensures ∙ c.in-Ok.is)

pub overflow_cast-frame : goal.overflow_cast-frame
overflow_cast-frame c = let k = (known (goal.at.overflow_cast-frame c).In-Ok).frames in omega arith

pub frames_in-frames-requires : goal.frames_in-frames-requires
frames_in-frames-requires c =
    let k = known (goal.at.frames_in-frames-requires c).In-Ok in
    record { time_fits = rw c.largest.ensures k.time; sizes_fit = (k.rates.hi, k.frames.lo, k.frames.hi) }
