-- What private workers leave of the rows lent.
use Rattle.unit.specs.Room.{AllpassRings}
use Rattle.std.specs.Prelude.{ℕ, ◌/◌, List, ◌++◌, Float}
use Rattle.allpass.specs.Passes.{pass_out, pass_end}
use Rattle.stages.specs.Frame.{stage_at, allpass_of}

-- a row of f samples after both allpass stages, and their rings after it
abbrev pub both_passed : ℕ → AllpassRings → List Float → List Float → List Float
both_passed f p rings row =
    let s = stage_at p.lengths p.cursors rings 0 in
    let t = stage_at p.lengths p.cursors rings 2 in
    let out = pass_out (f / 4) s row in
    pass_out (f / 4) t out ++ allpass_of (pass_end (f / 4) s row) (pass_end (f / 4) t out)
