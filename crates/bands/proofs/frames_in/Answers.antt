-- `bands::frames_in` meets its contract: what is cut to a whole number is at most 4,800,000, and the cut or one more is the ceiling. Assumes nothing.
use Rattle.std.proofs.Common.{◌≡◌, ◌+◌, ◌≤◌, Bool, true, false, cond, arith}
use lib.Ieee.{Float, lt}
use Rattle.samples.specs.Binary32.{◌⊗◌, ◌⊘◌}
use Rattle.bands.specs.Tail.{ceiling, frames_in}
use Rattle.bands.proofs.Bounds.{Upto, cut_asks, whole_upto}
use Rattle.bands.proofs.Tail.{time_upto, frames_upto, counted_up}
use Rattle.bands.proofs.frames_in.Goals.{After-nearest_u32_to_f32-2, After-nearest_u32_to_f32-3, After-truncating_f32_to_u64-whole}
use Rattle.bands.proofs.frames_in.Goals as goal

-- the time in frames, as the code computes it
abbrev frames : goal.After-nearest_u32_to_f32-2 → Float
frames c = c.args.time ⊗ c.nearest_u32_to_f32.result ⊘ c.nearest_u32_to_f32-2.result

upto : (c : goal.After-nearest_u32_to_f32-2) → Upto (frames c) 4800000 1
upto c =
    rw (c.nearest_u32_to_f32.ensures, c.nearest_u32_to_f32-2.ensures)
    (frames_upto c.args.time c.args.rate c.args.frame (time_upto c.args.time c.requires.time_fits) c.requires.sizes_fit.0 c.requires.sizes_fit.1 c.requires.sizes_fit.2)

pub truncating_f32_to_u64-whole-requires : goal.truncating_f32_to_u64-whole-requires
truncating_f32_to_u64-whole-requires c = let cut = cut_asks (frames c) 4800000 (omega arith) (upto c) in record { lower_bound = cut.0; upper_bound = cut.1 }

whole : (c : goal.After-truncating_f32_to_u64-whole) → c.truncating_f32_to_u64-whole.result ≤ 4800000
whole c = rw c.truncating_f32_to_u64-whole.ensures (whole_upto _ 4800000 (upto c.before))

pub overflow_cast-whole : goal.overflow_cast-whole
overflow_cast-whole c = omega (arith, whole c)

pub overflow_add-result : goal.overflow_add-result
overflow_add-result c = omega (arith, whole (goal.at.overflow_add-result c).After-truncating_f32_to_u64-whole)

-- the cut, or one more where it lies below the time in frames
rounded : (c : goal.After-nearest_u32_to_f32-3) (b : Bool) → lt c.nearest_u32_to_f32-3.result (frames c.before.before) ≡ b
    → let n = c.truncating_f32_to_u64-whole.result in let a = c.args in
    (cond b (n + 1) n ≡ ceiling (frames_in a.time a.rate a.frame)) × (cond b (n + 1) n ≤ 4800000)
rounded c b e =
    rw (← e, ← c.nearest_u32_to_f32.ensures, ← c.nearest_u32_to_f32-2.ensures)
    (counted_up (frames c.before.before) c.nearest_u32_to_f32-3.result c.truncating_f32_to_u64-whole.result 4800000 (omega arith) (upto c.before.before) c.truncating_f32_to_u64-whole.ensures c.nearest_u32_to_f32-3.ensures)

pub returns-then-nearest_u32_to_f32-frames : goal.returns-then-nearest_u32_to_f32-frames
returns-then-nearest_u32_to_f32-frames c = rounded (goal.at.returns-then-nearest_u32_to_f32-frames c).After-nearest_u32_to_f32-3 true c.if-nearest_u32_to_f32-frames.true

pub returns-else-nearest_u32_to_f32-frames : goal.returns-else-nearest_u32_to_f32-frames
returns-else-nearest_u32_to_f32-frames c = rounded (goal.at.returns-else-nearest_u32_to_f32-frames c).After-nearest_u32_to_f32-3 false c.if-nearest_u32_to_f32-frames.false
