-- R3.36: the order four by four through both stages, and ours, stage by stage over the whole row, give the same row and leave the
-- same stages. By induction on the number of fours. Assumes nothing.
use Prim.Native.Nat.{zero, suc}
use mathlib.Core.Path.{refl, ap}
use mathlib.Core.List.{List, ◌++◌}
use lib.Ieee.{Float}
use lib.ListN.{drop}
use Rattle.delay.specs.Ring.{list_of, four_of}
use Rattle.allpass.specs.Passes.{stage_out, stage_end, pass_out, pass_end}
use Rattle.allpass.specs.Stages.{both_out, both_end, ByFours}

pub by_fours : ByFours
unfolding pass_out pass_end both_out both_end
by_fours zero s0 s1 row = (refl, refl)
by_fours (suc n) s0 s1 row =
    let x = four_of row in
    let y = stage_out s0 x in
    let rest = by_fours n (stage_end s0 x) (stage_end s1 y) (drop 4 row) in
    (ap (λ (l : List Float). list_of (stage_out s1 y) ++ l) rest.0, rest.1)
