-- One allpass stage that lies in a lent stretch w with the row that it goes over, and the two stages four by four.
use Rattle.std.specs.Prelude.{ℕ, zero, suc, ◌+◌, ◌/◌, ◌≡◌, Bool, ◌&&◌, cond, List, [], ◌++◌, leb, Float, length, take, drop}
use Rattle.samples.specs.Lists.{over}
use Rattle.delay.specs.declared.Cursors.{Cursors}
use Rattle.delay.specs.Ring.{list_of, four_of}
use Rattle.allpass.specs.Passes.{Stage, stage_out, stage_end, pass_out, pass_end}

-- ---- one stage over a row

-- the stage of an x ring and a y ring with their cursors
abbrev pub stage : List Float → Cursors → List Float → Cursors → Stage
stage x xs y ys = record { x = x; xs = xs; y = y; ys = ys }

-- a stage's rings lie one after the other: the x ring is the first lx samples, the y ring the others
abbrev pub stage_of : ℕ → Cursors → Cursors → List Float → Stage
stage_of lx cx cy rings = record { x = take lx rings; xs = cx; y = drop lx rings; ys = cy }

abbrev pub both_rings : Stage → List Float
both_rings s = s.x ++ s.y

-- the stage whose rings, of lx and ly samples, lie in w from `at` on
abbrev pub stage_in : ℕ → ℕ → ℕ → Cursors → Cursors → List Float → Stage
stage_in at lx ly cx cy w = stage_of lx cx cy (take (lx + ly) (drop at w))

-- w after n fours, from place t on: those that go on take their places, the rings are the stage's after them, all else is as it was
unfoldable pub passed : ℕ → ℕ → ℕ → ℕ → ℕ → Cursors → Cursors → List Float → List Float
passed n t at lx ly cx cy w =
    let s = stage_in at lx ly cx cy w in
    over t (pass_out n s (drop t w)) (over at (both_rings (pass_end n s (drop t w))) w)

-- a row of f samples lies before the rings, and these within the length l
unfoldable pub parts_fit : ℕ → ℕ → ℕ → ℕ → ℕ → Bool
parts_fit f at lx ly l = leb f at && leb (at + (lx + ly)) l

-- the row is the first f samples of w: the stage goes over as many fours as are whole in it. R3.37: where the parts don't fit nothing changes
unfoldable pub staged : ℕ → ℕ → ℕ → ℕ → Cursors → Cursors → List Float → List Float
staged f at lx ly cx cy w = cond (parts_fit f at lx ly (length w)) (passed (f / 4) 0 at lx ly cx cy w) w

-- ---- R3.36: each four goes through both stages before the next one comes

unfoldable pub both_out : ℕ → Stage → Stage → List Float → List Float
both_out zero s0 s1 row = []
both_out (suc n) s0 s1 row =
    let x = four_of row in
    let y = stage_out s0 x in
    list_of (stage_out s1 y) ++ both_out n (stage_end s0 x) (stage_end s1 y) (drop 4 row)

pub record Both : Type 0 where
  pub stage0 : Stage
  pub stage1 : Stage

unfoldable pub both_end : ℕ → Stage → Stage → List Float → Both
both_end zero s0 s1 row = record { stage0 = s0; stage1 = s1 }
both_end (suc n) s0 s1 row =
    let x = four_of row in
    both_end n (stage_end s0 x) (stage_end s1 (stage_out s0 x)) (drop 4 row)

-- R3.36: the row and both stages are those of stage 0 over the whole row, and then stage 1 over what that gives. The stages share no ring
abbrev pub ByFours : Type 0
ByFours =
    (n : ℕ) (s0 s1 : Stage) (row : List Float)
    → (both_out n s0 s1 row ≡ pass_out n s1 (pass_out n s0 row))
    × (both_end n s0 s1 row ≡ record { stage0 = pass_end n s0 row; stage1 = pass_end n s1 (pass_out n s0 row) })
