-- The allpass: one step, a stage's turn of four samples, and a stage over a row (R3.32 to R3.35).
use Rattle.std.specs.Prelude.{ℕ, zero, suc, List, [], ◌++◌, Float, drop, length}
use Rattle.std.specs.Float.{binary32}
use Rattle.std.specs.Float.Ieee.{of_bits}
use Rattle.samples.specs.Binary32.{◌⊕◌, ◌⊖◌, ◌⊗◌}
use Rattle.delay.specs.declared.Cursors.{Cursors}
use Rattle.delay.specs.declared.Four.{Four}
use Rattle.delay.specs.Ring.{list_of, four_of}
use Rattle.delay.specs.Calls.{get4_answer, put4_answer, put4_ring}

-- 0.25
abbrev pub gain : Float
gain = of_bits binary32 0x3e80_0000

-- R3.32: one step
unfoldable pub allpass : Float → Float → Float → Float
allpass x xm ym = (xm ⊕ gain ⊗ ym) ⊖ gain ⊗ x

-- the same for four
abbrev pub allpass4 : Four → Four → Four → Four
allpass4 x xm ym =
    record { 0 = allpass x.0 xm.0 ym.0; 1 = allpass x.1 xm.1 ym.1; 2 = allpass x.2 xm.2 ym.2; 3 = allpass x.3 xm.3 ym.3 }

-- R1.12, R3.34: a stage is an x ring and a y ring, each with its cursors
pub record Stage : Type 0 where
  pub x : List Float
  pub xs : Cursors
  pub y : List Float
  pub ys : Cursors

-- R3.33: what goes on of the four samples x
abbrev pub stage_out : Stage → Four → Four
stage_out s x = allpass4 x (get4_answer s.x s.xs).x (get4_answer s.y s.ys).x

-- R3.33: the stage after them, x put into the one ring and what goes on into the other
abbrev pub stage_end : Stage → Four → Stage
stage_end s x =
    let cx = (get4_answer s.x s.xs).cursors in
    let cy = (get4_answer s.y s.ys).cursors in
    record {
      x = put4_ring s.x cx x;
      xs = (put4_answer (length s.x) cx).cursors;
      y = put4_ring s.y cy (stage_out s x);
      ys = (put4_answer (length s.y) cy).cursors;
    }

-- R3.35: a stage over n fours of a row, and the stage after them
unfoldable pub pass_out : ℕ → Stage → List Float → List Float
pass_out zero s row = []
pass_out (suc n) s row = list_of (stage_out s (four_of row)) ++ pass_out n (stage_end s (four_of row)) (drop 4 row)

unfoldable pub pass_end : ℕ → Stage → List Float → Stage
pass_end zero s row = s
pass_end (suc n) s row = pass_end n (stage_end s (four_of row)) (drop 4 row)
