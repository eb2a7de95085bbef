-- The work memory of n lines, and the wall unit's, by its rows. Assumes nothing.
use mathlib.Core.Path.{◌≡◌, sym, ap, ◌∙◌}
use mathlib.Core.Bool.{true}
use mathlib.Core.List.{List, ◌++◌}
use Prim.Native.Nat.{ℕ, ◌+◌, ◌*◌}
use native.Mathlib.Omega.{arith}
use lib.Dec.{eqb}
use lib.Ieee.{Float}
use lib.ListN.{take, drop, take-append-drop}
use borrow.Author.Tests.{eqb-true}
use Rattle.samples.specs.Sizes.{frame_ok}
use Rattle.samples.proofs.Laws.{split_and, frame_of}
use Rattle.samples.proofs.Lists.{cut}
use Rattle.unit.specs.Layout.{wall, total, places_of, work_len}
use Rattle.rows.specs.Fits.{work_for}
use Rattle.rows.specs.Workers.{WorkFits}

module _ (n f : ℕ) (w : List Float) where
  abbrev k : ℕ
  k = n * f

  -- from the rows mixed on
  pub from_mixed : drop (f + k) w ≡ take k (drop (f + k) w) ++ (take f (drop (f + k + k) w) ++ drop (f + k + k + f) w)
  from_mixed = cut (f + k) w k ∙ ap (λ (l : List Float). take k (drop (f + k) w) ++ l) (cut (f + k + k) w f)

  -- all of it
  pub all_rows : w ≡ take f w ++ (take k (drop f w) ++ (take k (drop (f + k) w) ++ (take f (drop (f + k + k) w) ++ drop (f + k + k + f) w)))
  all_rows =
      sym (take-append-drop f w) ∙ ap (λ (l : List Float). take f w ++ l) (cut f w k ∙ ap (λ (l : List Float). take k (drop f w) ++ l) from_mixed)

-- a work memory of frames of f
pub work_parts : (f work : ℕ) → work ≡ work_len wall f → work ≡ (places_of 16 f).rings + total wall.pass_lengths
unfolding work_len
work_parts f work e = omega arith

pub work_fits : (f work : ℕ) → work_for wall f work ≡ true → WorkFits wall f work
work_fits f work e =
    let p = split_and (frame_ok f) (eqb work (work_len wall f)) e in
    let d = frame_of f p.0 in
    record { some = omega (arith, d.lo); short = d.hi; fours = d.fours; work_is = work_parts f work (eqb-true _ _ p.1) }
