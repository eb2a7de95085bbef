-- What an open leaves of the work memory. Assumes nothing.
use mathlib.Core.Path.{◌≡◌, refl, sym, ap, ◌∙◌}
use mathlib.Core.Bool.{◌&&◌}
use mathlib.Core.List.{List, [], ◌++◌, append_assoc}
use Prim.Native.Nat.{ℕ, ◌+◌, ◌*◌, ◌-◌, ◌≤◌}
use native.Mathlib.Omega.{arith}
use lib.Ieee.{Float}
use lib.ListN.{length, take, drop, replicate, length-append, length-replicate, replicate-append-replicate}
use lib.Seq.{take_at}
use borrow.Author.Tests.{eqb-true}
use borrow.Rule.Slice.PartMut.{put_mid}
use Rattle.samples.specs.Binary32.{+0}
use Rattle.samples.specs.Sizes.{rate_ok, frame_ok}
use Rattle.samples.proofs.Laws.{split_and, join_and}
use Rattle.samples.proofs.Turns.{middle}
use Rattle.unit.specs.UnitState.{UnitState}
use Rattle.unit.specs.Layout.{wall, lengths, total, allpass_in, store_len, places_of}
use Rattle.judges.specs.Judges.{store_ok, work_ok}
use Rattle.stages.specs.Steps.{copied}
use Rattle.stages.proofs.RowLaws.{copied_all}
use Rattle.rows.specs.Workers.{WorkFits}
use Rattle.rows.specs.Rows.{joined_rows}
use Rattle.frame.proofs.RowJoins.{copy_join}
use Rattle.rows.proofs.RowsOf.{work_fits}
use Rattle.judges.proofs.Fits.{Due}
use Rattle.machine.specs.Jobs.{open_laid}

-- an accepted open is lent a store and a work memory of its unit's frames
pub record OpenFits (u : UnitState) (store work : ℕ) : Type 0 where
  pub fits : WorkFits wall u.settings.frame work
  pub rings : store ≡ store_len wall (lengths wall u)

pub open_fits : (u : UnitState) (store work : ℕ) → Due u (store_ok wall u store && work_ok wall u work) → OpenFits u store work
open_fits u store work d =
    let l = split_and (store_ok wall u store) (work_ok wall u work) d.lent in
    let frame = (split_and (rate_ok u.settings.rate) (frame_ok u.settings.frame) d.sizes).1 in
    record { fits = work_fits u.settings.frame work (join_and frame l.1); rings = eqb-true _ _ l.0 }

-- 34 rows of +0, by their kinds
rows_of_zeros : (f : ℕ) (rings : List Float)
    → replicate (places_of 16 f).rings +0 ++ rings
    ≡ replicate f +0 ++ (replicate (16 * f) +0 ++ (replicate (16 * f) +0 ++ (replicate f +0 ++ rings)))
rows_of_zeros f rings =
    let e : (places_of 16 f).rings ≡ f + (16 * f + (16 * f + f)) = omega arith in
    let z : replicate (places_of 16 f).rings +0 ≡ replicate f +0 ++ (replicate (16 * f) +0 ++ (replicate (16 * f) +0 ++ replicate f +0)) =
    ap (λ (n : ℕ). replicate n +0) e
    ∙ sym (replicate-append-replicate f (16 * f + (16 * f + f)) +0)
    ∙ ap (λ (l : List Float). replicate f +0 ++ l)
    (sym (replicate-append-replicate (16 * f) (16 * f + f) +0)
    ∙ ap (λ (l : List Float). replicate (16 * f) +0 ++ l) (sym (replicate-append-replicate (16 * f) f +0))) in
    ap (λ (l : List Float). l ++ rings) z
    ∙ append_assoc (replicate f +0) (replicate (16 * f) +0 ++ (replicate (16 * f) +0 ++ replicate f +0)) rings
    ∙ ap (λ (l : List Float). replicate f +0 ++ l)
    (append_assoc (replicate (16 * f) +0) (replicate (16 * f) +0 ++ replicate f +0) rings
    ∙ ap (λ (l : List Float). replicate (16 * f) +0 ++ l) (append_assoc (replicate (16 * f) +0) (replicate f +0) rings))

-- the parts of a store
pub lines_before : (u : UnitState) (store : ℕ) → store ≡ store_len wall (lengths wall u) → total (lengths wall u) + total wall.pass_lengths ≡ store
unfolding store_len
lines_before u store e = sym e

-- the rings copied to the end of a work memory that is all +0
pub begin_laid : (u : UnitState) (store w x : List Float) (n b : ℕ) → b ≡ (places_of 16 u.settings.frame).rings → WorkFits wall u.settings.frame n → length store ≡ store_len wall (lengths wall u) → w ≡ replicate n +0
    → let f = u.settings.frame in
    let a = length store - (length w - b) in
    x ≡ copied (take (length store - a) (drop a store)) (take (length w - b) (drop b w))
    → put_mid b (length w - b) w x ≡ open_laid wall f (replicate f +0) (allpass_in (lengths wall u) store)
unfolding open_laid joined_rows
begin_laid u store w x n b eb h e z ex =
    let f = u.settings.frame in
    let t = total (lengths wall u) in
    let rings = total wall.pass_lengths in
    let parts = lines_before u (length store) e in
    let long : length w ≡ n = ap length z ∙ length-replicate n +0 in
    let sum : n ≡ b + rings = omega (arith, h.work_is) in
    let all : w ≡ replicate b +0 ++ replicate rings +0 = z ∙ ap (λ (k : ℕ). replicate k +0) sum ∙ sym (replicate-append-replicate b rings +0) in
    let front : take b w ≡ replicate b +0 = ap (take b) all ∙ take_at (replicate b +0) (replicate rings +0) b (length-replicate b +0) in
    copy_join t b store w x (omega (arith, parts)) (omega (arith, parts, long, h.work_is)) ex
    ∙ ap (λ (l : List Float). l ++ drop t store) (front ∙ ap (λ (k : ℕ). replicate k +0) eb)
    ∙ rows_of_zeros f (drop t store)

-- the input copied to its front
module _ (f : ℕ) (rings : List Float) where
  abbrev rest : List Float
  rest = replicate (16 * f) +0 ++ (replicate (16 * f) +0 ++ (replicate f +0 ++ rings))

  pub open_long : f ≤ length (open_laid wall f (replicate f +0) rings)
  unfolding open_laid joined_rows
  open_long = rw (length-append (replicate f +0) rest, length-replicate f +0) (omega arith)

  pub input_laid : (input x : List Float) → length input ≡ f → x ≡ copied input (take (f - 0) (drop 0 (open_laid wall f (replicate f +0) rings)))
      → put_mid 0 (f - 0) (open_laid wall f (replicate f +0) rings) x ≡ open_laid wall f input rings
  unfolding open_laid joined_rows
  input_laid input x l e =
      let k : f ≡ f - 0 = omega arith in
      let m = middle 0 f [] (replicate f +0) rest (replicate f +0 ++ rest) refl refl (length-replicate f +0 ∙ k) in
      let new : x ≡ input = e ∙ ap (copied input) m.0 ∙ copied_all input (replicate f +0) (l ∙ sym (length-replicate f +0)) in
      m.1 x ∙ ap (λ (y : List Float). y ++ rest) new

  pub laid-after : (input w x : List Float) → length input ≡ f → w ≡ open_laid wall f (replicate f +0) rings → x ≡ copied input (take (f - 0) (drop 0 w))
      → put_mid 0 (f - 0) w x ≡ open_laid wall f input rings
  laid-after input w x l z e = rw z (input_laid input x l (rw z at e))
