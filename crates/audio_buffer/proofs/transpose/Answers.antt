-- `audio_buffer::transpose` meets its contract. Assumes nothing.
use native.Mathlib.Omega.{arith}
use mathlib.Core.Path.{◌≡◌, refl, ap, ◌∙◌}
use mathlib.Core.List.{List, ◌++◌, append_assoc}
use Prim.Native.Nat.{ℕ, ◌+◌, ◌-◌, ◌*◌, ◌≤◌, ◌<◌}
use native.Mathlib.Nat.{zero-mul, sub-zero, mul_comm, add-mul, one-mul}
use lib.ListN.{length, take, drop}
use lib.Ieee.{Float}
use borrow.Rule.Slice.PartMut.{put_mid}
use Rattle.samples.specs.Lists.{over}
use Rattle.samples.proofs.Turns.{all_done}
use Rattle.samples.proofs.Lists.{come_back, over_done, lent_long}
use Rattle.samples.proofs.Rows.{row_ends}
use Rattle.audio_buffer.specs.Layout.{first_of_each, columns}
use Rattle.audio_buffer.proofs.Laws.{column-length}
use Rattle.audio_buffer.proofs.Turns.{columns_more}
use Rattle.audio_buffer.proofs.transpose.Goals as goal

-- column t, written behind those before it
turned : (row n k t : ℕ) (xs w all : List Float) {w' ys : List Float} → t < k → t * n + n ≤ length w
    → w' ≡ put_mid (t * n) (t * n + n - t * n) w ys → ys ≡ first_of_each row n (drop t xs)
    → take (t * n) w ++ columns row n (k - t) (drop t xs) ≡ all
    → take ((t + 1) * n) w' ++ columns row n (k - (t + 1)) (drop (t + 1) xs) ≡ all
turned row n k t xs w all {w'} {ys} h fits p q e =
    let column = first_of_each row n (drop t xs) in
    let long = column-length row n (drop t xs) in
    let put : w' ≡ over (t * n) column w = p ∙ ap (put_mid (t * n) (t * n + n - t * n) w) q ∙ come_back (t * n) w n column long in
    let next : (t + 1) * n ≡ t * n + n = rw (add-mul, one-mul) refl in
    rw (put, next, over_done (t * n) w n column long fits, append_assoc, ← columns_more row xs n k t h) e

pub loop-t-init : goal.loop-t-init
loop-t-init c = rw (zero-mul, sub-zero) refl

pub loop-t-preserved : goal.loop-t-preserved
loop-t-preserved c =
    let l = c.loop-t in
    let a = c.args in
    let ends = row_ends l.t a.row a.rows (omega arith) in
    let fits : l.t * a.rows + a.rows ≤ length l.target = omega (arith, mul_comm a.rows a.row) in
    let written = rw (lent_long (l.t * a.rows) l.target a.rows fits) at c.write_column.ensures in
    turned a.row a.rows a.row l.t a.source.now l.target _ (omega arith) fits refl written l.invariant

pub returns : goal.returns
returns c =
    let l = c.loop-t in
    let a = c.args in
    let t : l.t ≡ a.row = omega arith in
    let done : a.row - l.t ≡ 0 = omega arith in
    all_done l.target (l.t * a.rows) (omega (arith, mul_comm a.rows a.row, ap (λ n. n * a.rows) t)) ∙ rw done at l.invariant
