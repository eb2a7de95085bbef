-- One line's row read into the work memory: where its ring lies, and what comes of it. Assumes nothing.
use mathlib.Core.Path.{◌≡◌, refl, sym, ap, ◌∙◌}
use mathlib.Core.Bool.{true}
use mathlib.Core.List.{List}
use Prim.Native.Nat.{ℕ, suc, ◌+◌, ◌*◌, ◌-◌, ◌<◌, ◌≤◌}
use native.Mathlib.Omega.{arith}
use lib.Ieee.{Float}
use lib.ListN.{length, get_or, take, drop}
use lib.Dec.{ltb, eqb}
use borrow.Author.Tests.{ltb-true, eqb-true}
use borrow.Rule.Slice.PartMut.{put_mid}
use Rattle.samples.specs.Lists.{over, row}
use Rattle.samples.proofs.Laws.{split_and}
use Rattle.samples.proofs.Turns.{lent}
use Rattle.samples.proofs.Lists.{part_long, lent_long, come_back}
use Rattle.samples.proofs.Rows.{row_ends}
use Rattle.delay.specs.declared.Cursors.{Cursors}
use Rattle.delay.specs.Calls.{both, get_out}
use Rattle.delay.specs.Ring.{read}
use Rattle.delay.proofs.Laws.{Moves, get_ok}
use Rattle.unit.specs.declared.Rings.{Rings}
use Rattle.unit.specs.Layout.{wall, total, stretch, store_len}
use Rattle.unit.specs.Range.{cursors_in}
use Rattle.unit.specs.Room.{rings_hold}
use Rattle.rows.specs.Fits.{work_for}
use Rattle.rows.specs.Workers.{WorkFits}
use Rattle.rows.specs.Rows.{rows_of}
use Rattle.unit.proofs.Totals.{total_next, total_front}
use Rattle.rows.proofs.RowsOf.{work_fits}
use Rattle.rows.proofs.LineLaid.{read_set, read_at}
use Rattle.rows.specs.Reads.{read_in, read_laid, line_room}
use Rattle.unit.proofs.Ranges.{cursors_at, holds_at}

-- there is such a line, and the memory fits
pub line_fits : (f : ℕ) (ls : List ℕ) (i store work : ℕ) → line_room wall f ls i store work ≡ true
    → (i < 16) × WorkFits wall f work × (rings_hold f ls ≡ true) × (store ≡ store_len wall ls)
line_fits f ls i store work e =
    let p = split_and (ltb i 16) _ e in
    let q = split_and (work_for wall f work) _ p.1 in
    let r = split_and (rings_hold f ls) (eqb store (store_len wall ls)) q.1 in
    (ltb-true i 16 p.0, work_fits f work q.0, r.0, eqb-true store (store_len wall ls) r.1)

-- ---- the row of line i

module _ (f : ℕ) (v : Rings) (i : ℕ) (store w : List Float) (h : i < 16) (all : length v.lines.lengths ≡ 16)
    (rings : rings_hold f v.lines.lengths ≡ true) (long : length store ≡ store_len wall v.lines.lengths) (fits : WorkFits wall f (length w)) where
  abbrev ls : List ℕ
  ls = v.lines.lengths

  abbrev c : Cursors
  c = get_or v.lines.cursors i (both 0)

  abbrev start : ℕ
  start = total (take i ls)

  abbrev l : ℕ
  l = get_or ls i 0

  -- its ring holds a frame
  pub ring_holds : (f ≤ l) × (l ≤ 65536)
  ring_holds = holds_at f ls rings i (omega arith)

  -- it lies within the store
  pub ring_within : start + l ≤ length store
  unfolding store_len
  ring_within = omega (arith, total_next i ls, total_front (suc i) ls, long)

  -- and its row within the work memory
  pub row_within : f + i * f + f ≤ length w
  row_within = omega (arith, row_ends i 16 f h, fits.work_is)

  pub read-laid : (a b : ℕ) (x : List Float) → a ≡ start → b ≡ f + i * f
      → length x ≡ length (take (b + f - b) (drop b w))
      → x ≡ get_out (take (a + l - a) (drop a store)) c (take (b + f - b) (drop b w))
      → put_mid b (b + f - b) w x ≡ read_laid wall f v i true store w
  unfolding read_laid rows_of stretch
  read-laid a b x ea eb kept ex =
      let whole : length x ≡ f = kept ∙ lent_long b w f (omega (arith, eb, row_within)) in
      let ring : take (a + l - a) (drop a store) ≡ stretch ls i store = lent a l store ∙ rw ea refl in
      let got : x ≡ get_out (stretch ls i store) c (row f i (take (16 * f) (drop f w))) = ex ∙ rw (ring, lent b f w, eb, read_at f i w h fits) refl in
      come_back b w f x whole ∙ ap (λ (j : ℕ). over j x w) eb ∙ read_set f i w h fits x whole ∙ rw got refl

  -- a ring whose cursors are within it gives the row whole
  pub read_given : cursors_in ls v.lines.cursors ≡ true → read_in f v i store (rows_of 16 f w) ≡ read (stretch ls i store) c.read.0 f
  unfolding rows_of stretch
  read_given in-rings =
      let row' = row f i (take (16 * f) (drop f w)) in
      let within = cursors_at ls v.lines.cursors in-rings i (omega (arith, fits.some, ring_holds.0)) in
      let lr : length (stretch ls i store) ≡ l = part_long start store l ring_within in
      let lo : length row' ≡ f = ap length (sym (read_at f i w h fits)) ∙ part_long (f + i * f) w f row_within in
      let m : Moves l c f = record {
        ready = record { some = omega (arith, fits.some, ring_holds.0); small = ring_holds.1; reads = within.read; writes = within.write };
        some = fits.some;
        fits = ring_holds.0;
      } in
      (get_ok (stretch ls i store) row' c (rw (lr, lo) m)).1 ∙ ap (read (stretch ls i store) c.read.0) lo
