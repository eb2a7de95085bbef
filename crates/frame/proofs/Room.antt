-- From room for a frame to what its steps ask of the memory lent. Assumes nothing.
use mathlib.Core.Path.{◌≡◌, ap}
use mathlib.Core.Bool.{true, ◌&&◌}
use mathlib.Core.List.{List}
use Prim.Native.Nat.{ℕ, zero, suc, ◌+◌, ◌≤◌, ◌<◌}
use native.Mathlib.Omega.{arith}
use lib.Dec.{eqb}
use lib.ListN.{length, get_or, take, drop}
use lib.Seq.{take_all}
use borrow.Author.Tests.{eqb-true}
use Rattle.samples.specs.Sizes.{frame_ok}
use Rattle.samples.proofs.Laws.{split_and, frame_of}
use Rattle.delay.specs.declared.Cursors.{Cursors}
use Rattle.delay.specs.Calls.{both}
use Rattle.unit.specs.declared.Rings.{Rings}
use Rattle.unit.specs.Layout.{wall, total, store_len, work_len}
use Rattle.unit.specs.Range.{cursors_in}
use Rattle.unit.specs.Room.{rings_hold, passes_are, room_ok}
use Rattle.unit.proofs.Ranges.{Below, cursors_at, holds_at, passes_same}
use Rattle.rows.proofs.RowsOf.{work_parts}
use Rattle.stages.proofs.RowLaws.{total_more}
use Rattle.frame.specs.Workers.{RingsFit, Within, WholeFits}

-- rings that hold a frame, with their cursors within them
module _ (f : ℕ) (ls : List ℕ) (cs : List Cursors) (some : 0 < f) (hold : rings_hold f ls ≡ true) (all : cursors_in ls cs ≡ true) where
  line_at : (i : ℕ) → i < length ls → Below (get_or ls i 0) (get_or cs i (both 0))
  line_at i h = cursors_at ls cs all i (omega (arith, (holds_at f ls hold i h).0))

  pub lines_within : (n i : ℕ) → i + n ≡ length ls → Within n i ls cs
  lines_within zero i e = tt
  lines_within (suc n) i e =
      let b = line_at i (omega arith) in
      ((holds_at f ls hold i (omega arith)).1, b.read, b.write, lines_within n (i + 1) (omega arith))

  pub rings_of : (n i a len : ℕ) → i + n ≡ length ls → a + total (take n (drop i ls)) ≤ len → RingsFit f n i a ls cs len
  unfolding total
  rings_of zero i a len e h = tt
  rings_of (suc n) i a len e h =
      let b = line_at i (omega arith) in
      let l = holds_at f ls hold i (omega arith) in
      let k = total_more n i ls in
      (l.0, l.1, b.read, b.write, omega (arith, k, h), rings_of n (i + 1) (a + get_or ls i 0) len (omega arith) (omega (arith, k, h)))

passes_within : (cs : List Cursors) → cursors_in wall.pass_lengths cs ≡ true → Within 4 0 wall.pass_lengths cs
passes_within cs e =
    let b : (i : ℕ) → 0 < get_or wall.pass_lengths i 0 → Below (get_or wall.pass_lengths i 0) (get_or cs i (both 0)) = cursors_at wall.pass_lengths cs e in
    let b0 = b 0 (omega arith) in
    let b1 = b 1 (omega arith) in
    let b2 = b 2 (omega arith) in
    let b3 = b 3 (omega arith) in
    (omega arith, b0.read, b0.write, (omega arith, b1.read, b1.write, (omega arith, b2.read, b2.write, (omega arith, b3.read, b3.write, tt))))

-- ---- the sizes by their parts

pub passes_small : total wall.pass_lengths ≤ 65536
unfolding total
passes_small = omega arith

-- sixteen lines are all that the wall unit has
pub every_line : (ls : List ℕ) → length ls ≡ 16 → take 16 ls ≡ ls
every_line ls e = take_all 16 ls (omega (arith, e))

store_parts : (ls : List ℕ) (store : ℕ) → store ≡ store_len wall ls → store ≡ total ls + total wall.pass_lengths
unfolding store_len
store_parts ls store e = e

pub room_fits : (f : ℕ) (r : Rings) (store work output : ℕ) → length r.lines.lengths ≡ 16 → length r.passes.lengths ≡ 4
    → room_ok wall f r store work output ≡ true → WholeFits wall f r store work output
unfolding room_ok
room_fits f r store work output long four e =
    let ls = r.lines.lengths in
    let cs = r.lines.cursors in
    let lent = eqb store (store_len wall ls) && (eqb work (work_len wall f) && eqb output f) in
    let p = split_and (frame_ok f) _ e in
    let o = split_and (rings_hold f ls && passes_are wall r.passes.lengths) _ p.1 in
    let h = split_and (rings_hold f ls) (passes_are wall r.passes.lengths) o.0 in
    let same = passes_same r.passes.lengths four h.1 in
    let q = split_and (cursors_in ls cs && cursors_in r.passes.lengths r.passes.cursors) lent o.1 in
    let c = split_and (cursors_in ls cs) (cursors_in r.passes.lengths r.passes.cursors) q.0 in
    let l = split_and (eqb store (store_len wall ls)) _ q.1 in
    let g = split_and (eqb work (work_len wall f)) (eqb output f) l.1 in
    let parts = store_parts ls store (eqb-true _ _ l.0) in
    let rest : total (take 16 ls) ≡ total ls = ap total (every_line ls long) in
    let d = frame_of f p.0 in
    let some : 0 < f = omega (arith, d.lo) in
    record {
      every = long;
      fits = record {
        few = omega arith;
        some = omega arith;
        frame = some;
        small = omega (arith, d.hi);
        fours = d.fours;
        rings = rings_of f ls cs some h.0 c.0 16 0 0 store (omega (arith, long)) (omega (arith, rest, parts));
        passes = rw same passes_small;
        four = four;
        rest = rest;
        store_is = rw same parts;
        work_is = rw same (work_parts f work (eqb-true _ _ g.0));
      };
      within = record {
        lines = lines_within f ls cs some h.0 c.0 16 0 (omega (arith, long));
        passes = rw same (passes_within r.passes.cursors (rw same at c.1));
      };
      short = d.hi;
      out = eqb-true _ _ g.1;
    }
