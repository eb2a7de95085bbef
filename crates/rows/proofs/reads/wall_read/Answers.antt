-- `rows::reads::wall_read` meets its contract. Assumes nothing.
use native.Mathlib.Omega.{arith}
use borrow.Author.Rules.{rules}
use borrow.Author.Tests.{le-leb}
use mathlib.Core.Path.{◌≡◌, refl, ◌∙◌}
use Prim.Native.Nat.{◌+◌, ◌*◌, ◌≤◌}
use lib.ListN.{length, get_or, take}
use Rattle.unit.specs.Layout.{total, store_len}
use Rattle.unit.proofs.PlaceLaws.{placed, Placed, each}
use Rattle.unit.proofs.Ranges.{holds_all}
use Rattle.samples.proofs.Rows.{row_ends}
use Rattle.rows.proofs.ReadLaid.{ring_within, read-laid}
use Rattle.rows.proofs.reads.wall_read.Goals.{After-ring_place-a, After-work_places-p, Start}
use Rattle.rows.proofs.reads.wall_read.Goals as goal

lines_long : (s : goal.Start) → length s.args.rings.lines.lengths ≡ 16
lines_long s = search rules

-- line i's ring begins where it is to, and ends within the store
module _ (c : goal.After-ring_place-a) where
  abbrev s : goal.Start
  s = c.before.before.before.before.before.before.before

  start : c.ring_place-a.result ≡ total (take s.args.i s.args.rings.lines.lengths)
  start = c.ring_place-a.ensures ∙ rw (le-leb s.args.i 16 (omega (arith, s.requires.0)), s.requires.2) refl

  ring_ends : c.ring_place-a.result + get_or s.args.rings.lines.lengths s.args.i 0 ≤ length s.args.store.now
  ring_ends =
      omega (arith, start, ring_within s.args.f s.args.rings s.args.i s.args.store.now s.args.work.now s.requires.0 (lines_long s) s.requires.2 s.requires.3 s.requires.1)

  -- and the store is short
  short : length s.args.store.now ≤ 65536 * 16 + 1348
  unfolding store_len total
  short = omega (arith, s.requires.3, lines_long s, holds_all s.args.f s.args.rings.lines.lengths s.requires.2)

-- its row ends within the work memory
module _ (c : goal.After-work_places-p) where
  abbrev p : goal.Start
  p = c.before.before.before.before.before.before.before.before

  spots : Placed c.work_places-p.result 16 p.args.f
  spots = each 16 _ (placed 16 _ (omega arith) (omega (arith, p.requires.1.short)) c.work_places-p.ensures)

  row_room : p.args.f + p.args.i * p.args.f + p.args.f ≤ length p.args.work.now
  row_room = omega (arith, row_ends p.args.i 16 p.args.f p.requires.0, p.requires.1.work_is)

  row_short : p.args.i * p.args.f + p.args.f ≤ 16 * 1024
  row_short = omega (arith, row_ends p.args.i 16 p.args.f p.requires.0, p.requires.1.short)

pub returns : goal.returns
returns c =
    let s = p (goal.at.returns c).After-work_places-p in
    let a = s.args in
    read-laid a.f a.rings a.i a.store.now a.work.now s.requires.0 (lines_long s) s.requires.2 s.requires.3 s.requires.1 _ _ _
    (start (goal.at.returns c).After-ring_place-a) (omega (arith, spots (goal.at.returns c).After-work_places-p)) (search rules) c.get.ensures.out_after

pub overflow_add-e : goal.overflow_add-e
overflow_add-e c = omega (arith, ring_ends c)

pub offset_bounds-store-a : goal.offset_bounds-store-a
offset_bounds-store-a c =
    omega (arith, ring_ends (goal.at.offset_bounds-store-a c).After-ring_place-a, short (goal.at.offset_bounds-store-a c).After-ring_place-a)

pub slice_bounds-get-end : goal.slice_bounds-get-end
slice_bounds-get-end c = omega (arith, ring_ends (goal.at.slice_bounds-get-end c).After-ring_place-a)
