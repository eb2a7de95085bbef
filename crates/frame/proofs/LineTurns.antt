-- The turns of the loops that read and put: what holds as line i is reached, why it holds at the next line, and what it says at the
-- end. Assumes nothing.
use mathlib.Core.Path.{◌≡◌, refl, sym, ap, ◌∙◌}
use mathlib.Core.List.{List, [], ◌++◌, append_assoc}
use Prim.Native.Nat.{ℕ, suc, ◌+◌, ◌-◌, ◌<◌, ◌≤◌}
use native.Mathlib.Nat.{add-zero}
use native.Mathlib.Omega.{arith}
use lib.Ieee.{Float}
use lib.ListN.{length, get_or, take, drop, length-append, length-drop, take-append-drop}
use lib.Seq.{take_at, drop-drop}
use borrow.Rule.Slice.PartMut.{put_mid}
use Rattle.samples.proofs.Turns.{more, all_done, lent}
use Rattle.samples.proofs.Lists.{lent_long, to_end, come_back, over-length, over_done, over-left}
use Rattle.samples.proofs.Rows.{Left, row_fits, row_done, none_left}
use Rattle.delay.specs.declared.Cursors.{Cursors}
use Rattle.delay.specs.Calls.{both, get_out, put_ring}
use Rattle.delay.specs.Ring.{read, write}
use Rattle.delay.proofs.Laws.{Moves, get_ok, put_ok, length-read, length-write}
use Rattle.unit.specs.Layout.{total}
use Rattle.stages.specs.Lines.{read_rows}
use Rattle.stages.specs.Settle.{put_rows}
use Rattle.stages.specs.Steps.{copied}
use Rattle.stages.proofs.RowLaws.{total_more, copied_all, put_rings, length-put_rows}
use Rattle.frame.specs.Workers.{RingsFit}
use Rattle.frame.proofs.LineLaws.{lines_held, here, moves}

-- ---- a frame read of each line: a is where line i's ring begins, b where its row does

abbrev pub Reading : ℕ → ℕ → List ℕ → List Cursors → List Float → List Float → ℕ → ℕ → ℕ → ℕ → List Float → Type 0
Reading n f ls cs store X len i a b rows =
    Left n f i b len × (length rows ≡ len) × RingsFit f (n - i) i a ls cs (length store)
    × (take b rows ++ read_rows f (n - i) i ls cs (drop a store) ≡ X)

-- ---- a frame put into each line: what lies after the lines stays

abbrev kept : List ℕ → ℕ → ℕ → List Float → List Float
kept ls m i store = drop (total (take m (drop i ls))) store

abbrev pub Putting : ℕ → ℕ → List ℕ → List Cursors → List Float → List Float → ℕ → ℕ → ℕ → ℕ → List Float → Type 0
Putting n f ls cs rows X len i a b store =
    Left n f i b (length rows) × (length store ≡ len) × RingsFit f (n - i) i a ls cs (length store)
    × (take a store ++ put_rows f (n - i) i ls cs (drop b rows) (kept ls (n - i) i (drop a store)) (drop a store) ≡ X)

kept_next : (ls : List ℕ) (m i a : ℕ) (store : List Float) → kept ls (suc m) i (drop a store) ≡ kept ls m (i + 1) (drop (a + get_or ls i 0) store)
kept_next ls m i a store =
    let l = get_or ls i 0 in
    let t = total (take m (drop (i + 1) ls)) in
    let e : a + (l + t) ≡ a + l + t = omega arith in
    rw (total_more m i ls, drop-drop (l + t) a store, e, ← drop-drop t (a + l) store) refl

module _ (n f : ℕ) (ls : List ℕ) (cs : List Cursors) (some : 0 < f) (store rows X : List Float) (len i a b : ℕ) where
  abbrev l : ℕ
  l = get_or ls i 0

  abbrev c : Cursors
  c = get_or cs i (both 0)

  -- line i's ring and its row, as they are lent
  abbrev ring : List Float
  ring = take (a + l - a) (drop a store)

  abbrev row : List Float
  row = take (b + f - b) (drop b rows)

  module _ (h : i < n) (r : RingsFit f (n - i) i a ls cs (length store)) (room : b + f ≤ length rows) where
    ring_long : length ring ≡ l
    ring_long = lent_long a store l (here f ls cs (length store) n i a r h).4

    ring_moves : Moves (length ring) c (length row)
    ring_moves = rw (ring_long, lent_long b rows f room) (moves f ls cs (length store) n i a r h some)

  pub read-turn : (last : List Float) → i < n → Reading n f ls cs store X len i a b rows → last ≡ get_out ring c row
      → Reading n f ls cs store X len (i + 1) (a + l) (b + f) (put_mid b (b + f - b) rows last)
  unfolding read_rows
  read-turn last h v q =
      let g = here f ls cs (length store) n i a v.2 h in
      let room : b + f ≤ length rows = omega (arith, row_fits n f i b len v.0 h) in
      let m = ring_moves h v.2 room in
      let got : last ≡ read ring c.read.0 f = q ∙ (get_ok ring row c m).1 ∙ ap (read ring c.read.0) (lent_long b rows f room) in
      let long : length last ≡ f = ap length got ∙ length-read ring c.read.0 f (rw (ring_long h v.2 room) g.0) in
      rw (come_back b rows f last long) (
        row_done n f i b len v.0 h,
        over-length b rows f last long room ∙ v.1,
        g.5,
        rw (over_done b rows f last long room, got, lent a l store, append_assoc) (rw (more n i h, drop-drop l a store) at v.3),
      )

  pub read_done : n ≤ i → Reading n f ls cs store X len i a b rows → rows ≡ X
  unfolding read_rows
  read_done h v =
      let z : n - i ≡ 0 = omega arith in
      all_done rows b (omega (arith, none_left n f i b len v.0 h)) ∙ rw z at v.3

  pub put_turn : (last : List Float) → i < n → Putting n f ls cs rows X len i a b store → last ≡ put_ring ring c row
      → Putting n f ls cs rows X len (i + 1) (a + l) (b + f) (put_mid a (a + l - a) store last)
  unfolding put_rows
  put_turn last h v q =
      let g = here f ls cs (length store) n i a v.2 h in
      let m = ring_moves h v.2 (row_fits n f i b (length rows) v.0 h) in
      let got : last ≡ write ring c.write.0 row = q ∙ (put_ok ring row c m).1 in
      let long : length last ≡ l = ap length got ∙ length-write ring row c.write.0 m.fits ∙ lent_long a store l g.4 in
      let e = rw (more n i h, kept_next ls (n - (i + 1)) i a store, drop-drop f b rows, drop-drop l a store) at v.3 in
      let same = over-length a store l last long g.4 in
      rw (come_back a store l last long, same) (
        row_done n f i b (length rows) v.0 h,
        v.1,
        g.5,
        rw (over_done a store l last long g.4, over-left a store l last long g.4, got, lent a l store, lent b f rows, append_assoc) e,
      )

  pub put_done : n ≤ i → Putting n f ls cs rows X len i a b store → store ≡ X
  unfolding put_rows total
  put_done h v =
      let z : n - i ≡ 0 = omega arith in
      sym (take-append-drop a store) ∙ rw z at v.3

-- ---- the store's end

pub end_set : (rings store last : List Float) → length rings ≤ length store → let at = length store - length rings in
    last ≡ copied rings (take (length store - at) (drop at store)) → put_mid at (length store - at) store last ≡ take at store ++ rings
end_set rings store last h q =
    let at = length store - length rings in
    let old = take (length store - at) (drop at store) in
    let m = to_end at store (omega arith) in
    let l : length rings ≡ length old = rw (m.0, length-drop) (omega arith) in
    m.1 last ∙ ap (λ (x : List Float). take at store ++ x) (q ∙ copied_all rings old l)

-- the rings that the rows went into stay, and others lie after them
pub settle_join : (n f : ℕ) (ls : List ℕ) (cs : List Cursors) (rows rings store w : List Float) → RingsFit f n 0 0 ls cs (length store)
    → total (take n ls) + length rings ≡ length store → w ≡ put_rows f n 0 ls cs rows (drop (total (take n ls)) store) store
    → take (length w - length rings) w ++ rings ≡ put_rows f n 0 ls cs rows rings store
settle_join n f ls cs rows rings store w r h e =
    let t = total (take n ls) in
    let p = put_rows f n 0 ls cs rows [] store in
    let lp : length p ≡ t = length-put_rows f ls cs n 0 rows [] store (lines_held f ls cs (length store) n r) ∙ add-zero t in
    let s : w ≡ p ++ drop t store = e ∙ put_rings f ls cs n 0 rows (drop t store) store in
    let at : length w - length rings ≡ t = rw s (simp (length-append, length-drop) (omega arith)) in
    rw (at, s, take_at p (drop t store) t lp) (sym (put_rings f ls cs n 0 rows rings store))
