-- One turn of a line's ring: an accepted frame takes the row read off the front of its view, the ring as it lies from the cursor on, and joins
-- the row put to its end. And what a read job leaves in the work memory is that row. Assumes nothing.
use Prim.Native.Nat.{ℕ, zero, suc, ◌+◌, ◌*◌, ◌%◌, ◌<◌, ◌≤◌}
use mathlib.Core.Path.{◌≡◌, sym, ap, ◌∙◌}
use mathlib.Core.List.{List, ◌++◌}
use native.Mathlib.Nat.{suc-mul, add-mul, not-suc-le-zero}
use native.Mathlib.Omega.{arith}
use lib.Ieee.{Float}
use lib.ListN.{length, get_or, take, drop, length-append, length-take, length-drop}
use lib.Seq.{take_at, drop_at}
use Rattle.samples.specs.Lists.{row, set_row}
use Rattle.samples.proofs.Rows.{row_long}
use Rattle.samples.specs.declared.Samples.{Samples}
use Rattle.delay.specs.declared.Cursors.{Cursors}
use Rattle.delay.specs.Calls.{both}
use Rattle.delay.specs.Ring.{rotl, wrap}
use Rattle.delay.proofs.Laws.{wrap-mod, read_view, length-rotl, length-read, turn_view}
use Rattle.unit.specs.UnitState.{UnitState}
use Rattle.unit.specs.Layout.{Model, lengths, stretch, store_len, work_len}
use Rattle.stages.specs.Settle.{put_rows, moved_by, all_moved}
use Rattle.stages.proofs.RowLaws.{Held}
use Rattle.rows.specs.Rows.{Rows, rows_of}
use Rattle.machine.specs.Jobs.{read_row, read_work}
use Rattle.demands.proofs.Lent.{Lent, cursors, within}
use Rattle.demands.proofs.LineRings.{ring_long, put_row, lines_long, line_length, lines_held}
use Rattle.demands.proofs.LineRings.{moved_at}
use Rattle.rows.proofs.Joined.{Long, cut_joined}

-- ---- views

-- what is handed out is taken off the front of a view, and as much that is given is joined to its end
pub record Turn (old new out given : List Float) : Type 0 where
  pub fits : length given ≤ length old
  pub taken : out ≡ take (length given) old
  pub then : new ≡ drop (length given) old ++ given

-- line i's ring as it lies from the read cursor on, where the lines' rings have the lengths ls and the cursors cs
abbrev pub view : List ℕ → ℕ → List Cursors → List Float → List Float
view ls i cs store = rotl (get_or cs i (both 0)).read.0 (stretch ls i store)

module _ (m : Model) (i : ℕ) (h : i < m.lines) (u : UnitState) (store : List Float) (lent : Lent m u (length store)) where
  abbrev f : ℕ
  f = u.settings.frame

  abbrev ls : List ℕ
  ls = lengths m u

  abbrev ring : List Float
  ring = stretch ls i store

  abbrev k : ℕ
  k = (cursors u i).read.0

  pub held : Held f m.lines 0 ls (length store)
  unfolding store_len
  held = lines_held m u (length store) (omega (arith, lent.long))

  -- its length, which holds a frame
  abbrev l : ℕ
  l = get_or ls i 0

  holds : f ≤ l
  holds = omega (arith, line_length m u i h)

  ring_is : length ring ≡ l
  ring_is = ring_long f ls m.lines i store h held

  pub read_long : length (read_row m u i store) ≡ f
  read_long = length-read ring k f (omega (arith, ring_is, holds))

  -- ---- a frame that puts the rows `rows`

  module _ (lines : length u.cursors.lines ≡ m.lines) where
    moved : get_or (all_moved f ls u.cursors.lines) i (both 0) ≡ moved_by f (get_or ls i 0) (cursors u i)
    moved = moved_at f ls u.cursors.lines i (omega (arith, lines_long m u)) (omega arith)

    pub equal_moved : (cursors u i).read ≡ (cursors u i).write
        → (get_or (all_moved f ls u.cursors.lines) i (both 0)).read ≡ (get_or (all_moved f ls u.cursors.lines) i (both 0)).write
    equal_moved e = rw moved (ap (λ (c : Samples). record { 0 = (c.0 + f) % get_or ls i 0 }) e)

    pub ring_turn : (cursors u i).read ≡ (cursors u i).write → (rows rings : List Float) → length rows ≡ m.lines * f
        → Turn (view ls i u.cursors.lines store) (view ls i (all_moved f ls u.cursors.lines) (put_rows f m.lines 0 ls u.cursors.lines rows rings store))
        (read_row m u i store) (row f i rows)
    ring_turn equal rows rings e =
        let put = row f i rows in
        let near : k < l = within m u i lent.range (omega arith) in
        let lp : length put ≡ f = row_long f m.lines i rows h (omega (arith, e)) in
        let on : (k + f) % l ≡ wrap (length ring) (k + length put) = rw (ring_is, lp) (sym (wrap-mod l (k + f) (omega (arith, near, holds)))) in
        record {
          fits = rw (length-rotl, ring_is, lp) holds;
          taken = rw lp (read_view ring k f);
          then =
              rw (moved, on, put_row f ls u.cursors.lines m.lines i rows rings store h held, ← equal)
              (turn_view ring put k (omega (arith, ring_is, near)) (omega (arith, ring_is, lp, holds)));
        }

-- ---- rows of the work memory

-- a row that is set, in n rows of f
row-set : (f n i : ℕ) (r xs : List Float) → i < n → length xs ≡ n * f → length r ≡ f
    → (row f i (set_row f i r xs) ≡ r) × (length (set_row f i r xs) ≡ n * f)
unfolding set_row
row-set f zero i r xs h e l = absurd (not-suc-le-zero h)
row-set f (suc n) zero r xs h e l = (take_at r (drop f xs) f l, simp (length-append, length-drop) (omega (arith, suc-mul n f)))
row-set f (suc n) (suc i) r xs h e l =
    let first : length (take f xs) ≡ f = simp length-take (omega (arith, suc-mul n f)) in
    let rest = row-set f n i r (drop f xs) (omega arith) (simp length-drop (omega (arith, suc-mul n f))) l in (
      rw (drop_at (take f xs) (set_row f i r (drop f xs)) f first) rest.0,
      length-append (take f xs) (set_row f i r (drop f xs)) ∙ omega (arith, first, rest.1, suc-mul n f),
    )

-- a work memory as long as it is to be
pub work_rows : (m : Model) (f : ℕ) (work : List Float) → length work ≡ work_len m f → Long m.lines f (rows_of m.lines f work)
unfolding rows_of work_len
work_rows m f work e =
    let a = add-mul (m.lines + m.lines) 2 f in
    let b = add-mul m.lines m.lines f in
    record {
      input = simp length-take (omega arith);
      reads = simp (length-take, length-drop) (omega arith);
      mixed = simp (length-take, length-drop) (omega arith);
      output = simp (length-take, length-drop) (omega arith);
    }

-- what a read of line i leaves there
pub read_left : (m : Model) (u : UnitState) (i : ℕ) (store work : List Float) → i < m.lines → length work ≡ work_len m u.settings.frame
    → length (read_row m u i store) ≡ u.settings.frame
    → row u.settings.frame i (rows_of m.lines u.settings.frame (read_work m u i store work)).reads ≡ read_row m u i store
unfolding read_work
read_left m u i store work h e l =
    let f : ℕ = u.settings.frame in
    let r = rows_of m.lines f work in
    let long = work_rows m f work e in
    let s = row-set f m.lines i (read_row m u i store) r.reads h long.reads l in
    let set : Rows = record {
      input = r.input;
      reads = set_row f i (read_row m u i store) r.reads;
      mixed = r.mixed;
      output = r.output;
      rings = r.rings;
    } in
    let cut = cut_joined m.lines f set (record { input = long.input; reads = s.1; mixed = long.mixed; output = long.output }) in
    ap (λ (x : Rows). row f i x.reads) cut ∙ s.0
