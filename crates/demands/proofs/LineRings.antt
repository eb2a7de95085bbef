-- The rings of the lines in a store: row i of what is read comes from ring i, and row i of what is put goes there. Assumes nothing.
use Prim.Native.Nat.{ℕ, zero, suc, ◌+◌, ◌-◌, ◌<◌, ◌≤◌}
use mathlib.Core.Path.{◌≡◌, refl, sym, ap, ◌∙◌}
use mathlib.Core.List.{List, [], ◌∷◌, ◌++◌}
use native.Mathlib.Nat.{add-zero, zero-add, not-suc-le-zero}
use native.Mathlib.Omega.{arith}
use lib.Ieee.{Float}
use lib.ListN.{length, get_or, take, drop, replicate, length-take, length-drop, length-replicate, replicate-append-replicate}
use lib.Seq.{take_at, drop_at, drop-drop, take_all}
use Rattle.samples.specs.Lists.{row}
use Rattle.delay.specs.declared.Cursors.{Cursors}
use Rattle.delay.specs.Calls.{both}
use Rattle.delay.specs.Ring.{read, write}
use Rattle.delay.proofs.Laws.{length-read, length-write}
use Rattle.unit.proofs.Ranges.{length_at, lengths_long}
use Rattle.unit.specs.UnitState.{UnitState}
use Rattle.unit.specs.Layout.{Model, lengths, total, stretch}
use Rattle.stages.specs.Lines.{read_rows}
use Rattle.stages.specs.Settle.{put_rows, moved_by, all_moved}
use Rattle.stages.proofs.RowLaws.{Held, total_more}

-- the line after i of those from j on is line i of those from j + 1 on
on : (j i : ℕ) → j + suc i ≡ j + 1 + i
on j i = omega arith

-- ring i of those from line j on, by passing over one after the other
abbrev ring_at : List ℕ → ℕ → ℕ → List Float → List Float
ring_at ls j zero store = take (get_or ls j 0) store
ring_at ls j (suc i) store = ring_at ls (j + 1) i (drop (get_or ls j 0) store)

-- it begins after the i rings before it
ring_from : (ls : List ℕ) (i j : ℕ) (store : List Float) → ring_at ls j i store ≡ take (get_or ls (j + i) 0) (drop (total (take i (drop j ls))) store)
unfolding total
ring_from ls zero j store = rw add-zero refl
ring_from ls (suc i) j store =
    let e : j + 1 + i ≡ j + suc i = omega arith in
    ring_from ls i (j + 1) (drop (get_or ls j 0) store) ∙ rw (e, total_more i j ls, ← drop-drop (total (take i (drop (j + 1) ls))) (get_or ls j 0) store) refl

ring_at_lem : (ls : List ℕ) (i : ℕ) (store : List Float) → ring_at ls 0 i store ≡ stretch ls i store
unfolding stretch
ring_at_lem ls i store = rw zero-add at (ring_from ls i 0 store)

-- ---- a list of one sample, cut

cut_same : (a : Float) (l n : ℕ) → l ≤ n → (take l (replicate n a) ≡ replicate l a) × (drop l (replicate n a) ≡ replicate (n - l) a)
cut_same a l n h =
    let e : l + (n - l) ≡ n = omega arith in
    let s : replicate n a ≡ replicate l a ++ replicate (n - l) a = sym (replicate-append-replicate l (n - l) a ∙ ap (λ (k : ℕ). replicate k a) e) in
    let long = length-replicate l a in
    (ap (take l) s ∙ take_at (replicate l a) (replicate (n - l) a) l long, ap (drop l) s ∙ drop_at (replicate l a) (replicate (n - l) a) l long)

-- ---- rings of the lengths ls that hold f samples each, one after the other: the first, and then n more

module _ (f : ℕ) (ls : List ℕ) where
  held : (n j len : ℕ) → ((i : ℕ) → i < n → f ≤ get_or ls (j + i) 0) → total (take n (drop j ls)) ≤ len → Held f n j ls len
  held zero j len fits h = tt
  held (suc n) j len fits h =
      let t = total_more n j ls in
      let here : f ≤ get_or ls j 0 = rw add-zero at (fits 0 (omega arith)) in
      (here, omega arith, held n (j + 1) (len - get_or ls j 0) (λ i b. rw (on j i) at (fits (suc i) (omega arith))) (omega arith))

  module _ (store : List Float) (n j : ℕ) where
    first_long : Held f (suc n) j ls (length store) → length (take (get_or ls j 0) store) ≡ get_or ls j 0
    first_long r = simp length-take (omega (arith, r.1))

    rest_held : Held f (suc n) j ls (length store) → Held f n (j + 1) ls (length (drop (get_or ls j 0) store))
    rest_held r = rw (length-drop (get_or ls j 0) store) r.2

  ring_long_from : (n j i : ℕ) (store : List Float) → i < n → Held f n j ls (length store) → length (ring_at ls j i store) ≡ get_or ls (j + i) 0
  ring_long_from zero j i store h r = absurd (not-suc-le-zero h)
  ring_long_from (suc n) j zero store h r = rw add-zero (first_long store n j r)
  ring_long_from (suc n) j (suc i) store h r = rw (on j i) (ring_long_from n (j + 1) i (drop (get_or ls j 0) store) (omega arith) (rest_held store n j r))

  pub ring_long : (n i : ℕ) (store : List Float) → i < n → Held f n 0 ls (length store) → length (stretch ls i store) ≡ get_or ls i 0
  ring_long n i store h r = ap length (sym (ring_at_lem ls i store)) ∙ (rw zero-add at (ring_long_from n 0 i store h r))

  -- of a silent store
  ring_same_from : (n j i len : ℕ) (a : Float) → i < n → Held f n j ls len → ring_at ls j i (replicate len a) ≡ replicate (get_or ls (j + i) 0) a
  ring_same_from zero j i len a h r = absurd (not-suc-le-zero h)
  ring_same_from (suc n) j zero len a h r = rw add-zero (cut_same a (get_or ls j 0) len r.1).0
  ring_same_from (suc n) j (suc i) len a h r =
      rw ((cut_same a (get_or ls j 0) len r.1).1, on j i) (ring_same_from n (j + 1) i (len - get_or ls j 0) a (omega arith) r.2)

  pub ring_same : (n i len : ℕ) (a : Float) → i < n → Held f n 0 ls len → stretch ls i (replicate len a) ≡ replicate (get_or ls i 0) a
  ring_same n i len a h r = sym (ring_at_lem ls i (replicate len a)) ∙ (rw zero-add at (ring_same_from n 0 i len a h r))

  module _ (cs : List Cursors) where
    -- ---- what is read of line i, and what is put there

    first_read : (n j : ℕ) (store : List Float) → Held f (suc n) j ls (length store)
        → length (read (take (get_or ls j 0) store) (get_or cs j (both 0)).read.0 f) ≡ f
    first_read n j store r = length-read (take (get_or ls j 0) store) (get_or cs j (both 0)).read.0 f (omega (arith, r.0, first_long store n j r))

    first_written : (n j : ℕ) (rows store : List Float) → Held f (suc n) j ls (length store)
        → length (write (take (get_or ls j 0) store) (get_or cs j (both 0)).write.0 (take f rows)) ≡ get_or ls j 0
    first_written n j rows store r =
        let e = first_long store n j r in
        length-write (take (get_or ls j 0) store) (take f rows) (get_or cs j (both 0)).write.0 (simp length-take (omega (arith, r.0))) ∙ e

    read_row_from : (n j i : ℕ) (store : List Float) → i < n → Held f n j ls (length store)
        → row f i (read_rows f n j ls cs store) ≡ read (ring_at ls j i store) (get_or cs (j + i) (both 0)).read.0 f
    unfolding read_rows
    read_row_from zero j i store h r = absurd (not-suc-le-zero h)
    read_row_from (suc n) j zero store h r =
        rw (add-zero, take_at _ _ f (first_read n j store r)) refl
    read_row_from (suc n) j (suc i) store h r =
        rw (on j i, drop_at _ _ f (first_read n j store r))
        (read_row_from n (j + 1) i (drop (get_or ls j 0) store) (omega arith) (rest_held store n j r))

    put_row_from : (n j i : ℕ) (rows rings store : List Float) → i < n → Held f n j ls (length store)
        → ring_at ls j i (put_rows f n j ls cs rows rings store) ≡ write (ring_at ls j i store) (get_or cs (j + i) (both 0)).write.0 (row f i rows)
    unfolding put_rows
    put_row_from zero j i rows rings store h r = absurd (not-suc-le-zero h)
    put_row_from (suc n) j zero rows rings store h r =
        rw (add-zero, take_at _ _ (get_or ls j 0) (first_written n j rows store r)) refl
    put_row_from (suc n) j (suc i) rows rings store h r =
        rw (on j i, drop_at _ _ (get_or ls j 0) (first_written n j rows store r))
        (put_row_from n (j + 1) i (drop f rows) rings (drop (get_or ls j 0) store) (omega arith) (rest_held store n j r))

    pub read-row : (n i : ℕ) (store : List Float) → i < n → Held f n 0 ls (length store)
        → row f i (read_rows f n 0 ls cs store) ≡ read (stretch ls i store) (get_or cs i (both 0)).read.0 f
    read-row n i store h r =
        (rw zero-add at (read_row_from n 0 i store h r)) ∙ ap (λ (x : List Float). read x (get_or cs i (both 0)).read.0 f) (ring_at_lem ls i store)

    pub put_row : (n i : ℕ) (rows rings store : List Float) → i < n → Held f n 0 ls (length store)
        → stretch ls i (put_rows f n 0 ls cs rows rings store) ≡ write (stretch ls i store) (get_or cs i (both 0)).write.0 (row f i rows)
    put_row n i rows rings store h r =
        sym (ring_at_lem ls i (put_rows f n 0 ls cs rows rings store))
        ∙ (rw zero-add at (put_row_from n 0 i rows rings store h r))
        ∙ ap (λ (x : List Float). write x (get_or cs i (both 0)).write.0 (row f i rows)) (ring_at_lem ls i store)

-- ---- a unit's lines

module _ (m : Model) (u : UnitState) where
  pub lines_long : length (lengths m u) ≡ m.lines
  lines_long = lengths_long m u.settings m.lines 0

  pub line_length : (i : ℕ) → i < m.lines → get_or (lengths m u) i 0 ≡ m.delay i + u.settings.frame
  line_length i h = rw zero-add at (length_at m u.settings m.lines 0 i h)

  pub lines_held : (len : ℕ) → total (lengths m u) ≤ len → Held u.settings.frame m.lines 0 (lengths m u) len
  lines_held len h =
      let ls = lengths m u in
      let e : take m.lines ls ≡ ls = take_all m.lines ls (omega (arith, lines_long)) in
      held u.settings.frame ls m.lines 0 len (λ i b. rw (zero-add i) (omega (arith, line_length i b))) (rw e h)

-- ---- cursors

pub length_moved : (f : ℕ) (ls : List ℕ) (cs : List Cursors) → length (all_moved f ls cs) ≡ length cs
unfolding all_moved
length_moved f [] cs = refl
length_moved f (l ∷ ls) [] = refl
length_moved f (l ∷ ls) (c ∷ cs) = ap suc (length_moved f ls cs)

pub moved_at : (f : ℕ) (ls : List ℕ) (cs : List Cursors) (i : ℕ) → i < length ls → i < length cs
    → get_or (all_moved f ls cs) i (both 0) ≡ moved_by f (get_or ls i 0) (get_or cs i (both 0))
unfolding all_moved
moved_at f [] cs i h g = absurd (not-suc-le-zero h)
moved_at f (l ∷ ls) [] i h g = absurd (not-suc-le-zero g)
moved_at f (l ∷ ls) (c ∷ cs) zero h g = refl
moved_at f (l ∷ ls) (c ∷ cs) (suc i) h g = moved_at f ls cs i (omega arith) (omega arith)

-- ---- the rows put are as long as those read
