-- What the bounds of the workers over lines give of the rings. Assumes nothing.
use mathlib.Core.Path.{◌≡◌}
use mathlib.Core.List.{List}
use Prim.Native.Nat.{ℕ, zero, suc, ◌+◌, ◌-◌, ◌<◌, ◌≤◌}
use native.Mathlib.Nat.{sub-zero}
use native.Mathlib.Omega.{arith}
use lib.ListN.{get_or}
use Rattle.delay.specs.declared.Cursors.{Cursors}
use Rattle.delay.specs.Calls.{both}
use Rattle.delay.proofs.Laws.{Moves}
use Rattle.stages.proofs.RowLaws.{Held}
use Rattle.samples.proofs.Turns.{more}
use Rattle.samples.proofs.Rows.{Left, row_fits}
use Rattle.frame.specs.Workers.{RingsFit}

-- ---- the rings of n lines

module _ (f : ℕ) (ls : List ℕ) (cs : List Cursors) (len : ℕ) where
  rings_held : (n i a : ℕ) → RingsFit f n i a ls cs len → Held f n i ls (len - a)
  rings_held zero i a r = tt
  rings_held (suc n) i a r =
      let l = get_or ls i 0 in
      let e : len - a - l ≡ len - (a + l) = omega arith in
      (r.0, omega (arith, r.4), rw e (rings_held n (i + 1) (a + l) r.5))

  -- hold a frame each
  pub lines_held : (n : ℕ) → RingsFit f n 0 0 ls cs len → Held f n 0 ls len
  lines_held n r = rw sub-zero at (rings_held n 0 0 r)

  module _ (n i a : ℕ) (r : RingsFit f (n - i) i a ls cs len) (h : i < n) where
    -- are those of line i and of the lines after it
    pub here : RingsFit f (suc (n - (i + 1))) i a ls cs len
    here = rw (more n i h) at r

    -- the ring and the row of line i lie within what is lent
    pub turn_fits : (b rows : ℕ) → Left n f i b rows → (a + get_or ls i 0 ≤ len) × (b + f ≤ rows)
    turn_fits b rows l = (here.4, row_fits n f i b rows l h)

    -- a frame of line i is one that its ring takes
    pub moves : 0 < f → Moves (get_or ls i 0) (get_or cs i (both 0)) f
    moves some = record {
      ready = record { some = omega (arith, here.2); small = here.1; reads = here.2; writes = here.3 };
      some = some;
      fits = here.0;
    }
