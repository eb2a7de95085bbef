-- The loops over a tile's columns: what holds of each of the four lines as column j is reached, why it holds at the next, and what it says at
-- the end. Assumes nothing.
use mathlib.Core.Path.{◌≡◌, refl, sym, ◌∙◌}
use mathlib.Core.List.{List, ◌∷◌, ◌++◌}
use Prim.Native.Nat.{ℕ, ◌+◌, ◌*◌, ◌<◌, ◌≤◌}
use native.Mathlib.Numerals.{add-one}
use native.Mathlib.Omega.{arith}
use lib.Ieee.{Float, nan}
use lib.ListN.{length, get_or, take, drop, set, drop_of_length-le}
use lib.Seq.{take_all, take-suc, take-suc-set, get_or-take, get_or-drop, length-take-le}
use Rattle.samples.specs.Lists.{over, row}
use Rattle.samples.proofs.Turns.{front, stored, all_done}
use Rattle.samples.proofs.Lists.{part_long, over_stored}
use Rattle.samples.proofs.Rows.{row_long}
use Rattle.iir.specs.Runs.{bands_out, bands_end}
use Rattle.lanes.specs.declared.four.Four.{Four}
use Rattle.lanes.specs.declared.band_lanes.BandLanes.{BandLanes}
use Rattle.lanes.specs.Four.{at}
use Rattle.lanes.specs.BandLanes.{bands_at, step_bands}
use Rattle.lanes.proofs.LaneLaws.{bank_out, bank_end}
use Rattle.bank.specs.Tile.{four_at, four_put, strand, Filled, Stored, Played}
use Rattle.bank.proofs.ColumnLaws.{column_at, row_put, rest_put}
use Rattle.bank.proofs.TileLaws.{strand_long, strand_at, strand-set}

-- ---- the columns through the bands b

module _ (b : BandLanes) (tile₀ : List Four) where
  -- line k: its samples before column j have gone through, and its bands with those from j on give the answer
  abbrev Line : ℕ → ℕ → BandLanes → List Four → Type 0
  Line k j g tile =
      (take j (strand k tile) ++ bands_out (bands_at k g) (drop j (strand k tile)) ≡ bands_out (bands_at k b) (strand k tile₀))
      × (bands_end (bands_at k g) (drop j (strand k tile)) ≡ bands_end (bands_at k b) (strand k tile₀))

  abbrev pub Playing : ℕ → BandLanes → List Four → Type 0
  Playing j g tile = (k : ℕ) → Line k j g tile

  module _ (j : ℕ) (g : BandLanes) (tile : List Four) (v : Playing j g tile) where
    pub one_played : (d : Four) (h : BandLanes) → j < length tile → h ≡ step_bands g (get_or tile j d) → Playing (j + 1) h (set tile j h.l2.y1)
    one_played d h lt eh k = rw eh line
      where
        x : Four
        x = get_or tile j d

        y : Four
        y = (step_bands g x).l2.y1

        line : Line k (j + 1) (step_bands g x) (set tile j y)
        line =
            let r = strand k tile in
            let in_row : j < length r = omega (arith, strand_long k tile) in
            let e : drop j r ≡ at k x ∷ drop (j + 1) (set r j (at k y)) = rw (← strand_at k tile j d nan lt) (front r j nan in_row (at k y)) in
            rw (strand-set k tile j y) (
              stored r j nan in_row (at k y) (bank_out k g x e) ∙ (v k).0,
              sym (bank_end k g x e) ∙ (v k).1,
            )

    pub all-played : length tile ≤ j → Played b g tile₀ tile
    unfolding bands_out bands_end
    all-played h k =
        let r = strand k tile in
        let past : length r ≤ j = omega (arith, strand_long k tile) in
        let none = drop_of_length-le r past in
        (all_done r j past ∙ (rw none at (v k).0), rw none at (v k).1)

-- ---- four rows into the tile

module _ (f t m : ℕ) (rows : List Float) where
  -- line k's samples to be in the tile
  abbrev part : ℕ → List Float
  part k = take m (drop t (row f k rows))

  abbrev pub Filling : ℕ → List Four → Type 0
  Filling j tile = (k : ℕ) → k < 4 → take j (strand k tile) ≡ take j (part k)

  module _ (room : t + m ≤ f) (long : 4 * f ≤ length rows) where
    whole : (k : ℕ) → k < 4 → length (part k) ≡ m
    whole k hk = part_long t (row f k rows) m (omega (arith, row_long f 4 k rows hk long))

    module _ (j : ℕ) (tile : List Four) (v : Filling j tile) (e : length tile ≡ m) where
      pub one_filled : j < m → (x : Four) → x ≡ four_at f (t + j) rows → Filling (j + 1) (set tile j x)
      one_filled lt x ex k hk =
          let r = strand k tile in
          let in_row : j < length r = omega (arith, strand_long k tile) in
          let in-part : j < length (part k) = omega (arith, whole k hk) in
          let same : at k (four_at f (t + j) rows) ≡ get_or (part k) j nan =
          column_at f (t + j) (omega arith) rows k hk ∙ sym (get_or-take m (drop t (row f k rows)) j nan lt ∙ get_or-drop t (row f k rows) j nan) in
          rw (strand-set k tile j x, ex, add-one j, take-suc-set r j (at k (four_at f (t + j) rows)) in_row, take-suc (part k) j nan in-part, v k hk, same) refl

      pub all_filled : m ≤ j → Filled f t rows tile
      all_filled h k hk =
          rw e (sym (take_all j (strand k tile) (omega (arith, strand_long k tile))) ∙ v k hk ∙ take_all j (part k) (omega (arith, whole k hk)))

-- ---- and back

-- one more of ys over xs
over_more : {A : Type 0} (t j : ℕ) (ys xs : List A) (z : A) → j < length ys → t + j < length xs
    → set (over t (take j ys) xs) (t + j) (get_or ys j z) ≡ over t (take (j + 1) ys) xs
over_more t j ys xs z hj hx =
    rw (add-one j, take-suc ys j z hj) (over_stored t xs j (take j ys) (length-take-le j ys (omega arith)) (omega arith) (get_or ys j z) hx)

module _ (f t : ℕ) (tile : List Four) (rows₀ : List Float) where
  abbrev pub Storing : ℕ → List Float → Type 0
  Storing j rows =
      (drop (4 * f) rows ≡ drop (4 * f) rows₀) × ((k : ℕ) → k < 4 → row f k rows ≡ over t (take j (strand k tile)) (row f k rows₀))

  module _ (room : t + length tile ≤ f) (long : 4 * f ≤ length rows₀) (j : ℕ) (rows : List Float) (v : Storing j rows) where
    pub one_stored : (d : Four) → j < length tile → Storing (j + 1) (four_put f (t + j) (get_or tile j d) rows)
    one_stored d lt = (rest_put f (t + j) (omega arith) rows y ∙ v.0, line)
      where
        y : Four
        y = get_or tile j d

        line : (k : ℕ) → k < 4 → row f k (four_put f (t + j) y rows) ≡ over t (take (j + 1) (strand k tile)) (row f k rows₀)
        line k hk =
            let ys = strand k tile in
            let in-tile : j < length ys = omega (arith, strand_long k tile) in
            let in_row : t + j < length (row f k rows₀) = omega (arith, row_long f 4 k rows₀ hk long) in
            rw (row_put f (t + j) (omega arith) rows y k hk, v.1 k hk, ← strand_at k tile j d nan lt) (over_more t j ys (row f k rows₀) nan in-tile in_row)

    pub all_stored : length tile ≤ j → length rows ≡ length rows₀ → Stored f t tile rows₀ rows
    all_stored h e = (λ k hk. rw (take_all j (strand k tile) (omega (arith, strand_long k tile))) at (v.1 k hk), v.0, e)
