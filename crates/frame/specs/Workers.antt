-- What private workers cite: what they ask of the memory lent, and what one of them gives.
use Rattle.std.specs.Prelude.{ℕ, zero, suc, ◌+◌, ◌*◌, ◌%◌, ◌≤◌, ◌<◌, ◌≡◌, List, length, get_or, take}
use Rattle.samples.specs.Sizes.{longest_frame}
use Rattle.delay.specs.declared.Cursors.{Cursors}
use Rattle.delay.specs.Calls.{longest_ring, both}
use Rattle.unit.specs.declared.Rings.{Rings}
use Rattle.unit.specs.Layout.{Model, wall, total, places_of}

-- the rings of n lines, the first at a, lie one after the other within `len` floats; each holds a frame of f, and its cursors are within it
abbrev pub RingsFit : ℕ → ℕ → ℕ → ℕ → List ℕ → List Cursors → ℕ → Type 0
RingsFit f zero i a ls cs len = Unit {0}
RingsFit f (suc n) i a ls cs len =
    (f ≤ get_or ls i 0) × (get_or ls i 0 ≤ longest_ring) × ((get_or cs i (both 0)).read.0 < get_or ls i 0) × ((get_or cs i (both 0)).write.0 < get_or ls i 0)
    × (a + get_or ls i 0 ≤ len) × RingsFit f n (i + 1) (a + get_or ls i 0) ls cs len

-- the floats that the rings of n lines take
abbrev pub lines_len : ℕ → Rings → ℕ
lines_len n r = total (take n r.lines.lengths)

-- what the workers over n lines ask: rows of n frames of f samples, and the rings
pub record LinesFit (n f : ℕ) (r : Rings) (store rows : ℕ) : Type 0 where
  pub few : n ≤ wall.lines
  pub some : 0 < f
  pub small : f ≤ longest_ring
  pub rows_are : rows ≡ n * f
  pub rings : RingsFit f n 0 0 r.lines.lengths r.lines.cursors store

-- the cursors of n rings, from ring i on, are within them
abbrev pub Within : ℕ → ℕ → List ℕ → List Cursors → Type 0
Within zero i ls cs = Unit {0}
Within (suc n) i ls cs =
    (get_or ls i 0 ≤ longest_ring) × ((get_or cs i (both 0)).read.0 < get_or ls i 0) × ((get_or cs i (both 0)).write.0 < get_or ls i 0) × Within n (i + 1) ls cs

-- what a frame of n lines asks of the memory lent: the rings of n lines, every length after them 0, and then the allpass rings in the store;
-- the rows and then the allpass rings in the work memory
pub record FrameFits (n f : ℕ) (r : Rings) (store work : ℕ) : Type 0 where
  pub few : n ≤ wall.lines
  pub some : 0 < n
  pub frame : 0 < f
  pub small : f ≤ longest_ring
  pub fours : f % 4 ≡ 0
  pub rings : RingsFit f n 0 0 r.lines.lengths r.lines.cursors store
  pub passes : total r.passes.lengths ≤ longest_ring
  pub four : length r.passes.lengths ≡ length wall.pass_lengths
  pub rest : lines_len n r ≡ total r.lines.lengths
  pub store_is : store ≡ total r.lines.lengths + total r.passes.lengths
  pub work_is : work ≡ (places_of n f).rings + total r.passes.lengths

-- the cursors of all rings of model m are within them
pub record AllWithin (m : Model) (r : Rings) : Type 0 where
  pub lines : Within m.lines 0 r.lines.lengths r.lines.cursors
  pub passes : Within (length m.pass_lengths) 0 r.passes.lengths r.passes.cursors

-- what a whole frame of model m asks of its rings and of the memory lent
pub record WholeFits (m : Model) (f : ℕ) (r : Rings) (store work output : ℕ) : Type 0 where
  pub every : length r.lines.lengths ≡ m.lines
  pub fits : FrameFits m.lines f r store work
  pub within : AllWithin m r
  pub short : f ≤ longest_frame
  pub out : output ≡ f

-- what settling a frame of n lines asks: the lines' rings, and as many floats after them as after the rows in the work memory
pub record SettleFits (n f : ℕ) (r : Rings) (store work output : ℕ) : Type 0 where
  pub lines : LinesFit n f r store (n * f)
  pub rows : (places_of n f).rings ≤ work
  pub rings : lines_len n r + work ≡ store + (places_of n f).rings
  pub out : output ≡ f
