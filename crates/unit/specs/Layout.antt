-- How a unit is built and how its memory lies, each number once: what a model is, and the wall unit's; the rings and where they lie in the store;
-- the rows of the work memory and where they begin; how many filters and jobs it has, and the marks of the jobs.
use Rattle.std.specs.Prelude.{ℕ, zero, suc, ◌+◌, ◌*◌, ◌<◌, ◌≡◌, List, [], ◌∷◌, map, Float, length, get_or, take, drop}
use Rattle.std.specs.Float.{binary32}
use Rattle.std.specs.Float.Ieee.{of_bits}
use Rattle.primes.specs.Table.{delay_at}
use Rattle.unit.specs.declared.layout.Places.{Places}
use Rattle.unit.specs.UnitState.{Settings, UnitState}

-- R1.17: what one model of the unit is built of: how many lines; the delay of each, which its ring exceeds by a frame; the lengths of the allpass
-- rings x0, y0, x1, y1; the factor of the mix, and what the sum of the lines is divided by. The definitions of the calls, and of what they rest on,
-- are over any model
pub record Model : Type 0 where
  pub lines : ℕ
  pub delay : ℕ → ℕ
  pub pass_lengths : List ℕ
  pub factor : Float
  pub divisor : Float

-- R1.8, R1.12, R1.13: the wall unit. 0x3e80_0000 is 0.25 and 0x4180_0000 is 16
abbrev pub wall : Model
wall = record {
  lines = 16;
  delay = delay_at;
  pass_lengths = 225 ∷ 341 ∷ 341 ∷ 441 ∷ [];
  factor = of_bits binary32 0x3e80_0000;
  divisor = of_bits binary32 0x4180_0000;
}

-- R1.10: the lengths of the rings of n lines more, from line i on, of a unit with the settings s
unfoldable pub lengths_from : Model → Settings → ℕ → ℕ → List ℕ
lengths_from m s zero i = []
lengths_from m s (suc n) i = (m.delay i + s.frame) ∷ lengths_from m s n (i + 1)

-- the lengths of all its lines
abbrev pub lengths : Model → UnitState → List ℕ
lengths m u = lengths_from m u.settings m.lines 0

unfoldable pub total : List ℕ → ℕ
total [] = 0
total (l ∷ ls) = l + total ls

-- R1.19, R1.20: the store is the lines' rings, of lengths ls, one after the other, and then the allpass rings
unfoldable pub store_len : Model → List ℕ → ℕ
store_len m ls = total ls + total m.pass_lengths

-- R1.20, R1.22: stretch k of a list that is cut into stretches of the lengths ls: of a store, line k's ring
unfoldable pub stretch : List ℕ → ℕ → List Float → List Float
stretch ls k xs = take (get_or ls k 0) (drop (total (take k ls)) xs)

-- R1.20: the allpass rings, which lie after lines' rings of the lengths ls
abbrev pub allpass_in : List ℕ → List Float → List Float
allpass_in ls store = drop (total ls) store

-- R1.22: the work memory of n lines is rows of f floats, one for the input, one a line read, one a line mixed and one for the output, and then
-- the allpass rings. Where those after the input begin
abbrev pub places_of : ℕ → ℕ → Places
places_of n f = record {
  reads = f;
  mixed = f + n * f;
  output = f + n * f + n * f;
  rings = f + n * f + n * f + f;
}

-- R1.21: its length
unfoldable pub work_len : Model → ℕ → ℕ
work_len m f = (places_of m.lines f).rings + total m.pass_lengths

-- R1.19, R1.21: the wall unit's
abbrev pub StoreIs : Type 0
StoreIs = (u : UnitState) → store_len wall (lengths wall u) ≡ 7600 + 16 * u.settings.frame

abbrev pub WorkIs : Type 0
WorkIs = (f : ℕ) → work_len wall f ≡ 1348 + 34 * f

-- R1.20: where the wall unit's rings begin in the store, that of line 4 q + r and after all lines' the allpass rings
abbrev pub RingBegins : UnitState → ℕ → ℕ → Type 0
RingBegins u q r = total (take (4 * q + r) (lengths wall u)) ≡ 1563 * q + get_or (0 ∷ 225 ∷ 566 ∷ 1007 ∷ []) r 0 + (4 * q + r) * u.settings.frame

abbrev pub RingsBegin : Type 0
RingsBegin = (u : UnitState) (q r : ℕ) → q < 4 → r < 4 → RingBegins u q r

-- where the four allpass rings begin that lie from a on
abbrev pub passes_from : ℕ → List ℕ
passes_from a = map (λ (k : ℕ). a + total (take k wall.pass_lengths)) (0 ∷ 1 ∷ 2 ∷ 3 ∷ [])

abbrev pub PassesBegin : Type 0
PassesBegin = (u : UnitState) → let F = u.settings.frame in
    passes_from (total (lengths wall u)) ≡ (6252 + 16 * F) ∷ (6477 + 16 * F) ∷ (6818 + 16 * F) ∷ (7159 + 16 * F) ∷ []

-- R1.22: where its rows begin in the work memory, read row i and mixed row i among them, and then the allpass rings
abbrev pub RowsBegin : Type 0
RowsBegin = (f i : ℕ) → let p = places_of wall.lines f in
    (p.reads + i * f ≡ (1 + i) * f) × (p.mixed + i * f ≡ (17 + i) * f) × (p.output ≡ 33 * f)
    × (passes_from p.rings ≡ (34 * f) ∷ (34 * f + 225) ∷ (34 * f + 566) ∷ (34 * f + 907) ∷ [])

-- R1.15: the band filters of a line. The tone has as many
abbrev pub bands_len : ℕ
bands_len = 3

-- where those of line i begin. Behind the lines' are the tone's
abbrev pub filter_at : ℕ → ℕ
filter_at i = bands_len * i

abbrev pub filters_len : Model → ℕ
filters_len m = filter_at m.lines + bands_len

-- R1.16: the coefficients of a filter, and of all
abbrev pub per_filter : ℕ
per_filter = 5

abbrev pub coefficients_len : Model → ℕ
coefficients_len m = per_filter * filters_len m

-- R5.1: the jobs of a frame, a read and a line job for each line, the mix and the output
abbrev pub jobs_len : Model → ℕ
jobs_len m = m.lines + m.lines + 2

-- R5.2: read i's mark stands at i, and after the reads' the mix's, the lines' and the output's
abbrev pub mix_mark : Model → ℕ
mix_mark m = m.lines

abbrev pub line_mark : Model → ℕ → ℕ
line_mark m i = m.lines + 1 + i

abbrev pub output_mark : Model → ℕ
output_mark m = m.lines + m.lines + 1

-- the lists of a unit of model m are as long as the model says: a `State`'s are
pub record Sized (m : Model) (u : UnitState) : Type 0 where
  pub lines : length u.cursors.lines ≡ m.lines
  pub passes : length u.cursors.passes ≡ length m.pass_lengths
  pub filters : length u.filters ≡ filters_len m
  pub marks : length u.held.marks ≡ jobs_len m
  pub before : length u.held.before ≡ filters_len m
