-- The laws of the rows of a frame, for the crates above: what a step gives, how long it is, and how the definitions over lines go on from
-- one line to the next. Assumes nothing.
use mathlib.Core.Path.{◌≡◌, refl, sym, ap, ◌∙◌}
use mathlib.Core.List.{List, [], ◌∷◌, ◌++◌, append-nil, append_assoc, zip_with}
use Prim.Native.Nat.{ℕ, zero, suc, ◌+◌, ◌*◌, ◌-◌, ◌≤◌, min}
use native.Mathlib.Nat.{zero-mul, suc-mul, zero-min, min-zero, suc-min-suc}
use native.Mathlib.Numerals.{add-one}
use native.Mathlib.Omega.{arith}
use lib.Ieee.{Float}
use lib.ListN.{length, get_or, take, drop, length-append, length-take, length-drop, take-append-drop}
use lib.Seq.{take_at, drop_at, take-nil, drop-nil, take-length, drop-length}
use borrow.Author.Tests.{le-leb}
use Rattle.delay.specs.declared.Cursors.{Cursors}
use Rattle.delay.specs.Calls.{both}
use Rattle.delay.proofs.Laws.{length-read, length-write}
use Rattle.iir.specs.declared.Filter.{Filter}
use Rattle.iir.specs.Runs.{run_out, bands_out}
use Rattle.iir.proofs.Laws.{run_length}
use Rattle.unit.specs.Layout.{total}
use Rattle.stages.specs.Lines.{no_filter, filters_of, read_rows, band_rows, three, band_ends, plus, add_rows}
use Rattle.stages.specs.Settle.{put_rows}
use Rattle.stages.specs.Steps.{added_first, copied}

-- ---- steps on one stretch

pub length-plus : (xs ys : List Float) → length (plus xs ys) ≡ min (length xs) (length ys)
unfolding zip_with
length-plus [] ys = sym (zero-min (length ys))
length-plus (x ∷ xs) [] = sym (min-zero (suc (length xs)))
length-plus (x ∷ xs) (y ∷ ys) = ap suc (length-plus xs ys) ∙ sym (suc-min-suc (length xs) (length ys))

-- a stretch that has room for a row at each end
pub added_first_lem : (f e : ℕ) (w : List Float) → f ≤ e → length w ≡ e + f → added_first f w ≡ take e w ++ plus (drop e w) (take f w)
unfolding added_first
added_first_lem f e w h l =
    let m : length w - f ≡ e = omega arith in
    rw (le-leb (f + f) (length w) (omega arith), m) refl

-- a stretch copied over one as long
pub copied_all : (src dst : List Float) → length src ≡ length dst → copied src dst ≡ src
copied_all src dst e =
    let l : length dst ≤ length src = omega arith in
    rw (← e, take-length src, e, drop-length dst, append-nil) refl

-- ---- lengths of what is made of n lines

pub length-filters_of : (n : ℕ) (cs : List Float) → length (filters_of n cs) ≡ n
unfolding filters_of
length-filters_of zero cs = refl
length-filters_of (suc n) cs = ap suc (length-filters_of n (drop 5 cs))

pub length-band_ends : (f n k : ℕ) (fs : List Filter) (rows : List Float) → length (band_ends f n k fs rows) ≡ 3 * n
unfolding band_ends
length-band_ends f zero k fs rows = refl
length-band_ends f (suc n) k fs rows = omega (arith, length-band_ends f n (k + 3) fs (drop f rows))

-- n + 1 rows are a row and n more
module _ (f n : ℕ) (rows : List Float) (h : suc n * f ≤ length rows) where
  first_long : length (take f rows) ≡ f
  first_long = simp length-take (omega (arith, suc-mul n f))

  rest_long : n * f ≤ length (drop f rows)
  rest_long = simp length-drop (omega (arith, suc-mul n f))

row_more : (f n : ℕ) {a b : ℕ} → a ≡ f → b ≡ n * f → a + b ≡ suc n * f
row_more f n p q = omega (arith, suc-mul n f)

pub length-band_rows : (f n k : ℕ) (fs : List Filter) (rows : List Float) → n * f ≤ length rows → length (band_rows f n k fs rows) ≡ n * f
unfolding band_rows
length-band_rows f zero k fs rows h = sym (zero-mul f)
length-band_rows f (suc n) k fs rows h =
    let row = run_length (get_or fs k no_filter) (take f rows) ∙ first_long f n rows h in
    rw length-append (row_more f n row (length-band_rows f n (k + 3) fs (drop f rows) (rest_long f n rows h)))

pub length-add_rows : (f n : ℕ) (input rows : List Float) → length input ≡ f → n * f ≤ length rows → length (add_rows f n input rows) ≡ n * f
unfolding add_rows
length-add_rows f zero input rows e h = sym (zero-mul f)
length-add_rows f (suc n) input rows e h =
    let row : length (plus (take f rows) input) ≡ f = length-plus (take f rows) input ∙ omega (arith, first_long f n rows h) in
    rw length-append (row_more f n row (length-add_rows f n input (drop f rows) e (rest_long f n rows h)))

-- ---- rings: n of the lengths ls, from line i on, lie one after the other within len floats, and each holds f samples

abbrev pub Held : ℕ → ℕ → ℕ → List ℕ → ℕ → Type 0
Held f zero i ls len = Unit {0}
Held f (suc n) i ls len = (f ≤ get_or ls i 0) × (get_or ls i 0 ≤ len) × Held f n (i + 1) ls (len - get_or ls i 0)

pub total_more : (n i : ℕ) (ls : List ℕ) → total (take (suc n) (drop i ls)) ≡ get_or ls i 0 + total (take n (drop (i + 1) ls))
unfolding total
total_more n i [] = rw (drop-nil i, drop-nil (i + 1), take-nil n) refl
total_more n zero (l ∷ ls) = refl
total_more n (suc i) (l ∷ ls) = rw (add-one (suc i)) (total_more n i ls ∙ ap (λ (j : ℕ). get_or ls i 0 + total (take n (drop j ls))) (add-one i))

module _ (f : ℕ) (ls : List ℕ) (cs : List Cursors) where
  -- the first ring of the store, and what lies after it
  ring_long : (i : ℕ) (store : List Float) → get_or ls i 0 ≤ length store → length (take (get_or ls i 0) store) ≡ get_or ls i 0
  ring_long i store h = simp length-take (omega arith)

  pub length-read_rows : (n i : ℕ) (store : List Float) → Held f n i ls (length store) → length (read_rows f n i ls cs store) ≡ n * f
  unfolding read_rows
  length-read_rows zero i store r = sym (zero-mul f)
  length-read_rows (suc n) i store r =
      let l = get_or ls i 0 in
      let h : f ≤ length (take l store) = omega (arith, r.0, ring_long i store r.1) in
      let row = length-read (take l store) (get_or cs i (both 0)).read.0 f h in
      rw length-append (row_more f n row (length-read_rows n (i + 1) (drop l store) (rw (length-drop l store) r.2)))

  -- the rings that were put, and then those given
  pub put_rings : (n i : ℕ) (rows rings store : List Float) → put_rows f n i ls cs rows rings store ≡ put_rows f n i ls cs rows [] store ++ rings
  unfolding put_rows
  put_rings zero i rows rings store = refl
  put_rings (suc n) i rows rings store =
      rw (put_rings n (i + 1) (drop f rows) rings (drop (get_or ls i 0) store), append_assoc) refl

  pub length-put_rows : (n i : ℕ) (rows rings store : List Float) → Held f n i ls (length store)
      → length (put_rows f n i ls cs rows rings store) ≡ total (take n (drop i ls)) + length rings
  unfolding put_rows total
  length-put_rows zero i rows rings store r = omega arith
  length-put_rows (suc n) i rows rings store r =
      let l = get_or ls i 0 in
      let e = ring_long i store r.1 in
      let h : length (take f rows) ≤ length (take l store) = simp length-take (omega (arith, r.0, e)) in
      let w = length-write (take l store) (take f rows) (get_or cs i (both 0)).write.0 h in
      let later = length-put_rows n (i + 1) (drop f rows) rings (drop l store) (rw (length-drop l store) r.2) in
      rw (length-append, w, later, total_more n i ls) (omega (arith, e))

-- ---- three bands

-- n rows, each through its line's three filters: the first filters of all lines, then the second, then the third
abbrev pub by_bands : ℕ → ℕ → ℕ → List Filter → List Float → List Float
by_bands f n k fs rows = band_rows f n (k + 2) fs (band_rows f n (k + 1) fs (band_rows f n k fs rows))

module _ (f n k : ℕ) (fs : List Filter) where
  one_band : (j : ℕ) (row rest : List Float) → length row ≡ f
      → band_rows f (suc n) j fs (row ++ rest) ≡ run_out (get_or fs j no_filter) row ++ band_rows f n (j + 3) fs rest
  unfolding band_rows
  one_band j row rest e = rw (take_at row rest f e, drop_at row rest f e) refl

  -- which is each row through its own three, line by line
  pub peel : (rows : List Float) → f ≤ length rows → by_bands f (suc n) k fs rows ≡ bands_out (three k fs) (take f rows) ++ by_bands f n (k + 3) fs (drop f rows)
  unfolding bands_out
  peel rows h =
      let g0 = get_or fs k no_filter in
      let g1 = get_or fs (k + 1) no_filter in
      let row = take f rows in
      let l0 : length row ≡ f = simp length-take (omega arith) in
      let l1 = run_length g0 row ∙ l0 in
      let l2 = run_length g1 (run_out g0 row) ∙ l1 in
      let e1 : k + 1 + 3 ≡ k + 3 + 1 = omega arith in
      let e2 : k + 2 + 3 ≡ k + 3 + 2 = omega arith in
      let whole = ap (by_bands f (suc n) k fs) (sym (take-append-drop f rows)) in
      whole
      ∙ rw (one_band k row (drop f rows) l0, one_band (k + 1) (run_out g0 row) _ l1, one_band (k + 2) (run_out g1 (run_out g0 row)) _ l2, e1, e2) refl
