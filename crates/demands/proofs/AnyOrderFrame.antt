-- A whole frame line by line: row i of the rows put and filters 3 i to 3 i + 2 are what a line job gives of them, and the output asks only
-- for the tone's filters. Assumes nothing.
use Prim.Native.Nat.{ℕ, zero, suc, ◌+◌, ◌*◌, ◌/◌, ◌<◌, ◌≤◌}
use mathlib.Core.Path.{◌≡◌, refl, sym, ap, ◌∙◌}
use mathlib.Core.Bool.{Bool, true, false, cond}
use mathlib.Core.List.{List, [], ◌∷◌}
use native.Mathlib.Nat.{zero-add, add-zero, suc-mul, le_of_eq, not-suc-le-zero}
use native.Mathlib.Omega.{arith}
use lib.Ieee.{Float}
use lib.ListN.{length, get_or, take, drop, length-append, length-take, length-drop}
use lib.Seq.{take_at, drop_at}
use Rattle.samples.specs.Lists.{row}
use Rattle.delay.specs.declared.Cursors.{Cursors}
use Rattle.hadamard.specs.Rows.{mixed_rows}
use Rattle.hadamard.proofs.Laws.{rows_length}
use Rattle.iir.specs.declared.Filter.{Filter}
use Rattle.iir.specs.Runs.{bands_out, bands_end}
use Rattle.iir.proofs.Laws.{bands_length}
use Rattle.unit.specs.Layout.{total, stretch}
use Rattle.allpass.specs.Passes.{pass_end}
use Rattle.allpass.proofs.Stages.{pass_rings}
use Rattle.stages.specs.Lines.{no_filter, band_rows, three, three_of, band_ends, plus, add_rows}
use Rattle.stages.specs.Frame.{stage_at, allpass_of, line_rows, output_row}
use Rattle.stages.proofs.RowLaws.{by_bands, peel, length-plus, length-band_rows}
use Rattle.samples.proofs.Stacked.{get_or-row}

-- ---- rows of lines

-- n + 1 rows are a row and n more
module _ (f n : ℕ) {A : Type 0} (rows : List A) (e : length rows ≡ suc n * f) where
  one_more : f ≤ length rows
  one_more = omega (arith, suc-mul n f)

  first_long : length (take f rows) ≡ f
  first_long = simp length-take (omega (arith, suc-mul n f))

  rest_long : length (drop f rows) ≡ n * f
  rest_long = simp length-drop (omega (arith, suc-mul n f))

-- the filters of the line after line i
next_three : (k i : ℕ) → k + 3 + 3 * i ≡ k + 3 * suc i
next_three k i = omega arith

module _ (f : ℕ) (fs : List Filter) where
  pub bands_row : (n k i : ℕ) (rows : List Float) → i < n → length rows ≡ n * f
      → row f i (by_bands f n k fs rows) ≡ bands_out (three (k + 3 * i) fs) (row f i rows)
  bands_row zero k i rows h e = absurd (not-suc-le-zero h)
  bands_row (suc n) k zero rows h e =
      let l = bands_length (three k fs) (take f rows) ∙ first_long f n rows e in
      rw (peel f n k fs rows (one_more f n rows e), add-zero) (take_at (bands_out (three k fs) (take f rows)) _ f l)
  bands_row (suc n) k (suc i) rows h e =
      let l = bands_length (three k fs) (take f rows) ∙ first_long f n rows e in
      rw (peel f n k fs rows (one_more f n rows e), drop_at (bands_out (three k fs) (take f rows)) (by_bands f n (k + 3) fs (drop f rows)) f l)
      (bands_row n (k + 3) i (drop f rows) (omega arith) (rest_long f n rows e)
      ∙ ap (λ (j : ℕ). bands_out (three j fs) (row f i (drop f rows))) (next_three k i))

  pub ends-row : (n k i : ℕ) (rows : List Float) → i < n → row 3 i (band_ends f n k fs rows) ≡ three_of (bands_end (three (k + 3 * i) fs) (row f i rows))
  unfolding band_ends
  ends-row zero k i rows h = absurd (not-suc-le-zero h)
  ends-row (suc n) k zero rows h = rw add-zero refl
  ends-row (suc n) k (suc i) rows h =
      ends-row n (k + 3) i (drop f rows) (omega arith)
      ∙ ap (λ (j : ℕ). three_of (bands_end (three j fs) (row f i (drop f rows)))) (next_three k i)

pub add_row : (f n i : ℕ) (input rows : List Float) → i < n → length input ≡ f → length rows ≡ n * f
    → row f i (add_rows f n input rows) ≡ plus (row f i rows) input
unfolding add_rows
add_row f zero i input rows h li e = absurd (not-suc-le-zero h)
add_row f (suc n) zero input rows h li e =
    take_at (plus (take f rows) input) _ f (length-plus (take f rows) input ∙ omega (arith, first_long f n rows e))
add_row f (suc n) (suc i) input rows h li e =
    let l : length (plus (take f rows) input) ≡ f = length-plus (take f rows) input ∙ omega (arith, first_long f n rows e) in
    rw (drop_at (plus (take f rows) input) (add_rows f n input (drop f rows)) f l)
    (add_row f n i input (drop f rows) (omega arith) li (rest_long f n rows e))

-- ---- steps 3 and 4 of a whole frame

module _ (n f : ℕ) (k : Float) (tail : Bool) (fs : List Filter) (input reads : List Float) where
  abbrev mixed : List Float
  mixed = mixed_rows n f k reads

  abbrev bands : List Float
  bands = by_bands f n 0 fs mixed

  bands_long : length bands ≡ n * f
  bands_long =
      let l0 = length-band_rows f n 0 fs mixed (le_of_eq (sym (rows_length n f k reads))) in
      let l1 = length-band_rows f n 1 fs (band_rows f n 0 fs mixed) (le_of_eq (sym l0)) in
      length-band_rows f n 2 fs (band_rows f n 1 fs (band_rows f n 0 fs mixed)) (le_of_eq (sym l1))

  band_row : (i : ℕ) → i < n → row f i bands ≡ bands_out (three (3 * i) fs) (row f i mixed)
  band_row i h =
      let z : 0 + 3 * i ≡ 3 * i = zero-add (3 * i) in
      bands_row f fs n 0 i mixed h (rows_length n f k reads) ∙ ap (λ (j : ℕ). bands_out (three j fs) (row f i mixed)) z

  -- the row of line i to put, from its mixed row
  abbrev pub line_of : ℕ → List Float → List Float
  line_of i mixed =
      let out = bands_out (three (3 * i) fs) mixed in
      cond tail out (plus out input)

  pub put_row : (i : ℕ) → i < n → length input ≡ f → row f i (line_rows n f k tail fs input reads).put ≡ line_of i (row f i mixed)
  unfolding line_rows
  put_row i h li = go tail
    where
      go : (b : Bool) → row f i (cond b bands (add_rows f n input bands))
          ≡ cond b (bands_out (three (3 * i) fs) (row f i mixed)) (plus (bands_out (three (3 * i) fs) (row f i mixed)) input)
      go true = band_row i h
      go false = add_row f n i input bands h li bands_long ∙ ap (λ (l : List Float). plus l input) (band_row i h)

  -- and its filters
  pub filters_row : (i : ℕ) → i < n → row 3 i (line_rows n f k tail fs input reads).filters ≡ three_of (bands_end (three (3 * i) fs) (row f i mixed))
  unfolding line_rows
  filters_row i h =
      let z : 0 + 3 * i ≡ 3 * i = zero-add (3 * i) in
      ends-row f fs n 0 i mixed h ∙ ap (λ (j : ℕ). three_of (bands_end (three j fs) (row f i mixed))) z

-- ---- three filters

-- those of line i are row i of rows of three
pub three-row : (i : ℕ) (fs : List Filter) → three (3 * i) fs ≡ three 0 (row 3 i fs)
three-row i fs =
    let at : (b : ℕ) → b < 3 → get_or fs (3 * i + b) no_filter ≡ get_or (row 3 i fs) b no_filter = λ b h.
    ap (λ (j : ℕ). get_or fs j no_filter) (swap i b) ∙ sym (get_or-row 3 i b fs no_filter h) in
    let first : get_or fs (3 * i) no_filter ≡ get_or (row 3 i fs) 0 no_filter = rw add-zero at (at 0 (omega arith)) in
    λ t. record { f0 = first t; f1 = at 1 (omega arith) t; f2 = at 2 (omega arith) t }
  where
    swap : (i b : ℕ) → 3 * i + b ≡ i * 3 + b
    swap i b = omega arith

-- ---- step 5

-- it looks at the tone's filters alone
pub output_asks : (n f : ℕ) (d : Float) (ls : List ℕ) (cs : List Cursors) (fs gs : List Filter) (rings reads : List Float)
    → three (3 * n) gs ≡ three (3 * n) fs → output_row n f d ls cs gs rings reads ≡ output_row n f d ls cs fs rings reads
unfolding output_row
output_asks n f d ls cs fs gs rings reads e =
    let e0 : get_or gs (3 * n) no_filter ≡ get_or fs (3 * n) no_filter = λ i. (e i).f0 in
    let e1 : get_or gs (3 * n + 1) no_filter ≡ get_or fs (3 * n + 1) no_filter = λ i. (e i).f1 in
    let e2 : get_or gs (3 * n + 2) no_filter ≡ get_or fs (3 * n + 2) no_filter = λ i. (e i).f2 in
    rw (e0, e1, e2) refl

pub tone_long : (n f : ℕ) (d : Float) (ls : List ℕ) (cs : List Cursors) (fs : List Filter) (rings reads : List Float)
    → length (output_row n f d ls cs fs rings reads).filters ≡ 3
unfolding output_row
tone_long n f d ls cs fs rings reads = refl

-- and keeps the lengths of the four allpass rings
module _ (a b c d : ℕ) (rings : List Float) (e : length rings ≡ total (a ∷ b ∷ c ∷ d ∷ [])) where
  abbrev four : List ℕ
  four = a ∷ b ∷ c ∷ d ∷ []

  four_long : (length (stretch four 0 rings) ≡ a) × (length (stretch four 1 rings) ≡ b) × (length (stretch four 2 rings) ≡ c) × (length (stretch four 3 rings) ≡ d)
  unfolding stretch total
  four_long = (
    simp (length-take, length-drop) (omega arith),
    simp (length-take, length-drop) (omega arith),
    simp (length-take, length-drop) (omega arith),
    simp (length-take, length-drop) (omega arith),
  )

  four_rings : (k : ℕ) (cs : List Cursors) (row pass : List Float)
      → length (allpass_of (pass_end k (stage_at four cs rings 0) row) (pass_end k (stage_at four cs rings 2) pass)) ≡ total four
  unfolding total
  four_rings k cs row pass =
      let s = pass_rings k (stage_at four cs rings 0) row in
      let t = pass_rings k (stage_at four cs rings 2) pass in
      simp length-append (omega (arith, s.x, s.y, t.x, t.y, four_long))

pub rings_long : (n f : ℕ) (d : Float) (ls : List ℕ) (cs : List Cursors) (fs : List Filter) (rings reads : List Float)
    → length ls ≡ 4 → length rings ≡ total ls → length (output_row n f d ls cs fs rings reads).rings ≡ total ls
unfolding output_row
rings_long n f d [] cs fs rings reads h e = absurd (omega arith)
rings_long n f d (a ∷ []) cs fs rings reads h e = absurd (omega arith)
rings_long n f d (a ∷ b ∷ []) cs fs rings reads h e = absurd (omega arith)
rings_long n f d (a ∷ b ∷ c ∷ []) cs fs rings reads h e = absurd (omega arith)
rings_long n f d (a ∷ b ∷ c ∷ l ∷ []) cs fs rings reads h e = four_rings a b c l rings e (f / 4) cs _ _
rings_long n f d (a ∷ b ∷ c ∷ l ∷ x ∷ ls) cs fs rings reads h e = absurd (omega arith)
