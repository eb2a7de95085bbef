-- The turns of the loop that filters the lines' rows: what holds as line i is reached, why it holds m lines on, and what it says at the end.
-- Assumes nothing.
use mathlib.Core.Path.{◌≡◌, refl, sym, ap, ◌∙◌}
use mathlib.Core.List.{List, [], ◌∷◌, ◌++◌, append-nil, append_assoc}
use Prim.Native.Nat.{ℕ, zero, suc, ◌+◌, ◌*◌, ◌-◌, ◌/◌, ◌<◌, ◌≤◌}
use native.Mathlib.Nat.{zero-add, add-zero, zero-mul, one-mul, sub-zero, le-add_right}
use native.Mathlib.Numerals.{add-one}
use native.Mathlib.Omega.{arith}
use lib.Ieee.{Float}
use lib.ListN.{length, get_or, take, drop, set, length-append, length-drop, take-append-drop, drop_of_length-le}
use lib.Seq.{take_all, take-take, drop-drop, sets-eq, get_or-drop, length-take-le}
use borrow.Rule.Slice.PartMut.{put_mid}
use Rattle.samples.specs.Lists.{over}
use Rattle.samples.proofs.Turns.{lent}
use Rattle.samples.proofs.Lists.{drop-take, part_long, lent_long, come_back, over-length, over_done, over-left, over_next}
use Rattle.samples.proofs.Rows.{next_row, Left, all_left, rows_fit, rows_done, row_fits}
use Rattle.iir.specs.declared.Filter.{Filter}
use Rattle.iir.specs.declared.Bands.{Bands}
use Rattle.iir.specs.Runs.{bands_out, bands_end}
use Rattle.iir.proofs.Laws.{bands_length}
use Rattle.lanes.specs.declared.band_lanes.FourBands.{FourBands}
use Rattle.bank.specs.Lines.{lines, lines_out, lines_end}
use Rattle.stages.specs.Lines.{no_filter, band_rows, band_ends, three, three_of}
use Rattle.stages.proofs.RowLaws.{by_bands, peel, length-band_ends}
use Rattle.rows.specs.Workers.{four_from, threes_of}

-- ---- filters stored from k on

pub three-set : (k : ℕ) (b : Bands) (fs : List Filter) → k + 2 < length fs
    → set (set (set fs k b.f0) (k + 1) b.f1) (k + 2) b.f2 ≡ over k (three_of b) fs
unfolding over
three-set k b fs h =
    let two : k + 2 ≡ suc (suc k) = omega arith in
    rw (two, add-one k) (sets-eq (three_of b) fs k (omega arith) ∙ append_assoc (take k fs) (three_of b) (drop (k + 3) fs))

pub twelve_set : (k : ℕ) (b : FourBands) (fs : List Filter) → k + 11 < length fs
    → over (k + 9) (three_of b.b3) (over (k + 6) (three_of b.b2) (over (k + 3) (three_of b.b1) (over k (three_of b.b0) fs)))
    ≡ over k (threes_of (lines b)) fs
twelve_set k b fs h =
    let x0 = three_of b.b0 in
    let x1 = three_of b.b1 in
    let x2 = three_of b.b2 in
    let x3 = three_of b.b3 in
    let e1 = over_next k fs 3 x0 refl (omega arith) x1 in
    let e2 = over_next k fs 6 (x0 ++ x1) refl (omega arith) x2 in
    let e3 = over_next k fs 9 (x0 ++ x1 ++ x2) refl (omega arith) x3 in
    rw (e1, e2) e3

-- ---- the bands of n lines, the first's from filter k on

abbrev threes : ℕ → ℕ → List Filter → List Bands
threes zero k fs = []
threes (suc n) k fs = three k fs ∷ threes n (k + 3) fs

-- they depend on what is left of the filters alone
three-left : (k : ℕ) (gs fs : List Filter) → drop k gs ≡ drop k fs → three k gs ≡ three k fs
three-left k gs fs e = λ x. record { f0 = (rw add-zero at (same 0)) x; f1 = same 1 x; f2 = same 2 x }
  where
    same : (j : ℕ) → get_or gs (k + j) no_filter ≡ get_or fs (k + j) no_filter
    same j = sym (get_or-drop k gs j no_filter) ∙ ap (λ (l : List Filter). get_or l j no_filter) e ∙ get_or-drop k fs j no_filter

threes_left : (n k : ℕ) (gs fs : List Filter) → drop k gs ≡ drop k fs → threes n k gs ≡ threes n k fs
threes_left zero k gs fs e = refl
threes_left (suc n) k gs fs e =
    let next : drop (k + 3) gs ≡ drop (k + 3) fs = rw (drop-drop 3 k gs, drop-drop 3 k fs) at (ap (drop 3) e) in
    rw (three-left k gs fs e, threes_left n (k + 3) gs fs next) refl

-- m lines, and then r more
threes_split : (m r n k : ℕ) (fs : List Filter) → n ≡ m + r → threes n k fs ≡ threes m k fs ++ threes r (k + 3 * m) fs
threes_split zero r n k fs e =
    let s : n ≡ r = omega arith in
    let z : k + 3 * 0 ≡ k = omega arith in
    rw (s, z) refl
threes_split (suc m) r n k fs e =
    let s : n ≡ suc (m + r) = omega arith in
    let z : k + 3 * suc m ≡ k + 3 + 3 * m = omega arith in
    rw (s, z, threes_split m r (m + r) (k + 3) fs refl) refl

four_threes : (k : ℕ) (fs : List Filter) → four_from k fs ≡ threes 4 k fs
four_threes k fs =
    let s6 : k + 3 + 3 ≡ k + 6 = omega arith in
    let s9 : k + 6 + 3 ≡ k + 9 = omega arith in
    rw (s6, s9) refl

-- ---- lines one after the other: those of the first bands, and those of the rest

module _ (f : ℕ) where
  out_split : (bs cs : List Bands) (rows : List Float)
      → lines_out f (bs ++ cs) rows ≡ lines_out f bs (take (length bs * f) rows) ++ lines_out f cs (drop (length bs * f) rows)
  unfolding lines_out
  out_split [] cs rows = rw zero-mul refl
  out_split (b ∷ bs) cs rows =
      let k = length bs * f in
      rw (next_row (length bs) f, take-take f (f + k) rows (le-add_right f k), drop-take f rows k, out_split bs cs (drop f rows), drop-drop k f rows, append_assoc) refl

  end_split : (bs cs : List Bands) (rows : List Float)
      → lines_end f (bs ++ cs) rows ≡ lines_end f bs (take (length bs * f) rows) ++ lines_end f cs (drop (length bs * f) rows)
  unfolding lines_end
  end_split [] cs rows = rw zero-mul refl
  end_split (b ∷ bs) cs rows =
      let k = length bs * f in
      rw (next_row (length bs) f, take-take f (f + k) rows (le-add_right f k), drop-take f rows k, end_split bs cs (drop f rows), drop-drop k f rows) refl

  -- as many bands as rows: each row through its own, and nothing over
  out_all : (n k : ℕ) (fs : List Filter) (rows : List Float) → length rows ≡ n * f → lines_out f (threes n k fs) rows ≡ by_bands f n k fs rows
  unfolding lines_out band_rows
  out_all zero k fs rows e = drop_of_length-le rows {i = 0} (omega (arith, rw zero-mul at e))
  out_all (suc n) k fs rows e =
      let s : length rows ≡ f + n * f = e ∙ next_row n f in
      let l : length (drop f rows) ≡ n * f = rw length-drop (omega arith) in
      rw (peel f n k fs rows (omega arith), out_all n (k + 3) fs (drop f rows) l) refl

  end_all : (n k : ℕ) (fs : List Filter) (rows : List Float) → threes_of (lines_end f (threes n k fs) rows) ≡ band_ends f n k fs rows
  unfolding lines_end band_ends
  end_all zero k fs rows = refl
  end_all (suc n) k fs rows = rw (end_all n (k + 3) fs (drop f rows)) refl

  -- lengths
  out_long : (n k : ℕ) (fs : List Filter) (rows : List Float) → length rows ≡ n * f → length (lines_out f (threes n k fs) rows) ≡ n * f
  unfolding lines_out
  out_long zero k fs rows e = e
  out_long (suc n) k fs rows e =
      let s : length rows ≡ f + n * f = e ∙ next_row n f in
      let row : length (bands_out (three k fs) (take f rows)) ≡ f = bands_length (three k fs) (take f rows) ∙ length-take-le f rows (omega arith) in
      let l : length (drop f rows) ≡ n * f = rw length-drop (omega arith) in
      rw (length-append, row, out_long n (k + 3) fs (drop f rows) l) (sym (next_row n f))

in_order : (bs cs : List Bands) → threes_of (bs ++ cs) ≡ threes_of bs ++ threes_of cs
in_order [] cs = refl
in_order (b ∷ bs) cs = rw (in_order bs cs, append_assoc) refl

threes_long : (n k : ℕ) (fs : List Filter) → length (threes n k fs) ≡ n
threes_long zero k fs = refl
threes_long (suc n) k fs = ap suc (threes_long n (k + 3) fs)

-- ---- the loop: line i is reached, whose row begins at b

abbrev pub Filtering : ℕ → ℕ → List Filter → List Float → List Filter → ℕ → ℕ → ℕ → List Filter → List Float → Type 0
Filtering n f fs X Y len i b gs rows =
    Left n f i b len × (length rows ≡ len) × (length gs ≡ length fs) × (drop (3 * i) gs ≡ drop (3 * i) fs)
    × (take b rows ++ lines_out f (threes (n - i) (3 * i) fs) (drop b rows) ≡ X)
    × (take (3 * i) gs ++ threes_of (lines_end f (threes (n - i) (3 * i) fs) (drop b rows)) ≡ Y)

pub band_start : (n f : ℕ) (fs : List Filter) (rows : List Float) → length rows ≡ n * f
    → Filtering n f fs (by_bands f n 0 fs rows) (band_ends f n 0 fs rows) (length rows) 0 0 fs rows
band_start n f fs rows e =
    let z = sub-zero n in
    (all_left n f 0 _ (rw zero-add (sym e)), refl, refl, refl, rw z (out_all f n 0 fs rows e), rw z (end_all f n 0 fs rows))

module _ (n f : ℕ) (fs : List Filter) (X : List Float) (Y : List Filter) (len i b : ℕ) (gs : List Filter) (rows : List Float) where
  -- m lines side by side
  some_turn : (m : ℕ) (hs : List Filter) (last : List Float) → i + m ≤ n → 3 * n ≤ length fs → Filtering n f fs X Y len i b gs rows
      → hs ≡ over (3 * i) (threes_of (lines_end f (threes m (3 * i) gs) (take (m * f) (drop b rows)))) gs
      → last ≡ lines_out f (threes m (3 * i) gs) (take (m * f) (drop b rows))
      → Filtering n f fs X Y len (i + m) (b + m * f) hs (over b last rows)
  some_turn m hs last h hn v eh el =
      let k = 3 * i in
      let part = take (m * f) (drop b rows) in
      let bs = threes m k fs in
      let cs = threes (n - (i + m)) (k + 3 * m) fs in
      let ends = threes_of (lines_end f bs part) in
      let same = threes_left m k gs fs v.3 in
      let eh' : hs ≡ over k ends gs = rw same at eh in
      let el' : last ≡ lines_out f bs part = rw same at el in
      let room : b + m * f ≤ length rows = omega (arith, rows_fit n f i b len v.0 m h, v.1) in
      let long : length last ≡ m * f =
      ap length el' ∙ out_long f m k fs part (part_long b rows (m * f) room) in
      let fits : k + 3 * m ≤ length gs = omega (arith, v.2) in
      let three_long : length ends ≡ 3 * m = ap length (end_all f m k fs part) ∙ length-band_ends f m k fs part in
      let cut = threes_split m (n - (i + m)) (n - i) k fs (omega arith) in
      let on : 3 * (i + m) ≡ k + 3 * m = omega arith in
      let count = threes_long m k fs in
      let left = over-left b rows (m * f) last long room in
      let ex = rw (cut, out_split f bs cs (drop b rows), count, drop-drop (m * f) b rows) at v.4 in
      let ey = rw (cut, end_split f bs cs (drop b rows), count, drop-drop (m * f) b rows, in_order) at v.5 in
      rw (on, eh') (
        rows_done n f i b len v.0 m h,
        over-length b rows (m * f) last long room ∙ v.1,
        over-length k gs (3 * m) ends three_long fits ∙ v.2,
        over-left k gs (3 * m) ends three_long fits ∙ (rw (drop-drop (3 * m) k gs, drop-drop (3 * m) k fs) at (ap (drop (3 * m)) v.3)),
        rw (over_done b rows (m * f) last long room, left, el', append_assoc) ex,
        rw (over_done k gs (3 * m) ends three_long fits, left, append_assoc) ey,
      )

  -- four, and one
  pub four-turn : (hs : List Filter) (last : List Float) → i + 4 ≤ n → 3 * n ≤ length fs → Filtering n f fs X Y len i b gs rows
      → let lent = take (b + 4 * f - b) (drop b rows) in
      hs ≡ over (3 * i) (threes_of (lines_end (length lent / 4) (four_from (3 * i) gs) lent)) gs
      → last ≡ lines_out (length lent / 4) (four_from (3 * i) gs) lent
      → Filtering n f fs X Y len (i + 4) (b + 4 * f) hs (put_mid b (b + 4 * f - b) rows last)
  four-turn hs last h hn v eh el =
      let room : b + 4 * f ≤ length rows = omega (arith, rows_fit n f i b len v.0 4 h, v.1) in
      let part = take (4 * f) (drop b rows) in
      let quarter : length (take (b + 4 * f - b) (drop b rows)) / 4 ≡ f = omega (arith, lent_long b rows (4 * f) room) in
      let ends = rw (quarter, lent b (4 * f) rows, four_threes (3 * i) gs) at eh in
      let outs = rw (quarter, lent b (4 * f) rows, four_threes (3 * i) gs) at el in
      let long : length last ≡ 4 * f =
      ap length outs ∙ out_long f 4 (3 * i) gs part (part_long b rows (4 * f) room) in
      rw (come_back b rows (4 * f) last long) (some_turn 4 hs last h hn v ends outs)

  pub one_turn : (hs : List Filter) (last : List Float) → i < n → 3 * n ≤ length fs → Filtering n f fs X Y len i b gs rows
      → let lent = take (b + f - b) (drop b rows) in
      hs ≡ over (3 * i) (three_of (bands_end (three (3 * i) gs) lent)) gs → last ≡ bands_out (three (3 * i) gs) lent
      → Filtering n f fs X Y len (i + 1) (b + f) hs (put_mid b (b + f - b) rows last)
  unfolding lines_out lines_end
  one_turn hs last h hn v eh el =
      let room : b + f ≤ length rows = omega (arith, row_fits n f i b len v.0 h, v.1) in
      let part = take f (drop b rows) in
      let long : length part ≡ f = part_long b rows f room in
      let all = take_all f part (omega arith) in
      let none = drop_of_length-le part {i = f} (omega arith) in
      let outs = rw (lent b f rows) at el in
      let same : length last ≡ f = ap length outs ∙ bands_length (three (3 * i) gs) part ∙ long in
      let turned = some_turn 1 hs last (omega arith) hn v (rw (one-mul, all) (rw (lent b f rows) at eh)) (rw (one-mul, all, none, append-nil) outs) in
      rw (come_back b rows f last same) (rw one-mul at turned)

  pub band_done : n ≤ i → Filtering n f fs X Y len i b gs rows → (gs ≡ Y ++ drop (3 * n) fs) × (rows ≡ X)
  unfolding lines_out lines_end
  band_done h v =
      let z : n - i ≡ 0 = omega arith in
      let e : 3 * i ≡ 3 * n = omega (arith, v.0.0) in
      let x = rw z at v.4 in
      let y : take (3 * i) gs ≡ Y = sym (append-nil (take (3 * i) gs)) ∙ rw z at v.5 in (
        sym (take-append-drop (3 * i) gs) ∙ rw (y, v.3, e) refl,
        sym (take-append-drop b rows) ∙ x,
      )
