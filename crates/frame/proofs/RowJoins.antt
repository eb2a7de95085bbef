-- How the steps of a frame join in the work memory: what each is lent, what comes back, and what all of it is then. Assumes nothing.
use mathlib.Core.Path.{◌≡◌, refl, sym, ap, subst, ◌∙◌}
use mathlib.Core.Bool.{Bool, true}
use mathlib.Core.List.{List, ◌++◌, append_assoc}
use Prim.Native.Nat.{ℕ, ◌+◌, ◌*◌, ◌-◌, ◌<◌, ◌≤◌}
use native.Mathlib.Nat.{add-zero}
use native.Mathlib.Omega.{arith}
use lib.Ieee.{Float}
use lib.ListN.{length, get_or, take, drop, length-append, length-drop}
use lib.Seq.{take_at, take-take, take-add, get_or-drop, get_or-append-add, drop_at, drop-drop, length-take-le}
use borrow.Rule.Slice.PartMut.{put_mid}
use Rattle.samples.specs.Lists.{over}
use Rattle.samples.proofs.Turns.{back}
use Rattle.samples.proofs.Lists.{part_long, lent_long, first_part, to_end, over_at}
use Rattle.delay.specs.declared.Cursors.{Cursors}
use Rattle.unit.specs.declared.Rings.{Rings}
use Rattle.unit.specs.declared.layout.Places.{Places}
use Rattle.unit.specs.Layout.{total, places_of}
use Rattle.iir.specs.declared.Filter.{Filter}
use Rattle.stages.specs.Lines.{no_filter}
use Rattle.stages.specs.Frame.{line_rows, output_row, new_filters, reads_of, frame_in}
use Rattle.stages.specs.Steps.{copied}
use Rattle.stages.proofs.RowLaws.{copied_all}
use Rattle.stages.proofs.FrameLaws.{put_beside}
use Rattle.rows.specs.Rows.{Rows, rows_of, joined_rows, laid}
use Rattle.rows.specs.Fits.{output_fits}
use Rattle.rows.specs.Steps.{lines_ends, lines_laid}
use Rattle.rows.proofs.RowFits.{lines_yes, output_yes}
use Rattle.rows.proofs.RowJoins.{filters_long}
use Rattle.rows.proofs.Joined.{cut_joined}
use Rattle.outputs.specs.Steps.{output_in, output_laid, output_ends, output_made, output_after}
use Rattle.frame.specs.Steps.{rows_in}
use Rattle.frame.specs.Workers.{FrameFits}

-- ---- step 5 where the lines' filters are those after step 4: it looks at the others alone

module _ (n : ℕ) (lines fs : List Filter) (l : length lines ≡ 3 * n) where
  abbrev between : List Filter
  between = lines ++ drop (3 * n) fs

  later : (j : ℕ) → get_or between (3 * n + j) no_filter ≡ get_or fs (3 * n + j) no_filter
  later j = rw (← l) (get_or-append-add lines (drop (length lines) fs) j no_filter ∙ get_or-drop (length lines) fs j no_filter)

  filters_join : (tone : List Filter) → length tone ≡ 3 → over (3 * n) tone between ≡ (lines ++ tone) ++ drop (3 * n + 3) fs
  filters_join tone e =
      over_at tone (3 * n) lines (drop (3 * n) fs) l ∙ rw (e, drop-drop 3 (3 * n) fs) (sym (append_assoc lines tone (drop (3 * n + 3) fs)))

  module _ (f : ℕ) (d : Float) (ps : List ℕ) (qs : List Cursors) where
    output_same : (rings reads : List Float) → output_row n f d ps qs between rings reads ≡ output_row n f d ps qs fs rings reads
    unfolding output_row
    output_same rings reads = rw (rw add-zero at (later 0), later 1, later 2) refl

    tone_long : (rings reads : List Float) → length (output_row n f d ps qs fs rings reads).filters ≡ 3
    unfolding output_row
    tone_long rings reads = refl

    -- step 5 of a work memory with these rows
    tone_join : (gs hs : List Filter) (x : List Float) (r : Rows)
        → let s = output_row n f d ps qs gs r.rings r.reads in
        let o = output_row n f d ps qs fs r.rings r.reads in
        gs ≡ between → (hs ≡ over (3 * n) s.filters gs) × (x ≡ laid r.input r.reads r.mixed s.out s.rings)
        → (hs ≡ (lines ++ o.filters) ++ drop (3 * n + 3) fs) × (x ≡ laid r.input r.reads r.mixed o.out o.rings)
    tone_join gs hs x r eg e =
        let same = output_same r.rings r.reads in
        (e.0 ∙ rw (eg, same) (filters_join _ (tone_long r.rings r.reads)), e.1 ∙ rw (eg, same) refl)

-- ---- the rows read, over the first of those after the input, and then steps 3 and 4

-- what comes of it where the rows lie at the places p
abbrev LinesJoin : ℕ → ℕ → Float → Bool → List Filter → List Float → List Float → Places → Type 0
LinesJoin n f k tail fs rows reads p =
    (gs : List Filter) (x w : List Float) → length x ≡ length (take (p.mixed - p.reads) (drop p.reads rows)) → x ≡ reads
    → let w₁ = put_mid p.reads (p.mixed - p.reads) rows x in
    (gs ≡ lines_ends n f k tail fs w₁) × (w ≡ lines_laid n f k tail fs w₁)
    → let r = line_rows n f k tail fs (take f rows) reads in
    (gs ≡ r.filters ++ drop (3 * n) fs) × (w ≡ take f rows ++ (reads ++ r.put))

module _ (n f : ℕ) (k : Float) (tail : Bool) (fs : List Filter) (rows reads : List Float)
    (some : 0 < n) (few : n ≤ 16) (small : f ≤ 65536) (l : length rows ≡ (places_of n f).output) where
  lines-joined : LinesJoin n f k tail fs rows reads (places_of n f)
  unfolding lines_ends lines_laid
  lines-joined gs x w kept ex e =
      let m = n * f in
      let input = take f rows in
      let lx : length x ≡ m = kept ∙ lent_long f rows m (omega arith) in
      let w₁ = put_mid f (f + m - f) rows x in
      let w₁-is : w₁ ≡ input ++ (x ++ drop (f + m) rows) = back f m rows x in
      let li : length input ≡ f = length-take-le f rows (omega arith) in
      let lw : length w₁ ≡ f + m + m = ap length w₁-is ∙ simp (length-append, length-drop) (omega arith) in
      let first : take f w₁ ≡ input = ap (take f) w₁-is ∙ take_at input (x ++ drop (f + m) rows) f li in
      let next : take m (drop f w₁) ≡ reads = ap (λ (v : List Float). take m (drop f v)) w₁-is ∙ ap (take m) (drop_at input (x ++ drop (f + m) rows) f li) ∙ take_at x (drop (f + m) rows) m lx ∙ ex in
      let yes = lines_yes n f (length w₁) some few small lw in
      (e.0 ∙ rw (yes, first, next) refl, e.1 ∙ rw (yes, first, next) refl)

  pub lines_join : {p : Places} → p ≡ places_of n f → LinesJoin n f k tail fs rows reads p
  lines_join e = subst (LinesJoin n f k tail fs rows reads) (sym e) lines-joined

-- ---- step 5 on memory that fits

output_done : (n f : ℕ) (d : Float) (v : Rings) (gs hs : List Filter) (w x : List Float) (r : Rows) → output_fits n f v.passes.lengths (length w) ≡ true
    → rows_of n f w ≡ r
    → let s = output_in n f d v.passes gs r in
    (hs ≡ output_after n f d v gs w) × (x ≡ output_made n f d v gs w)
    → (hs ≡ over (3 * n) s.filters gs) × (x ≡ laid r.input r.reads r.mixed s.out s.rings)
unfolding output_ends output_laid
output_done n f d v gs hs w x r room cut q = rw (room, cut) at q

-- ---- a whole frame

-- the end of the store over the end of the work memory
pub copy_join : (t b : ℕ) (store work x : List Float) → t ≤ length store → length work ≡ b + (length store - t)
    → let a = length store - (length work - b) in
    x ≡ copied (take (length store - a) (drop a store)) (take (length work - b) (drop b work))
    → put_mid b (length work - b) work x ≡ take b work ++ drop t store
copy_join t b store work x h l ex =
    let a : length store - (length work - b) ≡ t = omega arith in
    let dst = to_end b work (omega arith) in
    let same : length (drop t store) ≡ length (drop b work) = rw (length-drop, length-drop) (omega arith) in
    dst.1 x ∙ rw (ex, a, (to_end t store h).0, dst.0, copied_all (drop t store) (drop b work) same) refl

-- what comes of it where the work memory's parts lie at the places p
abbrev FrameJoin : ℕ → ℕ → Float → Float → Bool → Rings → List Filter → List Float → List Float → Places → Type 0
FrameJoin n f k d tail v fs store work p =
    (gs hs : List Filter) (x x₁ x₂ : List Float)
    → let a = length store - (length work - p.rings) in
    let w = put_mid p.rings (length work - p.rings) work x in
    let q = take (p.output - 0) (drop 0 w) in
    let w₁ = put_mid 0 (p.output - 0) w x₁ in
    let r = frame_in n f k d tail v fs (take f work) store in
    let reads = reads_of n f v store in
    let lines = line_rows n f k tail fs (take f q) reads in
    x ≡ copied (take (length store - a) (drop a store)) (take (length work - p.rings) (drop p.rings work))
    → length x₁ ≡ length q → (gs ≡ lines.filters ++ drop (3 * n) fs) × (x₁ ≡ take f q ++ (reads ++ lines.put))
    → (hs ≡ output_after n f d v gs w₁) × (x₂ ≡ output_made n f d v gs w₁)
    → (hs ≡ new_filters r ++ drop (3 * n + 3) fs) × (x₂ ≡ joined_rows (rows_in (take f work) r))

module _ (n f : ℕ) (k d : Float) (tail : Bool) (v : Rings) (fs : List Filter) (store work : List Float) (fits : FrameFits n f v (length store) (length work)) where
  frame_joined : FrameJoin n f k d tail v fs store work (places_of n f)
  unfolding frame_in joined_rows
  frame_joined gs hs x x₁ x₂ e₀ kept e₁ e₂ =
      let ls = v.lines.lengths in
      let ps = v.passes.lengths in
      let qs = v.passes.cursors in
      let at = (places_of n f).output in
      let t = total ls in
      let input = take f work in
      let old = take f (drop at work) in
      let rings = drop t store in
      let reads = reads_of n f v store in
      let lines = line_rows n f k tail fs input reads in
      let lw = fits.work_is in
      let li : length input ≡ f = length-take-le f work (omega arith) in
      let la : length (take at work) ≡ at = length-take-le at work (omega arith) in
      let lo : length old ≡ f = part_long at work f (omega arith) in
      let lp = put_beside n f k fs input reads tail li in
      let begun = copy_join t (at + f) store work x (omega (arith, fits.store_is)) (omega (arith, fits.store_is)) e₀ in
      let q = first_part at (take at work) (old ++ rings) _ (begun ∙ rw (take-add at f work, append_assoc) refl) la in
      let first = ap (take f) q.0 ∙ take-take f at work (omega arith) in
      let x₁-is : x₁ ≡ input ++ (reads ++ lines.put) = e₁.1 ∙ rw first refl in
      let lr : length reads ≡ n * f = omega (arith, kept ∙ ap length q.0 ∙ la, simp length-append at (ap length x₁-is)) in
      let w₁ = put_mid 0 (at - 0) (put_mid (at + f) (length work - (at + f)) work x) x₁ in
      let lw₁ : length w₁ ≡ length work = ap length (q.1 x₁) ∙ simp (length-append, length-drop) (omega (arith, kept ∙ ap length q.0 ∙ la, lo, fits.store_is)) in
      let made : Rows = record { input = input; reads = reads; mixed = lines.put; output = old; rings = rings } in
      let cut : rows_of n f w₁ ≡ made =
      ap (rows_of n f) (q.1 x₁ ∙ rw x₁-is (simp append_assoc)) ∙ cut_joined n f made (record { input = li; reads = lr; mixed = lp; output = lo }) in
      let yes = output_yes n f ps _ fits.some fits.few fits.small fits.fours (lw₁ ∙ fits.work_is) in
      tone_join n lines.filters fs (filters_long n f k tail fs input reads) f d ps qs gs hs x₂ made (e₁.0 ∙ rw first refl)
      (output_done n f d v gs hs _ x₂ made yes cut e₂)

  pub frame_join : {p : Places} → p ≡ places_of n f → FrameJoin n f k d tail v fs store work p
  frame_join e = subst (FrameJoin n f k d tail v fs store work) (sym e) frame_joined
