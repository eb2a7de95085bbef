-- The laws of a stage: lengths, what of a row counts, and what a stage leaves of the memory that it lies in.
-- Assumes nothing.
use native.Mathlib.Omega.{arith}
use Prim.Native.Nat.{ℕ, zero, suc, ◌+◌, ◌*◌, ◌/◌, ◌%◌, ◌≤◌, ◌<◌}
use mathlib.Core.Path.{◌≡◌, refl, sym, ap, ◌∙◌}
use mathlib.Core.Bool.{true, false}
use mathlib.Core.List.{List, [], ◌++◌, append_assoc}
use lib.Ieee.{Float, nan}
use lib.ListN.{length, get_or, take, drop, length-append, length-take, length-drop, take-append-drop, get_or-append}
use lib.Seq.{take_at, drop_at, drop-append-le, drop-drop, get_or-take}
use borrow.Author.Tests.{le-leb, leb-true}
use Rattle.samples.specs.Lists.{over}
use Rattle.samples.proofs.Laws.{split_and}
use Rattle.samples.proofs.Lists.{take_two, drop_two, over_at, over_done, over-left}
use Rattle.delay.specs.declared.Cursors.{Cursors}
use Rattle.delay.specs.Ring.{list_of, four_of}
use Rattle.delay.specs.Calls.{get4_answer}
use Rattle.delay.proofs.Laws.{length-put4_ring}
use Rattle.allpass.specs.Passes.{Stage, stage_out, stage_end, pass_out, pass_end}
use Rattle.allpass.specs.Stages.{stage, stage_of, both_rings, stage_in, passed, parts_fit, staged}

-- ---- lengths

pub length-pass_out : (n : ℕ) (s : Stage) (row : List Float) → length (pass_out n s row) ≡ 4 * n
unfolding pass_out
length-pass_out zero s row = refl
length-pass_out (suc n) s row = omega (arith, length-pass_out n (stage_end s (four_of row)) (drop 4 row))

-- both rings keep their lengths
pub record SameRings (s e : Stage) : Type 0 where
  pub x : length e.x ≡ length s.x
  pub y : length e.y ≡ length s.y

pub pass_rings : (n : ℕ) (s : Stage) (row : List Float) → SameRings s (pass_end n s row)
unfolding pass_end
pass_rings zero s row = record { x = refl; y = refl }
pass_rings (suc n) s row =
    let four = four_of row in
    let rest = pass_rings n (stage_end s four) (drop 4 row) in
    record {
      x = rest.x ∙ length-put4_ring s.x (get4_answer s.x s.xs).cursors four;
      y = rest.y ∙ length-put4_ring s.y (get4_answer s.y s.ys).cursors (stage_out s four);
    }

-- ---- a row: what lies after its n fours doesn't count

four_front : (row rest : List Float) → 4 ≤ length row → four_of (row ++ rest) ≡ four_of row
four_front row rest h =
    let at = get_or-append row rest nan in
    rw (at 0 (omega arith), at 1 (omega arith), at 2 (omega arith), at 3 (omega arith)) refl

pub pass_front : (n : ℕ) (s : Stage) (row rest : List Float) → 4 * n ≤ length row
    → (pass_out n s (row ++ rest) ≡ pass_out n s row) × (pass_end n s (row ++ rest) ≡ pass_end n s row)
unfolding pass_out pass_end
pass_front zero s row rest h = (refl, refl)
pass_front (suc n) s row rest h =
    let four : 4 ≤ length row = omega arith in
    let left = pass_front n (stage_end s (four_of row)) (drop 4 row) rest (rw length-drop (omega arith)) in
    let e = four_front row rest four in
    let d = drop-append-le 4 row rest four in (
      (λ i. list_of (stage_out s (e i)) ++ pass_out n (stage_end s (e i)) (d i))
          ∙ ap (λ (l : List Float). list_of (stage_out s (four_of row)) ++ l) left.0,
      (λ i. pass_end n (stage_end s (e i)) (d i)) ∙ left.1,
    )

-- ---- a row, four by four: what was made of it before t, and what is left from t on

pub four_taken : (row : List Float) → four_of (take 4 row) ≡ four_of row
four_taken row =
    let at : (i : ℕ) → i < 4 → get_or (take 4 row) i nan ≡ get_or row i nan = λ i h. get_or-take 4 row i nan h in
    rw (at 0 (omega arith), at 1 (omega arith), at 2 (omega arith), at 3 (omega arith)) refl

module _ (t m : ℕ) (s : Stage) (row : List Float) (h : t + 4 ≤ length row) where
  -- the row with what goes on of the four at t in their place
  abbrev pub passed_on : List Float
  passed_on = over t (list_of (stage_out s (four_of (drop t row)))) row

  -- what is left after them
  left_on : drop (t + 4) passed_on ≡ drop 4 (drop t row)
  left_on = over-left t row 4 (list_of (stage_out s (four_of (drop t row)))) refl h ∙ sym (drop-drop 4 t row)

  pub row_more : take (t + 4) passed_on ++ pass_out m (stage_end s (four_of (drop t row))) (drop (t + 4) passed_on) ≡ take t row ++ pass_out (suc m) s (drop t row)
  unfolding pass_out
  row_more =
      let out = list_of (stage_out s (four_of (drop t row))) in
      (λ i. over_done t row 4 out refl h i ++ pass_out m (stage_end s (four_of (drop t row))) (left_on i))
      ∙ append_assoc (take t row) out (pass_out m (stage_end s (four_of (drop t row))) (drop 4 (drop t row)))

  pub end_more : pass_end m (stage_end s (four_of (drop t row))) (drop (t + 4) passed_on) ≡ pass_end (suc m) s (drop t row)
  unfolding pass_end
  end_more = ap (pass_end m (stage_end s (four_of (drop t row)))) left_on

-- ---- a stage in memory: w is p, then q with the fours in front, then the two rings, then v

module _ (n t at lx ly : ℕ) (p q v : List Float) (s : Stage) (lp : length p ≡ t) (lq : length p + length q ≡ at) (h : 4 * n ≤ length q)
    (ex : length s.x ≡ lx) (ey : length s.y ≡ ly) where
  abbrev whole : Stage → List Float → List Float
  whole s q = p ++ (q ++ (s.x ++ (s.y ++ v)))

  stage_here : stage_in at lx ly s.xs s.ys (whole s q) ≡ s
  stage_here =
      let r : take (lx + ly) (drop at (whole s q)) ≡ both_rings s =
      ap (take (lx + ly)) (drop_two p q (s.x ++ (s.y ++ v)) at lq) ∙ take_two s.x s.y v (lx + ly) (omega arith) in
      ap (stage_of lx s.xs s.ys) r
      ∙ (λ i. record { x = take_at s.x s.y lx ex i; xs = s.xs; y = drop_at s.x s.y lx ex i; ys = s.ys })

  after-laid : pass_end n (stage_in at lx ly s.xs s.ys (whole s q)) (drop t (whole s q)) ≡ pass_end n s q
  after-laid =
      let rings : List Float = s.x ++ (s.y ++ v) in
      rw (stage_here, drop_at p (q ++ rings) t lp) (pass_front n s q rings h).1

  passed-laid : passed n t at lx ly s.xs s.ys (whole s q) ≡ whole (pass_end n s q) (pass_out n s q ++ drop (4 * n) q)
  unfolding passed
  passed-laid =
      let e : Stage = pass_end n s q in
      let out : List Float = pass_out n s q in
      let rings : List Float = s.x ++ (s.y ++ v) in
      let same = pass_rings n s q in
      let le : length s.x + length s.y ≡ length (both_rings e) = rw length-append (omega arith) in
      let inner : over at (both_rings e) (whole s q) ≡ whole e q =
      rw (← append_assoc p q rings, over_at (both_rings e) at (p ++ q) rings (length-append p q ∙ lq))
      (rw (drop_two s.x s.y v (length (both_rings e)) le) (simp append_assoc)) in
      rw (after-laid, stage_here, drop_at p (q ++ rings) t lp, (pass_front n s q rings h).0, inner, over_at out t p (q ++ (e.x ++ (e.y ++ v))) lp)
      (rw (length-pass_out n s q, drop-append-le (4 * n) q (e.x ++ (e.y ++ v)) h) (simp append_assoc))

-- ---- a stage over a row

pub record PartsIn (f at lx ly l : ℕ) : Type 0 where
  pub row : f ≤ at
  pub rings : at + (lx + ly) ≤ l

pub fit_parts : (f at lx ly l : ℕ) → parts_fit f at lx ly l ≡ true → PartsIn f at lx ly l
unfolding parts_fit
fit_parts f at lx ly l e = let p = split_and _ _ e in record { row = leb-true _ _ p.0; rings = leb-true _ _ p.1 }

module _ (f at lx ly : ℕ) (cx cy : Cursors) (w : List Float) where
  pub staged_fit : PartsIn f at lx ly (length w) → staged f at lx ly cx cy w ≡ passed (f / 4) 0 at lx ly cx cy w
  unfolding staged parts_fit
  staged_fit h = rw (le-leb f at h.row, le-leb (at + (lx + ly)) (length w) h.rings) refl

  pub staged_not : parts_fit f at lx ly (length w) ≡ false → staged f at lx ly cx cy w ≡ w
  unfolding staged
  staged_not e = rw e refl

-- a row of whole fours, what is left of the row with a gap, and the rings of s, each as long as it has to be
staged-whole : (f at lx ly : ℕ) (row gap rest : List Float) (s : Stage) → f ≤ at
    → length row ≡ 4 * (f / 4) → length row + length gap ≡ at → length s.x ≡ lx → length s.y ≡ ly
    → let e = pass_end (f / 4) s row in
    staged f at lx ly s.xs s.ys (row ++ (gap ++ (s.x ++ (s.y ++ rest)))) ≡ pass_out (f / 4) s row ++ (gap ++ (e.x ++ (e.y ++ rest)))
staged-whole f at lx ly row gap rest s fits whole lg ex ey =
    let n : ℕ = f / 4 in
    let e : Stage = pass_end n s row in
    let rings : List Float = s.x ++ (s.y ++ rest) in
    let front = pass_front n s row gap (omega arith) in
    let l : length (row ++ gap) ≡ at = length-append row gap ∙ lg in
    let laid = passed-laid n 0 at lx ly [] (row ++ gap) rest s refl (omega arith) (omega arith) ex ey in
    staged_fit f at lx ly s.xs s.ys (row ++ (gap ++ rings)) (record { row = fits; rings = simp length-append (omega arith) })
    ∙ (rw (append_assoc row gap rings, front.0, front.1, drop_at row gap (4 * n) whole) at laid)
    ∙ append_assoc (pass_out n s row) gap (e.x ++ (e.y ++ rest))

-- the same where all of the row is whole fours
pub staged-laid : (f at lx ly : ℕ) (row gap rest : List Float) (s : Stage) → f % 4 ≡ 0
    → length row ≡ f → length row + length gap ≡ at → length s.x ≡ lx → length s.y ≡ ly
    → let e = pass_end (f / 4) s row in
    staged f at lx ly s.xs s.ys (row ++ (gap ++ (s.x ++ (s.y ++ rest)))) ≡ pass_out (f / 4) s row ++ (gap ++ (e.x ++ (e.y ++ rest)))
staged-laid f at lx ly row gap rest s fours lr lg ex ey = staged-whole f at lx ly row gap rest s (omega arith) (omega arith) lg ex ey

module _ (f at lx ly : ℕ) (cx cy : Cursors) where
  -- what lies before the rings, the x ring, and what lies from the y ring on, after the stage went over the whole fours of the row
  abbrev pub laid : List Float → List Float → List Float → List Float
  laid front x back =
      let row = take (f / 4 * 4) front in
      let s = stage x cx (take ly back) cy in
      let e = pass_end (length row / 4) s row in
      (pass_out (length row / 4) s row ++ drop (f / 4 * 4) front) ++ (e.x ++ (e.y ++ drop ly back))

  pub staged_parts : (w : List Float) → PartsIn f at lx ly (length w) → laid (take at w) (take lx (drop at w)) (drop lx (drop at w)) ≡ staged f at lx ly cx cy w
  staged_parts w h =
      let t : ℕ = f / 4 * 4 in
      let a : List Float = take at w in
      let z : List Float = drop at w in
      let r : List Float = drop lx z in
      let row : List Float = take t a in
      let s : Stage = stage (take lx z) cx (take ly r) cy in
      let lw : f ≤ length a = simp length-take (omega arith) in
      let long : length row ≡ t = simp length-take (omega arith) in
      let n : length row / 4 ≡ f / 4 = omega arith in
      let e : ℕ → Stage = λ k. pass_end k s row in
      let rings : take lx z ++ (take ly r ++ drop ly r) ≡ z = rw (take-append-drop ly r) (take-append-drop lx z) in
      let all : row ++ (drop t a ++ z) ≡ w = rw (← append_assoc row (drop t a) z, take-append-drop t a) (take-append-drop at w) in
      let parts : row ++ (drop t a ++ (take lx z ++ (take ly r ++ drop ly r))) ≡ w = rw rings all in
      (λ i. (pass_out (n i) s row ++ drop t a) ++ ((e (n i)).x ++ ((e (n i)).y ++ drop ly r)))
      ∙ append_assoc (pass_out (f / 4) s row) (drop t a) ((e (f / 4)).x ++ ((e (f / 4)).y ++ drop ly r))
      ∙ sym (staged-whole f at lx ly row (drop t a) (drop ly r) s h.row
      (omega arith)
      (simp (length-take, length-drop) (omega arith))
      (simp (length-take, length-drop) (omega arith))
      (simp (length-take, length-drop) (omega arith)))
      ∙ ap (staged f at lx ly cx cy) parts
