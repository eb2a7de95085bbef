-- How the steps of the output join: what each is lent, what comes back, and what all of it is then. Assumes nothing.
use mathlib.Core.Path.{◌≡◌, refl, sym, ap, subst, ◌∙◌}
use mathlib.Core.Bool.{true, false}
use mathlib.Core.List.{List, [], ◌++◌, append-nil, append_assoc}
use Prim.Native.Nat.{ℕ, suc, ◌+◌, ◌*◌, ◌-◌, ◌/◌, ◌%◌, ◌≤◌}
use native.Mathlib.Omega.{arith}
use lib.Ieee.{Float}
use lib.ListN.{length, get_or, take, drop, replicate, length-append, length-drop, take-append-drop}
use lib.Seq.{take_at, drop_at, take_all, drop-length, length-take-le}
use borrow.Rule.Slice.PartMut.{put_mid}
use Rattle.samples.specs.Binary32.{+0}
use Rattle.samples.specs.Lists.{over}
use Rattle.samples.proofs.Turns.{middle}
use Rattle.samples.proofs.Lists.{cut, part_long, last_part}
use Rattle.delay.specs.Calls.{both}
use Rattle.unit.specs.declared.layout.Places.{Places}
use Rattle.unit.specs.Room.{AllpassRings}
use Rattle.unit.specs.Layout.{total, stretch, places_of}
use Rattle.iir.specs.declared.Filter.{Filter}
use Rattle.iir.specs.Runs.{bands_out, bands_end}
use Rattle.stages.specs.Lines.{three, three_of, sum_rows}
use Rattle.stages.specs.Frame.{stage_at, output_row}
use Rattle.allpass.specs.Passes.{Stage, pass_out, pass_end}
use Rattle.allpass.specs.Stages.{staged}
use Rattle.stages.specs.Steps.{divided}
use Rattle.rows.specs.Rows.{rows_of, joined_rows}
use Rattle.rows.proofs.RowsOf.{all_rows}
use Rattle.outputs.specs.Steps.{output_laid, output_ends}
use Rattle.outputs.specs.Workers.{both_passed}
use Rattle.allpass.proofs.Stages.{length-pass_out, pass_rings, staged-laid}
use Rattle.unit.proofs.Totals.{total_next, total_front}

-- ---- where there is no room all is as it was

pub no_output : (n f : ℕ) (d : Float) (p : AllpassRings) (fs : List Filter) (work : List Float)
    → (fs ≡ output_ends n f d p fs false work) × (work ≡ output_laid n f d p fs false work)
unfolding output_ends output_laid
no_output n f d p fs work = (refl, refl)

-- ---- the sum of the rows read, after all rows, divided

pub mean_join : (n f : ℕ) (d : Float) (rows w x : List Float) → n * f + f ≤ length rows
    → let at = length rows - f in
    let sum = sum_rows f n (replicate f +0) (take (n * f) rows) in
    w ≡ take at rows ++ sum → x ≡ divided d (take (length w - at) (drop at w)) → put_mid at (length w - at) w x ≡ take at rows ++ divided d sum
mean_join n f d rows w x l ew ex =
    let at = length rows - f in
    let q = last_part at (take at rows) (sum_rows f n (replicate f +0) (take (n * f) rows)) w ew (length-take-le at rows (omega arith)) in
    q.1 x ∙ rw (ex, q.0) refl

-- ---- the allpass rings: four stretches, of the lengths ps

-- the first two are no longer than all
pub two_fit : (ps : List ℕ) → get_or ps 0 0 + get_or ps 1 0 ≤ total ps
unfolding total
two_fit ps = omega (arith, total_next 0 ps, total_next 1 ps, total_front 2 ps)

module _ (ps : List ℕ) (rings : List Float) (l : length rings ≡ total ps) where
  stretch_long : (k : ℕ) → length (stretch ps k rings) ≡ get_or ps k 0
  unfolding stretch
  stretch_long k = part_long (total (take k ps)) rings (get_or ps k 0) (omega (arith, total_next k ps, total_front (suc k) ps))

  stretch_next : (k : ℕ) → stretch ps k rings ++ drop (total (take (suc k) ps)) rings ≡ drop (total (take k ps)) rings
  unfolding stretch
  stretch_next k = rw (total_next k ps) (sym (cut (total (take k ps)) rings (get_or ps k 0)))

  four_stretches : length ps ≡ 4 → stretch ps 0 rings ++ (stretch ps 1 rings ++ (stretch ps 2 rings ++ stretch ps 3 rings)) ≡ rings
  unfolding total
  four_stretches four =
      let none : drop (total (take 4 ps)) rings ≡ [] = rw (take_all 4 ps (omega arith), ← l) (drop-length rings) in
      rw (← append-nil (stretch ps 3 rings), ← none, stretch_next 3, stretch_next 2, stretch_next 1) (stretch_next 0)

-- ---- both stages over the row before them

pub passes_join : (f : ℕ) (v : AllpassRings) (w w₁ w₂ : List Float)
    → let ps = v.lengths in
    let qs = v.cursors in
    f % 4 ≡ 0 → length ps ≡ 4 → length w ≡ f + total ps
    → w₁ ≡ staged f f (get_or ps 0 0) (get_or ps 1 0) (get_or qs 0 (both 0)) (get_or qs 1 (both 0)) w
    → w₂ ≡ staged f (f + get_or ps 0 0 + get_or ps 1 0) (get_or ps 2 0) (get_or ps 3 0) (get_or qs 2 (both 0)) (get_or qs 3 (both 0)) w₁
    → w₂ ≡ both_passed f v (drop f w) (take f w)
passes_join f v w w₁ w₂ fours four l e₁ e₂ =
    let ps = v.lengths in
    let qs = v.cursors in
    let n : ℕ = f / 4 in
    let at = f + get_or ps 0 0 + get_or ps 1 0 in
    let row : List Float = take f w in
    let s : Stage = stage_at ps qs (drop f w) 0 in
    let t : Stage = stage_at ps qs (drop f w) 2 in
    let out : List Float = pass_out n s row in
    let e : Stage = pass_end n s row in
    let lg : length (drop f w) ≡ total ps = rw length-drop (omega arith) in
    let lr : length row ≡ f = length-take-le f w (omega arith) in
    let lo : length out ≡ f = omega (arith, length-pass_out n s row) in
    let same = pass_rings n s row in
    let long = stretch_long ps (drop f w) lg in
    let whole : w ≡ row ++ (s.x ++ (s.y ++ (t.x ++ t.y))) = rw (four_stretches ps (drop f w) lg four) (sym (take-append-drop f w)) in
    let one = staged-laid f f (get_or ps 0 0) (get_or ps 1 0) row [] (t.x ++ t.y) s fours lr (omega arith) (long 0) (long 1) in
    let lat : length out + length (e.x ++ e.y) ≡ at = rw length-append (omega (arith, same.x, same.y, long 0, long 1)) in
    let two = staged-laid f at (get_or ps 2 0) (get_or ps 3 0) out (e.x ++ e.y) [] t fours lo lat (long 2) (long 3) in
    let w₁-is : w₁ ≡ out ++ ((e.x ++ e.y) ++ (t.x ++ (t.y ++ []))) = e₁ ∙ rw (append-nil, append_assoc) (rw (← whole) at one) in
    e₂ ∙ rw (w₁-is, two, append-nil, append_assoc) refl

-- ---- a work memory: the mean, both stages, and the tone's filters

-- what comes of it where the parts of the work memory lie at the places p
abbrev OutputJoin : ℕ → ℕ → Float → AllpassRings → List Filter → List Float → Places → Type 0
OutputJoin n f d v fs w p =
    (gs : List Filter) (x x₂ x₃ : List Float)
    → let k = 3 * n in
    let q = take (p.rings - p.reads) (drop p.reads w) in
    let w₁ = put_mid p.reads (p.rings - p.reads) w x in
    let s = take (length w₁ - p.output) (drop p.output w₁) in
    let w₂ = put_mid p.output (length w₁ - p.output) w₁ x₂ in
    let row = take (p.rings - p.output) (drop p.output w₂) in
    length x ≡ length q → x ≡ take (length q - f) q ++ divided d (sum_rows f n (replicate f +0) (take (n * f) q))
    → x₂ ≡ both_passed f v (drop f s) (take f s)
    → (gs ≡ over k (three_of (bands_end (three k fs) row)) fs) × (x₃ ≡ bands_out (three k fs) row)
    → (gs ≡ output_ends n f d v fs true w) × (put_mid p.output (p.rings - p.output) w₂ x₃ ≡ output_laid n f d v fs true w)

module _ (n f : ℕ) (d : Float) (v : AllpassRings) (fs : List Filter) (w : List Float)
    (fours : f % 4 ≡ 0) (l : length w ≡ (places_of n f).rings + total v.lengths) where
  joined : OutputJoin n f d v fs w (places_of n f)
  unfolding output_ends output_laid rows_of joined_rows output_row bands_out
  joined gs x x₂ x₃ kept ex e₂ e₃ =
      let ps = v.lengths in
      let qs = v.cursors in
      let m = n * f in
      let at = f + m + m in
      let input : List Float = take f w in
      let reads : List Float = take m (drop f w) in
      let mixed : List Float = take m (drop (f + m) w) in
      let old : List Float = take f (drop at w) in
      let rings : List Float = drop (at + f) w in
      let front : List Float = input ++ (reads ++ mixed) in
      let mean : List Float = divided d (sum_rows f n (replicate f +0) reads) in
      let r = output_row n f d ps qs fs rings reads in
      let li : length input ≡ f = length-take-le f w (omega arith) in
      let lr : length reads ≡ m = part_long f w m (omega arith) in
      let lm : length mixed ≡ m = part_long (f + m) w m (omega arith) in
      let lo : length old ≡ f = part_long at w f (omega arith) in
      let lb : length (reads ++ mixed) ≡ m + m = rw length-append (omega arith) in
      let lf : length front ≡ at = rw length-append (omega arith) in
      let lq : length ((reads ++ mixed) ++ old) ≡ at + f - f = rw length-append (omega arith) in
      let all : w ≡ input ++ (((reads ++ mixed) ++ old) ++ rings) = all_rows n f w ∙ rw (append_assoc, append_assoc) refl in
      let q = middle f (at + f) input ((reads ++ mixed) ++ old) rings w all li lq in
      let both : take (length ((reads ++ mixed) ++ old) - f) ((reads ++ mixed) ++ old) ≡ reads ++ mixed =
      take_at (reads ++ mixed) old (length ((reads ++ mixed) ++ old) - f) (omega (arith, lb, lq)) in
      let first : take m ((reads ++ mixed) ++ old) ≡ reads = rw append_assoc (take_at reads (mixed ++ old) m lr) in
      let ex' : x ≡ (reads ++ mixed) ++ mean = ex ∙ rw (q.0, both, first) refl in
      let lx : length x ≡ at + f - f = kept ∙ ap length q.0 ∙ lq in
      let le : length mean ≡ f = omega (arith, lb, ap length ex' ∙ length-append (reads ++ mixed) mean) in
      let p = last_part at front (mean ++ rings) _ (q.1 x ∙ rw ex' (simp append_assoc)) lf in
      let e₂' : x₂ ≡ r.pass1 ++ r.rings = e₂ ∙ rw (p.0, take_at mean rings f le, drop_at mean rings f le) refl in
      let lp : length r.pass1 ≡ at + f - at = omega (arith, length-pass_out (f / 4) (stage_at ps qs rings 2) r.pass0) in
      let row = middle at (at + f) front r.pass1 r.rings _ (p.1 x₂ ∙ rw e₂' refl) lf lp in
      (e₃.0 ∙ rw row.0 refl, row.1 x₃ ∙ rw (e₃.1, row.0, append_assoc, append_assoc) refl)

  pub output_join : {p : Places} → p ≡ places_of n f → OutputJoin n f d v fs w p
  output_join e = subst (OutputJoin n f d v fs w) (sym e) joined
