-- How the steps on the lines' rows join: what each is lent, what comes back, and what all of it is then. Assumes nothing.
use mathlib.Core.Path.{◌≡◌, refl, sym, ap, ◌∙◌}
use mathlib.Core.Bool.{Bool, true, false, cond}
use mathlib.Core.List.{List, ◌++◌, append_assoc}
use Prim.Native.Nat.{ℕ, ◌+◌, ◌*◌, ◌-◌, ◌<◌}
use native.Mathlib.Omega.{arith}
use lib.Ieee.{Float}
use lib.ListN.{length, take, drop, length-append, length-drop, take-append-drop}
use lib.Seq.{take_at, drop_at, length-take-le}
use borrow.Rule.Slice.PartMut.{put_mid}
use Rattle.samples.specs.Answers.{Answer, Accepted, accept}
use Rattle.samples.proofs.Lists.{part_long, to_end, last_part}
use Rattle.hadamard.specs.Rows.{mixed_rows, judged_rows, rows_mixed}
use Rattle.hadamard.proofs.Laws.{rows_accepted, rows_joined}
use Rattle.iir.specs.declared.Filter.{Filter}
use Rattle.stages.specs.Lines.{band_ends, add_rows}
use Rattle.stages.specs.Frame.{line_rows}
use Rattle.stages.proofs.RowLaws.{by_bands, length-band_ends}

-- ---- the input, n rows read and n others: these become the mixed rows, go through their bands, and get the input unless in a tail

cond-after : (t : Bool) (p x y : List Float) → cond t (p ++ x) (p ++ y) ≡ p ++ cond t x y
cond-after true p x y = refl
cond-after false p x y = refl

-- the rows mixed over those that lie after the rows read
mix_part : (n f : ℕ) (k : Float) (w x : List Float) (a : Answer) → 0 < n → length w ≡ f + n * f + n * f
    → let v = take (length w - f) (drop f w) in
    let reads = take (n * f) (drop f w) in
    (a ≡ judged_rows n (length v)) × (x ≡ accept a (rows_mixed n k v) v) → x ≡ reads ++ mixed_rows n f k reads
mix_part n f k w x a h l e =
    let m = n * f in
    let all = drop f w in
    let reads = take m all in
    let old = drop m all in
    let q = to_end f w (omega arith) in
    let la : length all ≡ m + m = rw length-drop (omega arith) in
    let lr : length reads ≡ m = length-take-le m all (omega arith) in
    let lo : length old ≡ m = rw length-drop (omega arith) in
    let yes : a ≡ Accepted = e.0 ∙ rw q.0 (rows_accepted n f (length all) la) in
    e.1 ∙ rw (yes, q.0) (ap (rows_mixed n k) (sym (take-append-drop m all)) ∙ rows_joined n f k reads old h lr lo)

pub lines_join : (n f : ℕ) (k : Float) (tail : Bool) (fs gs : List Filter) (w x x₂ w₃ : List Float) (a : Answer) → 0 < n → length w ≡ f + n * f + n * f
    → let v = take (length w - f) (drop f w) in
    let reads = take (n * f) (drop f w) in
    (a ≡ judged_rows n (length v)) × (x ≡ accept a (rows_mixed n k v) v)
    → let at = f + n * f in
    let w₁ = put_mid f (length w - f) w x in
    let q = take (length w₁ - at) (drop at w₁) in
    let w₂ = put_mid at (length w₁ - at) w₁ x₂ in
    let r = line_rows n f k tail fs (take f w) reads in
    (gs ≡ band_ends f n 0 fs q ++ drop (3 * n) fs) × (x₂ ≡ by_bands f n 0 fs q)
    → w₃ ≡ cond tail w₂ (take at w₂ ++ add_rows f n (take f w₂) (drop at w₂))
    → (gs ≡ r.filters ++ drop (3 * n) fs) × (w₃ ≡ take f w ++ (reads ++ r.put))
unfolding line_rows
lines_join n f k tail fs gs w x x₂ w₃ a h l e₁ e₂ e₃ =
    let at = f + n * f in
    let input = take f w in
    let reads = take (n * f) (drop f w) in
    let mixed = mixed_rows n f k reads in
    let bands = by_bands f n 0 fs mixed in
    let ex = mix_part n f k w x a h l e₁ in
    let li : length input ≡ f = length-take-le f w (omega arith) in
    let lr : length reads ≡ n * f = part_long f w (n * f) (omega arith) in
    let lp : length (input ++ reads) ≡ at = rw length-append (omega arith) in
    let begun = (to_end f w (omega arith)).1 x in
    let q = last_part at (input ++ reads) mixed _ (begun ∙ rw ex (sym (append_assoc input reads mixed))) lp in
    let first : take f ((input ++ reads) ++ bands) ≡ input = rw append_assoc (take_at input (reads ++ bands) f li) in
    let added = add_rows f n input bands in (
      e₂.0 ∙ rw q.0 refl,
      e₃ ∙ rw (q.1 x₂, e₂.1, q.0, first, take_at (input ++ reads) bands at lp, drop_at (input ++ reads) bands at lp, cond-after tail (input ++ reads) bands added, append_assoc) refl,
    )

module _ (n f : ℕ) (k : Float) (tail : Bool) (fs : List Filter) (input reads : List Float) where
  pub filters_long : length (line_rows n f k tail fs input reads).filters ≡ 3 * n
  unfolding line_rows
  filters_long = length-band_ends f n 0 fs (mixed_rows n f k reads)
