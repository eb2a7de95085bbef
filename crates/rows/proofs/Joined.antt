-- The work memory of a frame cut into its rows and joined again. Assumes nothing.
use Prim.Native.Nat.{ℕ, ◌+◌, ◌*◌}
use mathlib.Core.Path.{◌≡◌, sym, ap, ◌∙◌}
use mathlib.Core.List.{◌++◌}
use native.Mathlib.Nat.{add-mul}
use native.Mathlib.Omega.{arith}
use lib.ListN.{length, take, drop, length-append}
use lib.Seq.{take_at, drop_at, drop-drop}
use Rattle.unit.specs.Layout.{Model, total, work_len}
use Rattle.rows.specs.Rows.{Rows, rows_of, joined_rows}

-- rows of n lines and a frame of f as long as they are to be
pub record Long (n f : ℕ) (r : Rows) : Type 0 where
  pub input : length r.input ≡ f
  pub reads : length r.reads ≡ n * f
  pub mixed : length r.mixed ≡ n * f
  pub output : length r.output ≡ f

-- cut, they are themselves again
pub cut_joined : (n f : ℕ) (r : Rows) → Long n f r → rows_of n f (joined_rows r) ≡ r
unfolding rows_of joined_rows
cut_joined n f r l =
    let k = n * f in
    let four = r.output ++ r.rings in
    let three = r.mixed ++ four in
    let two = r.reads ++ three in
    let d1 : drop f (r.input ++ two) ≡ two = drop_at r.input two f l.input in
    let d2 : drop (f + k) (r.input ++ two) ≡ three = sym (drop-drop k f (r.input ++ two)) ∙ ap (drop k) d1 ∙ drop_at r.reads three k l.reads in
    let d3 : drop (f + k + k) (r.input ++ two) ≡ four = sym (drop-drop k (f + k) (r.input ++ two)) ∙ ap (drop k) d2 ∙ drop_at r.mixed four k l.mixed in
    let d4 : drop (f + k + k + f) (r.input ++ two) ≡ r.rings = sym (drop-drop f (f + k + k) (r.input ++ two)) ∙ ap (drop f) d3 ∙ drop_at r.output r.rings f l.output in
    let t0 = take_at r.input two f l.input in
    let t1 = ap (take k) d1 ∙ take_at r.reads three k l.reads in
    let t2 = ap (take k) d2 ∙ take_at r.mixed four k l.mixed in
    let t3 = ap (take f) d3 ∙ take_at r.output r.rings f l.output in
    λ i. record { input = t0 i; reads = t1 i; mixed = t2 i; output = t3 i; rings = d4 i }

-- they are as long as the work memory
pub length-joined : (m : Model) (f : ℕ) (r : Rows) → Long m.lines f r → length r.rings ≡ total m.pass_lengths → length (joined_rows r) ≡ work_len m f
unfolding joined_rows work_len
length-joined m f r l e =
    simp length-append
    (omega (arith, l.input, l.reads, l.mixed, l.output, add-mul (m.lines + m.lines) 2 f, add-mul m.lines m.lines f))
