-- The lengths of what steps 4 and 5 of a frame give. Assumes nothing.
use mathlib.Core.Path.{◌≡◌, refl, sym, ◌∙◌}
use mathlib.Core.Bool.{Bool, true, false, cond}
use mathlib.Core.List.{List}
use Prim.Native.Nat.{ℕ, ◌+◌, ◌*◌, ◌/◌, ◌%◌}
use native.Mathlib.Nat.{le_of_eq}
use native.Mathlib.Omega.{arith}
use lib.Ieee.{Float}
use lib.ListN.{length, get_or}
use Rattle.delay.specs.declared.Cursors.{Cursors}
use Rattle.hadamard.specs.Rows.{mixed_rows}
use Rattle.hadamard.proofs.Laws.{rows_length}
use Rattle.iir.specs.declared.Filter.{Filter}
use Rattle.iir.proofs.Laws.{run_length}
use Rattle.allpass.proofs.Stages.{length-pass_out}
use Rattle.stages.specs.Lines.{band_rows, no_filter}
use Rattle.stages.specs.Frame.{stage_at, line_rows, output_row}
use Rattle.stages.proofs.RowLaws.{length-band_rows, length-add_rows}

module _ (n f : ℕ) (k : Float) (fs : List Filter) (input reads : List Float) where
  bands_long : let mixed = mixed_rows n f k reads in
      length (band_rows f n 2 fs (band_rows f n 1 fs (band_rows f n 0 fs mixed))) ≡ n * f
  bands_long =
      let mixed = mixed_rows n f k reads in
      let l0 = length-band_rows f n 0 fs mixed (le_of_eq (sym (rows_length n f k reads))) in
      let l1 = length-band_rows f n 1 fs (band_rows f n 0 fs mixed) (le_of_eq (sym l0)) in
      length-band_rows f n 2 fs (band_rows f n 1 fs (band_rows f n 0 fs mixed)) (le_of_eq (sym l1))

  -- the rows put are n rows of f samples, if an apply's input is one
  pub put_long : (tail : Bool) → cond tail f (length input) ≡ f → length (line_rows n f k tail fs input reads).put ≡ n * f
  unfolding line_rows
  put_long true e = bands_long
  put_long false e = length-add_rows f n input _ e (le_of_eq (sym bands_long))

  pub put_beside : (tail : Bool) → length input ≡ f → length (line_rows n f k tail fs input reads).put ≡ n * f
  put_beside true e = put_long true refl
  put_beside false e = put_long false e

-- the output is a row of f samples, f a multiple of 4
pub out_long : (n f : ℕ) (d : Float) (ls : List ℕ) (cs : List Cursors) (fs : List Filter) (rings reads : List Float) → f % 4 ≡ 0
    → length (output_row n f d ls cs fs rings reads).out ≡ f
unfolding output_row
out_long n f d ls cs fs rings reads h =
    let k = 3 * n in
    let r = output_row n f d ls cs fs rings reads in
    run_length (get_or fs (k + 2) no_filter) r.tone1
    ∙ run_length (get_or fs (k + 1) no_filter) r.tone0
    ∙ run_length (get_or fs k no_filter) r.pass1
    ∙ length-pass_out (f / 4) (stage_at ls cs rings 2) r.pass0
    ∙ omega arith
