-- `allpass::pass_row` meets its contract. Assumes nothing.
use native.Mathlib.Omega.{arith}
use native.Mathlib.Nat.{sub-zero}
use mathlib.Core.Path.{◌≡◌, refl, sym, ap, ◌∙◌}
use mathlib.Core.List.{◌++◌, append-nil}
use Prim.Native.Nat.{ℕ, suc, ◌+◌, ◌-◌, ◌*◌, ◌/◌, ◌≤◌}
use lib.ListN.{length, take, drop}
use lib.Seq.{take_all}
use borrow.Rule.Slice.PartMut.{put_mid}
use Rattle.samples.proofs.Turns.{more, lent}
use Rattle.samples.proofs.Lists.{come_back}
use Rattle.delay.specs.Ring.{list_of, four_of}
use Rattle.allpass.specs.Passes.{Stage, stage_out, stage_end, pass_out, pass_end}
use Rattle.allpass.specs.Stages.{stage}
use Rattle.allpass.proofs.Stages.{four_taken, passed_on, row_more, end_more}
use Rattle.allpass.proofs.pass_row.Goals as goal

pub loop-i-init : goal.loop-i-init
loop-i-init c = record { made = rw sub-zero refl; rings = rw sub-zero refl }

pub loop-i-preserved : goal.loop-i-preserved
loop-i-preserved c =
    let l = c.loop-i in
    let row = l.row in
    let t : ℕ = 4 * l.i in
    let n : ℕ = length c.args.row.now / 4 in
    let m : ℕ = n - (l.i + 1) in
    let now : Stage = stage l.xs l.cx l.ys l.cy in
    let next : Stage = stage c.turn-y.new.xs c.turn-y.new.cx c.turn-y.new.ys c.turn-y.new.cy in
    let four = ap four_of (lent t 4 row) ∙ four_taken (drop t row) in
    let out = c.copy_from_slice.ensures.after ∙ c.from.ensures ∙ ap list_of (c.turn-y.ensures.value ∙ ap (stage_out now) four) in
    let after : next ≡ stage_end now (four_of (drop t row)) = c.turn-y.ensures.rings_after ∙ ap (stage_end now) four in
    let fits : t + 4 ≤ length row = omega arith in
    let made : put_mid t (t + 4 - t) row c.copy_from_slice.new.self ≡ passed_on t m now row fits =
    ap (put_mid t (t + 4 - t) row) out ∙ come_back t row 4 (list_of (stage_out now (four_of (drop t row)))) refl in
    let to : 4 * (l.i + 1) ≡ t + 4 = omega arith in
    let left : suc m ≡ n - l.i = sym (more n l.i (omega arith)) in
    record {
      made = (λ j. take (to j) (made j) ++ pass_out m (after j) (drop (to j) (made j)))
          ∙ row_more t m now row fits
          ∙ (λ j. take t row ++ pass_out (left j) now (drop t row))
          ∙ l.invariant.made;
      rings = (λ j. pass_end m (after j) (drop (to j) (made j)))
          ∙ end_more t m now row fits
          ∙ (λ j. pass_end (left j) now (drop t row))
          ∙ l.invariant.rings;
    }

pub returns : goal.returns
unfolding pass_out pass_end
returns c =
    let l = c.loop-i in
    let n : ℕ = length c.args.row.now / 4 in
    let none : n - l.i ≡ 0 = omega arith in
    let all : length l.row ≤ 4 * l.i = omega arith in
    let rings = rw none at l.invariant.rings in
    record {
      row_after = sym (take_all (4 * l.i) l.row all) ∙ sym (append-nil (take (4 * l.i) l.row)) ∙ rw none at l.invariant.made;
      xs_after = ap (λ (s : Stage). s.x) rings;
      ys_after = ap (λ (s : Stage). s.y) rings;
    }
