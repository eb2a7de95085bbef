-- `frame::wall_frame` meets its contract. Assumes nothing.
use native.Mathlib.Omega.{arith}
use borrow.Author.Rules.{rules}
use mathlib.Core.Path.{◌≡◌, ap, ◌∙◌}
use mathlib.Core.Bool.{Bool}
use Prim.Native.Nat.{◌+◌, ◌*◌, ◌≤◌}
use lib.ListN.{length}
use Rattle.frame.specs.Steps.{Left, stepped_on, left_by}
use Rattle.frame.proofs.FrameParts.{settle_fits, ends_whole}
use Rattle.frame.proofs.wall_frame.Goals.{Start}
use Rattle.frame.proofs.wall_frame.Goals as goal

pub frame_rows-gs-requires : goal.frame_rows-gs-requires
frame_rows-gs-requires c = c.requires.fits

pub finish_frame-ok-requires : goal.finish_frame-ok-requires
finish_frame-ok-requires c =
    settle_fits _ _ c.args.rings _ _ _ _ c.requires.fits (search rules) c.requires.out

pub stepped_on-requires : goal.stepped_on-requires
stepped_on-requires c = let p = c.requires in (p.short, p.within)

-- all 51 filters are handed in
filters_long : (c : goal.Start) → length c.args.fs ≡ 51
filters_long c = search rules

pub returns : goal.returns
unfolding left_by
returns c =
    let a = c.args in
    let e = c.frame_rows-gs.ensures in
    let gs = c.frame_rows-gs.result in
    let few : length a.fs ≤ 3 * 16 + 3 = omega (arith, filters_long (goal.at.returns c).Start) in
    let same = c.frame_rows-gs.auto.work in
    let whole = ends_whole 16 a.f _ _ a.tail a.rings a.fs _ a.store.now a.work.now _ c.requires.fits few e.value e.work_after same a.output.now in
    let g = c.finish_frame-ok.ensures in
    record {
      value = c.stepped_on.ensures ∙ ap (λ (b : Bool). stepped_on a.f a.rings b gs) g.value ∙ ap (λ (l : Left). l.stepped) whole;
      store_after = g.store_after ∙ ap (λ (l : Left). l.store) whole;
      work_after = g.work_after ∙ ap (λ (l : Left). l.work) whole;
      output_after = g.output_after ∙ ap (λ (l : Left). l.output) whole;
    }
