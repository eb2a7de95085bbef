-- `frame::wall_close` meets its contract. Assumes nothing.
use mathlib.Core.Path.{refl, ap, ◌∙◌}
use mathlib.Core.Bool.{Bool}
use Rattle.frame.specs.Steps.{stepped_on, left_by}
use Rattle.frame.proofs.FrameParts.{settle_fits}
use Rattle.frame.proofs.wall_close.Goals as goal

pub finish_frame-ok-requires : goal.finish_frame-ok-requires
finish_frame-ok-requires c = let p = c.requires in settle_fits _ _ _ _ _ _ _ p.fits refl p.out

pub stepped_on-requires : goal.stepped_on-requires
stepped_on-requires c = let p = c.requires in (p.short, p.within)

pub returns : goal.returns
unfolding left_by
returns c =
    let a = c.args in
    let g = c.finish_frame-ok.ensures in record { value = c.stepped_on.ensures ∙ ap (λ (b : Bool). stepped_on a.f a.rings b a.fs) g.value; store_after = g.store_after; work_after = g.work_after; output_after = g.output_after }
