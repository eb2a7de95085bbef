-- `frame::whole::finish_frame` meets its contract. Assumes nothing.
use mathlib.Core.Path.{ap, ◌∙◌}
use mathlib.Core.Bool.{Bool, cond}
use Rattle.stages.specs.Settle.{settled}
use Rattle.rows.specs.Rows.{Rows, rows_of}
use Rattle.frame.specs.Steps.{left_by}
use Rattle.frame.proofs.whole.finish_frame.Goals as goal

pub returns : goal.returns
unfolding left_by
returns c =
    let a = c.args in
    let r : Rows = rows_of a.n a.f a.work.now in
    let ok = c.frame_finite-ok.ensures in record { value = ok; store_after = c.settle_if.ensures.store_after ∙ ap (λ (b : Bool). cond b (settled a.n a.f a.rings r.mixed r.rings a.store.now) a.store.now) ok; work_after = c.clear.ensures; output_after = c.settle_if.ensures.output_after ∙ ap (λ (b : Bool). cond b r.output a.output.now) ok }
