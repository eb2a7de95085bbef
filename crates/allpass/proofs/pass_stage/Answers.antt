-- `allpass::pass_stage` meets its contract: the row and the two rings are lent apart. Assumes nothing.
use native.Mathlib.Omega.{arith}
use mathlib.Core.Path.{sym, ap, ◌∙◌}
use mathlib.Core.List.{◌++◌}
use Prim.Native.Nat.{◌*◌, ◌/◌}
use lib.ListN.{length, take, drop, length-take}
use Rattle.allpass.proofs.Stages.{fit_parts, laid, staged_parts}
use Rattle.allpass.proofs.pass_stage.Goals as goal

-- within the parts of w that it cuts
pub slice_bounds-pass_row-end-2 : goal.slice_bounds-pass_row-end-2
slice_bounds-pass_row-end-2 c =
    let h = fit_parts _ _ _ _ _ (sym c.parts_fit.ensures ∙ c.if-not-parts_fit.false) in
    simp length-take (omega arith)

pub slice_bounds-pass_row-end-3 : goal.slice_bounds-pass_row-end-3
slice_bounds-pass_row-end-3 c =
    let h = fit_parts _ _ _ _ _ (sym c.parts_fit.ensures ∙ c.if-not-parts_fit.false) in
    omega arith

pub slice_bounds-pass_row-end-4 : goal.slice_bounds-pass_row-end-4
slice_bounds-pass_row-end-4 c =
    let h = fit_parts _ _ _ _ _ (sym c.parts_fit.ensures ∙ c.if-not-parts_fit.false) in
    simp length-take (omega arith)

pub pass_row-requires : goal.pass_row-requires
pass_row-requires c =
    let h = fit_parts _ _ _ _ _ (sym c.parts_fit.ensures ∙ c.if-not-parts_fit.false) in
    simp length-take (omega arith)

pub returns : goal.returns
returns c =
    let a = c.args in
    let w = a.w.now in
    let row = c.split_at_mut-row in
    let xs = c.split_at_mut-xs in
    let e = c.pass_row.ensures in
    let x = xs.ensures.front ∙ ap (take a.lx) row.ensures.back in
    let back = xs.ensures.back ∙ ap (drop a.lx) row.ensures.back in
    (λ i. (e.row_after i ++ drop (a.f / 4 * 4) row.result.0.now) ++ (e.xs_after i ++ (e.ys_after i ++ drop a.ly xs.result.1.now)))
    ∙ (λ i. laid a.f a.at a.lx a.ly a.cx a.cy (row.ensures.front i) (x i) (back i))
    ∙ staged_parts a.f a.at a.lx a.ly a.cx a.cy w (fit_parts a.f a.at a.lx a.ly (length w) (sym c.parts_fit.ensures ∙ c.if-not-parts_fit.false))
