-- `stages::rows::add_at` meets its contract. Assumes nothing.
use Rattle.std.proofs.Common.{rules, ◌≡◌, ◌∙◌, ◌++◌, sym, ap, take, drop}
use native.Mathlib.Omega.{arith}
use lib.ListN.{length-set}
use Rattle.stages.specs.Lines.{plus}
use Rattle.stages.proofs.RowTurns.{add_turn, add_end, plus_front}
use Rattle.stages.proofs.rows.add_at.Goals as goal

pub loop-t-preserved : goal.loop-t-preserved
loop-t-preserved c =
    let l = c.loop-t in
    (omega arith, simp length-set l.invariant.1, add_turn l.t l.last c.split_at_mut-front.result.0.now (omega arith) (search rules) ∙ l.invariant.2)

pub returns : goal.returns
returns c =
    let l = c.loop-t in
    let r = c.split_at_mut-front.ensures in
    let done : l.last ≡ plus (drop c.args.at c.args.rows.now) (take c.args.at c.args.rows.now) =
    sym (add_end l.t l.last c.split_at_mut-front.result.0.now (omega arith)) ∙ l.invariant.2 ∙ (λ i. plus (r.back i) (r.front i)) in
    (λ i. r.front i ++ done i) ∙ ap (λ x. take c.args.at c.args.rows.now ++ x) (plus_front c.args.f c.args.at c.args.rows.now c.requires.0 c.requires.1)
