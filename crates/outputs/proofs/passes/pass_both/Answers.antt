-- `outputs::passes::pass_both` meets its contract. Assumes nothing.
use borrow.Author.Rules.{rules}
use native.Mathlib.Omega.{arith}
use Rattle.outputs.proofs.OutputJoins.{two_fit, passes_join}
use Rattle.outputs.proofs.passes.pass_both.Goals as goal

pub overflow_add-at : goal.overflow_add-at
overflow_add-at c = omega (arith, two_fit c.args.passes.lengths)

pub overflow_add-at-2 : goal.overflow_add-at-2
overflow_add-at-2 c = omega (arith, two_fit c.args.passes.lengths)

pub returns : goal.returns
returns c =
    let a = c.args in
    passes_join a.f a.passes a.rows.now _ _ c.requires.1 (search rules) c.requires.2 c.pass_stage.ensures c.pass_stage-2.ensures
