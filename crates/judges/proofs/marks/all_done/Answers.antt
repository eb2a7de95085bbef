-- `judges::marks::all_done` meets its contract. Assumes nothing.
use mathlib.Core.Path.{ap, ◌∙◌}
use Prim.Native.Nat.{◌≤◌}
use lib.ListN.{length}
use lib.Seq.{take_all}
use Rattle.judges.specs.Marks.{all_done}
use borrow.Author.Rules.{rules}
use Rattle.judges.proofs.marks.all_done.Goals as goal

pub returns : goal.returns
returns c =
    let marks = c.args.marks.now in
    let all : length marks ≤ 34 = search rules in
    c.first_done.ensures ∙ ap all_done (take_all 34 marks all)
