-- `judges::marks::line_marked` meets its contract. Assumes nothing.
use mathlib.Core.Path.{◌≡◌, sym, ◌∙◌}
use mathlib.Core.Bool.{false}
use Prim.Native.Nat.{◌+◌, ◌≤◌}
use lib.ListN.{length}
use Rattle.judges.proofs.MarkLaws.{past}
use native.Mathlib.Omega.{arith}
use borrow.Author.Rules.{rules}
use lib.Dec.{leb}
use Rattle.judges.proofs.marks.line_marked.Goals as goal

pub returns-else-line-le-LINES : goal.returns-else-line-le-LINES
returns-else-line-le-LINES c =
    let marks = c.args.marks.now in
    let all : length marks ≡ 34 = search rules in
    let far : length marks ≤ 16 + 1 + c.args.line = omega (arith, all) in
    let no : leb c.args.line 16 ≡ false = search rules in
    no ∙ sym (past marks (16 + 1 + c.args.line) false far)
