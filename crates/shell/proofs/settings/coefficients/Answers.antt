-- `shell::settings::coefficients` meets its contract. Assumes nothing.
use borrow.Author.Rules.{rules}
use native.Mathlib.Omega.{arith}
use mathlib.Core.Path.{◌≡◌, refl, ap, ◌∙◌}
use Prim.Native.Nat.{suc, ◌+◌, ◌*◌}
use native.Mathlib.Numerals.{add-one}
use lib.ListN.{set, length-set}
use Rattle.shell.proofs.Filled.{filled, none_filled, one_more, all_filled}
use Rattle.shell.proofs.settings.coefficients.Goals as goal

pub loop-k-init : goal.loop-k-init
loop-k-init c = (search rules, refl, none_filled)

pub loop-k-preserved : goal.loop-k-preserved
loop-k-preserved c =
    let l = c.loop-k in
    let more : set l.cs (5 * l.k + 2) c.b0.result ≡ filled (suc l.k) = (λ j. set (l.invariant.2 j) (5 * l.k + 2) (c.b0.ensures j)) ∙ one_more l.k in
    (search rules, simp length-set l.invariant.1, rw add-one more)

pub returns : goal.returns
returns c =
    let l = c.loop-k in
    let all : l.k ≡ 51 = omega arith in
    l.invariant.2 ∙ ap filled all ∙ all_filled
