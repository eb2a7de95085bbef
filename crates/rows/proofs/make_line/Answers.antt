-- `rows::make_line` meets its contract. Assumes nothing.
use borrow.Author.Tests.{ltb-true}
use mathlib.Core.Path.{◌≡◌, refl, ap}
use mathlib.Core.Bool.{Bool, false, ◌&&◌}
use mathlib.Core.List.{List}
use Prim.Native.Nat.{ℕ}
use lib.Dec.{ltb}
use lib.Ieee.{Float}
use Rattle.samples.proofs.Clauses.{with_work}
use Rattle.samples.proofs.Laws.{split_and}
use Rattle.iir.specs.declared.Filter.{Filter}
use Rattle.unit.specs.Layout.{wall}
use Rattle.rows.specs.Parts.{line_ends, line_laid}
use Rattle.rows.proofs.Ways.{shut, let_in}
use Rattle.rows.proofs.RowsOf.{work_fits}
use mathlib.Core.Bool.{not}
use Rattle.rows.proofs.make_line.Goals as goal

nothing : (f i : ℕ) (tail : Bool) (fs : List Filter) (work : List Float) → (fs ≡ line_ends wall f i fs false work) × (work ≡ line_laid wall f i tail fs false work)
unfolding line_ends line_laid
nothing f i tail fs work = (refl, refl)

pub returns-then-not-i-work_for : goal.returns-then-not-i-work_for
returns-then-not-i-work_for c =
    let a = c.args in
    let q = ap (λ (b : Bool). ltb a.i 16 && b) c.work_for.ensures in rw (shut _ _ q (ap not c.if-not-i-work_for.true)) (with_work (nothing a.f a.i a.tail a.fs a.work.now))

pub wall_line-requires : goal.wall_line-requires
wall_line-requires c =
    let a = c.args in
    let q = ap (λ (b : Bool). ltb a.i 16 && b) c.work_for.ensures in
    let p = split_and _ _ (let_in _ _ q (ap not c.if-not-i-work_for.false)) in
    (ltb-true _ _ p.0, work_fits _ _ p.1)

pub returns : goal.returns
returns c =
    let a = c.args in
    let q = ap (λ (b : Bool). ltb a.i 16 && b) c.work_for.ensures in rw (let_in _ _ q (ap not c.if-not-i-work_for.false)) (record { value = c.wall_line.ensures.value; work_after = c.wall_line.ensures.work_after })
