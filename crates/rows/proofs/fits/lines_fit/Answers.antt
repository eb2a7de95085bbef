-- `rows::fits::lines_fit` meets its contract. Assumes nothing.
use mathlib.Core.Path.{◌≡◌, refl}
use mathlib.Core.Bool.{true, false}
use Prim.Native.Nat.{ℕ, ◌+◌, ◌*◌}
use lib.Dec.{eqb}
use Rattle.unit.proofs.PlaceLaws.{placed}
use Rattle.rows.specs.Fits.{few_rows, lines_fit}
use Rattle.rows.proofs.Ways.{shut, let_in}
use Rattle.rows.proofs.RowFits.{Few, few_of}
use Rattle.rows.proofs.fits.lines_fit.Goals.{Then-few_rows}
use mathlib.Core.Path.{ap, ◌∙◌}
use mathlib.Core.Bool.{not}
use Rattle.rows.proofs.fits.lines_fit.Goals as goal

many : (n f len : ℕ) → few_rows n f ≡ false → false ≡ lines_fit n f len
unfolding lines_fit
many n f len e = rw e refl

alike : (n f len : ℕ) → few_rows n f ≡ true → eqb len (f + n * f + n * f) ≡ lines_fit n f len
unfolding lines_fit
alike n f len e = rw e refl

module _ (c : goal.Then-few_rows) where
  passed : few_rows c.args.n c.args.f ≡ true
  passed = let_in _ _ c.few_rows.ensures (ap not c.if-few_rows.true)

  small : Few c.args.n c.args.f
  small = few_of _ _ passed

pub returns-then-few_rows : goal.returns-then-few_rows
returns-then-few_rows c =
    let a = c.args in
    let s = small (goal.at.returns-then-few_rows c).Then-few_rows in
    rw (placed a.n a.f s.few s.small c.work_places.ensures) (alike a.n a.f a.len (passed (goal.at.returns-then-few_rows c).Then-few_rows))

pub returns-else-few_rows : goal.returns-else-few_rows
returns-else-few_rows c =
    let a = c.args in c.if-few_rows.false ∙ many a.n a.f a.len (shut _ _ c.few_rows.ensures (ap not c.if-few_rows.false))
