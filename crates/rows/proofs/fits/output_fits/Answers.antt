-- `rows::fits::output_fits` meets its contract. Assumes nothing.
use mathlib.Core.Path.{◌≡◌, refl, sym, ◌∙◌}
use mathlib.Core.Bool.{true, false, ◌&&◌}
use mathlib.Core.List.{List}
use Prim.Native.Nat.{ℕ, ◌%◌}
use lib.Dec.{eqb}
use Rattle.unit.specs.Layout.{places_of}
use Rattle.unit.proofs.PlaceLaws.{placed}
use Rattle.rows.specs.Fits.{few_rows, output_fits}
use Rattle.rows.proofs.Ways.{shut, let_in}
use Rattle.rows.proofs.RowFits.{few_of, output_short, output_long}
use Rattle.rows.proofs.fits.output_fits.Goals.{After-work_places-p, Else-not-few_rows}
use mathlib.Core.Path.{ap}
use mathlib.Core.Bool.{not}
use Rattle.rows.proofs.fits.output_fits.Goals as goal

many : (n f : ℕ) (ps : List ℕ) (len : ℕ) → few_rows n f ≡ false → false ≡ output_fits n f ps len
unfolding output_fits
many n f ps len e = rw e refl

pub returns-then-not-few_rows : goal.returns-then-not-few_rows
returns-then-not-few_rows c = let a = c.args in many a.n a.f a.ps a.len (shut _ _ c.few_rows.ensures (ap not c.if-not-few_rows.true))

passed : (c : goal.Else-not-few_rows) → few_rows c.args.n c.args.f ≡ true
passed c = let_in _ _ c.few_rows.ensures (ap not c.if-not-few_rows.false)

at : (c : goal.After-work_places-p) → c.work_places-p.result ≡ places_of c.args.n c.args.f
at c = let s = few_of _ _ (passed c.before) in placed _ _ s.few s.small c.work_places-p.ensures

pub returns-then-len-rows : goal.returns-then-len-rows
returns-then-len-rows c =
    let a = c.args in
    sym (output_short a.n a.f a.ps a.len (rw (at (goal.at.returns-then-len-rows c).After-work_places-p) at c.if-len-rows.true))

pub returns : goal.returns
returns c =
    let a = c.args in
    (λ i. eqb (a.f % 4) 0 && c.is_total.ensures i)
    ∙ rw (at (goal.at.returns c).After-work_places-p) (output_long a.n a.f a.ps a.len (rw (at (goal.at.returns c).After-work_places-p) at c.if-len-rows.false) (passed (goal.at.returns c).Else-not-few_rows))
