-- `rows::line_rows` meets its contract. Assumes nothing.
use mathlib.Core.Path.{◌≡◌, refl}
use mathlib.Core.Bool.{Bool, true, false}
use mathlib.Core.List.{List, ◌++◌}
use Prim.Native.Nat.{ℕ, ◌*◌}
use lib.Ieee.{Float}
use lib.ListN.{length, take, drop}
use Rattle.samples.proofs.Clauses.{with_rows}
use Rattle.iir.specs.declared.Filter.{Filter}
use Rattle.rows.specs.Fits.{lines_fit}
use Rattle.rows.specs.Steps.{lines_in, lines_laid, lines_ends}
use Rattle.rows.proofs.Ways.{shut, let_in}
use Rattle.rows.proofs.RowFits.{lines_of}
use mathlib.Core.Path.{ap}
use mathlib.Core.Bool.{not}
use Rattle.rows.proofs.line_rows.Goals as goal

nothing : (n f : ℕ) (k : Float) (tail : Bool) (fs : List Filter) (rows : List Float) → lines_fit n f (length rows) ≡ false
    → (fs ≡ lines_ends n f k tail fs rows) × (rows ≡ lines_laid n f k tail fs rows)
unfolding lines_ends lines_laid
nothing n f k tail fs rows e = rw e (refl, refl)

all : (n f : ℕ) (k : Float) (tail : Bool) (fs gs : List Filter) (rows w : List Float) → lines_fit n f (length rows) ≡ true
    → let r = lines_in n f k tail fs rows in
    (gs ≡ r.filters ++ drop (3 * n) fs) × (w ≡ take f rows ++ (take (n * f) (drop f rows) ++ r.put))
    → (gs ≡ lines_ends n f k tail fs rows) × (w ≡ lines_laid n f k tail fs rows)
unfolding lines_ends lines_laid
all n f k tail fs gs rows w e p = rw e p

pub returns-then-not-lines_fit : goal.returns-then-not-lines_fit
returns-then-not-lines_fit c =
    let a = c.args in with_rows (nothing a.n a.f a.factor a.tail a.fs a.rows.now (shut _ _ c.lines_fit.ensures (ap not c.if-not-lines_fit.true)))

pub lines_in-requires : goal.lines_in-requires
lines_in-requires c =
    lines_of _ _ _ (let_in _ _ c.lines_fit.ensures (ap not c.if-not-lines_fit.false))

pub returns : goal.returns
returns c =
    let a = c.args in with_rows (all a.n a.f a.factor a.tail a.fs _ a.rows.now _ (let_in _ _ c.lines_fit.ensures (ap not c.if-not-lines_fit.false)) (c.lines_in.ensures.value, c.lines_in.ensures.rows_after))
