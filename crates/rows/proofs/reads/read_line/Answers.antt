-- `rows::rows::read_line` meets its contract. Assumes nothing.
use mathlib.Core.Path.{◌≡◌, refl}
use mathlib.Core.Bool.{false}
use mathlib.Core.List.{List}
use Prim.Native.Nat.{ℕ}
use lib.Ieee.{Float}
use Rattle.unit.specs.declared.Rings.{Rings}
use Rattle.unit.specs.Layout.{wall}
use Rattle.rows.proofs.Ways.{shut, let_in}
use Rattle.rows.specs.Reads.{read_laid}
use Rattle.rows.proofs.ReadLaid.{line_fits}
use mathlib.Core.Path.{ap}
use mathlib.Core.Bool.{not}
use Rattle.rows.proofs.reads.read_line.Goals as goal

nothing : (f : ℕ) (v : Rings) (i : ℕ) (store work : List Float) → work ≡ read_laid wall f v i false store work
unfolding read_laid
nothing f v i store work = refl

pub returns-then-not-line_room : goal.returns-then-not-line_room
returns-then-not-line_room c =
    let a = c.args in
    rw (shut _ _ c.line_room.ensures (ap not c.if-not-line_room.true)) (nothing a.f a.rings a.i a.store.now a.work.now)

pub wall_read-requires : goal.wall_read-requires
wall_read-requires c =
    line_fits _ _ _ _ _ (let_in _ _ c.line_room.ensures (ap not c.if-not-line_room.false))

pub returns : goal.returns
returns c =
    rw (let_in _ _ c.line_room.ensures (ap not c.if-not-line_room.false)) c.wall_read.ensures
