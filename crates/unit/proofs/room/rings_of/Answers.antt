-- `unit::room::rings_of` meets its contract. Assumes nothing.
use mathlib.Core.Path.{◌≡◌, refl, ap, ◌∙◌}
use mathlib.Core.Bool.{Bool, true, false, cond}
use mathlib.Core.List.{List}
use Prim.Native.Nat.{ℕ}
use lib.ListN.{replicate}
use Rattle.samples.specs.Sizes.{frame_ok}
use Rattle.unit.specs.UnitState.{UnitState, of_state}
use Rattle.unit.specs.Layout.{wall, lengths}
use Rattle.unit.specs.Room.{rings_with}
use Rattle.unit.proofs.room.rings_of.Goals as goal

either : (u : UnitState) (b : Bool) (ls ks : List ℕ) → rings_with wall u (cond b ls ks) ≡ cond b (rings_with wall u ls) (rings_with wall u ks)
either u true ls ks = refl
either u false ls ks = refl

pub returns : goal.returns
returns c =
    let s = c.args.s in
    let u = of_state s in
    ap (rings_with wall u) c.lengths.ensures ∙ either u (frame_ok s.frame) (lengths wall u) (replicate 16 0)
