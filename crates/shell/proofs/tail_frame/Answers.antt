-- `shell::tail_frame` meets its contract: what its calls ensure, one after the other. Assumes nothing.
use native.Mathlib.Omega.{arith}
use mathlib.Core.Path.{refl}
use Rattle.unit.specs.UnitState.{of_state}
use Rattle.machine.specs.Whole as Play
use Rattle.shell.proofs.Said.{frame_ends_lem}
use Rattle.shell.proofs.tail_frame.Goals as goal

-- what it ensures, clause by clause
ends_of : {A B C D : Type 0} → A × (B × (C × D)) → record { value : A; store_after : B; work_after : C; out_after : D }
ends_of p = record { value = p.0; store_after = p.1.0; work_after = p.1.1.0; out_after = p.1.1.1 }

pub returns : goal.returns
returns c =
    let a = c.args in ends_of (frame_ends_lem (of_state a.s) {p = Play.tail} a.store.now a.work.now _ _ _ _ a.out.now _ refl (omega arith) (omega arith) (c.tail-a.ensures.value, (c.tail-a.ensures.store_after, (c.tail-a.ensures.work_after, c.tail-a.ensures.output_after))) c.encode.ensures)
