-- `mixer::mix_rows` meets its contract. Assumes nothing.
use mathlib.Core.Path.{refl}
use Rattle.hadamard.specs.Rows.{rows_mixed}
use Rattle.mixer.proofs.mix_rows.Goals as goal

pub returns-clause-rows_after : goal.returns-clause-rows_after
unfolding rows_mixed
returns-clause-rows_after c = rw (c.mix_all.ensures, c.split_at_mut-reads.ensures.front, c.row_length-f.ensures) refl
