-- `audio_buffer::write_column`. The invariant: the first r samples are the column's, the rest are as they were. Assumes nothing.
use mathlib.Core.Path.{◌≡◌}
use mathlib.Core.List.{◌++◌}
use lib.ListN.{length, take, drop}
use Rattle.audio_buffer.specs.Layout.{first_of_each}
use Rattle.audio_buffer.proofs.write_column.Given as goal

abbrev pub invariant-loop-r : goal.invariant-loop-r
invariant-loop-r l = l.column ≡ take l.r (first_of_each l.row (length l.initial.column) (drop l.t l.source)) ++ drop l.r l.initial.column
