-- `audio_buffer::transpose`. The invariant: the columns that are done, before those that are left, are all columns. Assumes nothing.
use mathlib.Core.Path.{◌≡◌}
use mathlib.Core.List.{◌++◌}
use Prim.Native.Nat.{◌-◌, ◌*◌}
use lib.ListN.{take, drop}
use Rattle.audio_buffer.specs.Layout.{columns}
use Rattle.audio_buffer.proofs.transpose.Given as goal

abbrev pub invariant-loop-t : goal.invariant-loop-t
invariant-loop-t l =
    take (l.t * l.rows) l.target ++ columns l.row l.rows (l.row - l.t) (drop l.t l.source) ≡ columns l.row l.rows l.row l.source
