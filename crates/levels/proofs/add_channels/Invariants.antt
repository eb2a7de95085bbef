-- `levels::add_channels`. The invariant: the channels that are left, added to the row, give what all give. Assumes nothing.
use mathlib.Core.Path.{◌≡◌}
use Prim.Native.Nat.{◌-◌, ◌*◌}
use lib.ListN.{drop}
use Rattle.levels.specs.Levels.{channels_summed}
use Rattle.levels.proofs.add_channels.Given as goal

abbrev pub invariant-loop-i : goal.invariant-loop-i
invariant-loop-i l =
    channels_summed l.samples (l.channels - l.i) l.row (drop (l.i * l.samples) l.buffer) ≡ channels_summed l.samples l.channels l.initial.row l.buffer
