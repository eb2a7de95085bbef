-- What the private workers of an open leave of the work memory.
use Rattle.std.specs.Prelude.{List, Float, replicate}
use Rattle.samples.specs.Binary32.{+0}
use Rattle.unit.specs.UnitState.{UnitState}
use Rattle.unit.specs.Layout.{wall, lengths, allpass_in}
use Rattle.machine.specs.Jobs.{open_laid}

-- R5.8: all but the input, the allpass rings as they are in the store, and else +0
abbrev pub silent_laid : UnitState → List Float → List Float
silent_laid u store = open_laid wall u.settings.frame (replicate u.settings.frame +0) (allpass_in (lengths wall u) store)
