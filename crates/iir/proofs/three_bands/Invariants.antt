-- `iir::three_bands`. The invariant: as of one run, through all three bands. Assumes nothing.
use Rattle.std.proofs.Common.{◌≡◌, ◌++◌, take, drop}
use Rattle.iir.specs.Runs.{bands_out, bands_end}
use Rattle.iir.proofs.three_bands.Given as goal

abbrev pub invariant-loop-x : goal.invariant-loop-x
invariant-loop-x l =
    (take l.x-index l.xs ++ bands_out l.g (drop l.x-index l.xs) ≡ bands_out l.initial.g l.initial.xs)
    × (bands_end l.g (drop l.x-index l.xs) ≡ bands_end l.initial.g l.initial.xs)
