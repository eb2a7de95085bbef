-- What the loop of `wave::walks::walk` keeps. Assumes nothing.
use mathlib.Core.Path.{◌≡◌}
use Prim.Native.Nat.{◌+◌, ◌-◌, ◌≤◌}
use lib.ListN.{length, drop}
use Rattle.std.specs.Prelude.{None}
use Rattle.wave.specs.Reading.{walk}
use Rattle.wave.specs.Workers.{MetOk}
use Rattle.wave.proofs.walks.walk.Given as goal

abbrev pub invariant-loop-at : goal.invariant-loop-at
invariant-loop-at l =
    record {
      in_file : l.at ≤ length l.file + 1;
      met_ok : MetOk l.met;
      same : walk 0 l.met l.at (drop l.at l.file) ≡ walk 0 None 12 (drop 12 l.file);
    }

abbrev pub decreases-loop-at : goal.decreases-loop-at
decreases-loop-at l = length l.file + 1 - l.at
