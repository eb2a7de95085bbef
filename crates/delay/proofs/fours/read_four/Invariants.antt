-- `delay::fours::read_four`. The invariant: what is left to read, after what was read, is what there was to read. Assumes nothing.
use Rattle.std.proofs.Common.{◌≡◌, ◌<◌, length, ◌-◌, ◌++◌, take}
use Rattle.delay.specs.Ring.{read_each}
use Rattle.delay.proofs.fours.read_four.Given as goal

abbrev pub invariant-loop-x : goal.invariant-loop-x
invariant-loop-x l = record {
  within : l.k < length l.ring;
  long : length l.x-items ≡ 4;
  left : take l.x-index l.x-items ++ read_each l.ring l.k (4 - l.x-index) ≡ read_each l.ring l.at 4;
}
