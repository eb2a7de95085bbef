-- `delay::fours::write_four`. The invariant: what is left to store makes of the ring what there was to make of it. Assumes nothing.
use Rattle.std.proofs.Common.{◌≡◌, ◌<◌, length, drop}
use Rattle.delay.specs.Ring.{write_each}
use Rattle.delay.proofs.fours.write_four.Given as goal

abbrev pub invariant-loop-x : goal.invariant-loop-x
invariant-loop-x l = record {
  within : l.k < length l.ring;
  left : write_each l.ring l.k (drop l.x-index l.x-items) ≡ write_each l.initial.ring l.at l.x-items;
}
