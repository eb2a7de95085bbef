-- The turns of the ring's examples are those of the ring law, and compute. Assumes nothing.
use native.Mathlib.Omega.{arith}
use mathlib.Core.Path.{refl}
use lib.Ieee.{of_bits, of_int}
use Rattle.delay.specs.Ring.{rotl, wrap, read, write, ahead, read_each, write_each}
use Rattle.delay.specs.Calls.{length_ok, cursors_ok, count_ok}
use Rattle.delay.specs.RingLaw.{gets}
use Rattle.delay.specs.Examples.{TurnExamples}

pub turn_examples : TurnExamples
unfolding of_bits of_int rotl wrap read write ahead read_each write_each length_ok cursors_ok count_ok gets
turn_examples = record {
  allowed = λ v. (refl, omega arith, omega arith, (refl, omega arith, omega arith, (refl, omega arith, omega arith, (refl, omega arith, omega arith, tt))));
  got = λ v w. refl;
}
