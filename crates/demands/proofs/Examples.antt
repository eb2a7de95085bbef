-- The P set: every entry of the table computes, but that no time counts 0 at every rate and frame. Assumes nothing.
use mathlib.Core.Path.{refl}
use lib.Count.{ones}
use lib.Ieee.{of_bits, of_int, add, sub, mul, div, lt, le, eq, ne}
use Rattle.samples.specs.Binary32.{+0}
use Rattle.samples.specs.Sizes.{rate_ok, frame_ok}
use Rattle.delay.specs.Calls.{length_ok, cursors_ok, count_ok}
use Rattle.delay.specs.Ring.{rotl, wrap, read, write}
use Rattle.delay.specs.RingLaw.{gets}
use Rattle.iir.specs.Step.{out_of, step}
use Rattle.hadamard.specs.Mix.{minus, mix_at, mixed}
use Rattle.bands.specs.Tail.{ceiling}
use Rattle.bands.specs.Times.{time_ok, larger}
use Rattle.bands.proofs.Tail.{no_tail}
use Rattle.primes.specs.Power.{power_from}
use Rattle.levels.specs.Levels.{share, downmixed}
use Rattle.demands.specs.Examples.{thrice, Examples}

pub examples : Examples
unfolding of_bits of_int add sub mul div lt le eq ne ones rate_ok frame_ok length_ok cursors_ok count_ok rotl wrap read write gets out_of step minus mix_at mixed ceiling time_ok larger power_from share downmixed
examples = record {
  p1 = (refl, refl, refl);
  p2 = refl;
  p3 = (refl, refl, refl, λ p. refl, refl, refl, refl);
  p4 = (refl, refl, λ rate frame. let e = no_tail (thrice +0) rate frame refl in (e, rw e refl), refl);
  p5 = refl;
  p6 = λ v w. refl;
  p7 = refl;
  p8 = refl;
}
