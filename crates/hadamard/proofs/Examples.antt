-- The mix's examples compute. Assumes nothing.
use mathlib.Core.Path.{refl}
use lib.Count.{ones}
use lib.Ieee.{of_bits, mul, add, sub}
use Rattle.hadamard.specs.Mix.{minus, mix_at}
use Rattle.hadamard.specs.Examples.{MixExamples}

pub mix_examples : MixExamples
unfolding minus ones mix_at of_bits mul add sub
mix_examples = record { left_to_right = refl; factor_last = refl; minus_zero = refl }
