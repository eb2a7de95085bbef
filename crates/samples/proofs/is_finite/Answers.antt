-- `samples::is_finite` meets its contract: a float is finite where it lies between the two infinities. Assumes nothing.
use mathlib.Core.Path.{◌≡◌, refl, sym, ◌∙◌}
use mathlib.Core.Bool.{true, false}
use lib.Ieee.{Float, nan, inf, fin, lt, neg, div, of_bits}
use Rattle.samples.specs.Binary32.{finite}
use Rattle.samples.proofs.is_finite.Goals as goal

below : (x : Float) → lt x (inf false) ≡ true → lt (inf true) x ≡ finite x
unfolding lt finite
below nan h = refl
below (inf true) h = refl
below (inf false) h = sym h
below (fin s m e) h = refl

not_below : (x : Float) → lt x (inf false) ≡ false → false ≡ finite x
unfolding lt finite
not_below nan h = refl
not_below (inf s) h = refl
not_below (fin s m e) h = sym h

pub returns-then-x-top : goal.returns-then-x-top
unfolding div of_bits neg
returns-then-x-top c = below c.args.x c.if-x-top.true

pub returns-else-x-top : goal.returns-else-x-top
unfolding div of_bits neg
returns-else-x-top c = c.if-x-top.false ∙ not_below c.args.x c.if-x-top.false
