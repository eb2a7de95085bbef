-- Tests of a filter's nine numbers.
use Rattle.std.specs.Prelude.{Bool, ◌&&◌, List, [], ◌∷◌, Float}
use Rattle.samples.specs.Binary32.{finite, plus_zero}
use Rattle.iir.specs.declared.Filter.{Filter}

-- the nine in their order
abbrev pub numbers : Filter → List Float
numbers f = f.a1 ∷ f.a2 ∷ f.b0 ∷ f.b1 ∷ f.b2 ∷ f.x1 ∷ f.x2 ∷ f.y1 ∷ f.y2 ∷ []

-- R1.14: p holds of each of the nine
unfoldable pub nine : (Float → Bool) → Filter → Bool
nine p f = p f.a1 && (p f.a2 && (p f.b0 && (p f.b1 && (p f.b2 && (p f.x1 && (p f.x2 && (p f.y1 && p f.y2)))))))

-- R4.14: all of them are finite
abbrev pub finite_filter : Filter → Bool
finite_filter = nine finite

-- R1.30: all of them are +0
abbrev pub blank_filter : Filter → Bool
blank_filter = nine plus_zero
