-- Whether bytes begin with those of a name, as std says it. Assumes nothing.
use mathlib.Core.Path.{◌≡◌, refl}
use mathlib.Core.Bool.{◌&&◌}
use mathlib.Core.List.{List, [], ◌∷◌}
use Prim.Native.Nat.{ℕ}
use lib.Dec.{eqb}
use Rattle.std.proofs.lemmas.Cmp.{nat_eq_equiv}
use Rattle.std.specs.List.{starts_with}
use Rattle.wave.specs.Chunks.{begins}

pub starts_with-begins : (name bytes : List ℕ) → starts_with eqb bytes name ≡ begins name bytes
starts_with-begins [] bytes = refl
starts_with-begins (c ∷ name) [] = refl
starts_with-begins (c ∷ name) (b ∷ bytes) = λ i. nat_eq_equiv.symm c b i && starts_with-begins name bytes i
