-- One step of the filter. Only the proofs about one step look inside `out_of` and `step`.
use Rattle.std.specs.Prelude.{Float}
use Rattle.samples.specs.Binary32.{◌⊕◌, ◌⊖◌, ◌⊗◌, +0}
use Rattle.iir.specs.declared.Filter.{Filter}

-- R3.23: a new filter, no history
abbrev pub from_coefficients : Float → Float → Float → Float → Float → Filter
from_coefficients a1 a2 b0 b1 b2 = record { a1 = a1; a2 = a2; b0 = b0; b1 = b1; b2 = b2; x1 = +0; x2 = +0; y1 = +0; y2 = +0 }

-- R3.21: what comes out of one step, five products and four sums in this order
unfoldable pub out_of : Filter → Float → Float
out_of f x = (((f.b0 ⊗ x ⊕ f.b1 ⊗ f.x1) ⊕ f.b2 ⊗ f.x2) ⊖ f.a1 ⊗ f.y1) ⊖ f.a2 ⊗ f.y2

-- R3.22: the filter after the step. The coefficients stay
unfoldable pub step : Filter → Float → Filter
step f x = record { a1 = f.a1; a2 = f.a2; b0 = f.b0; b1 = f.b1; b2 = f.b2; x1 = x; x2 = f.x1; y1 = out_of f x; y2 = f.y1 }
