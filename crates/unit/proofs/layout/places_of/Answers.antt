-- `unit::layout::places_of` meets its contract: n rows of f are at most 16 rings of the longest. Assumes nothing.
use native.Mathlib.Omega.{arith}
use native.Mathlib.Nat.{mul-le-mul}
use mathlib.Core.Path.{refl}
use Prim.Native.Nat.{◌*◌, ◌≤◌}
use Rattle.unit.proofs.layout.places_of.Goals.{Start}
use Rattle.unit.proofs.layout.places_of.Goals as goal

all : (s : goal.Start) → s.args.n * s.args.f ≤ 16 * 65536
all s = mul-le-mul s.requires.0 s.requires.1

pub overflow_mul-lines : goal.overflow_mul-lines
overflow_mul-lines c = omega (arith, all c)

pub overflow_add-mixed : goal.overflow_add-mixed
overflow_add-mixed c = omega (arith, all c, c.requires.1)

pub overflow_add-output : goal.overflow_add-output
overflow_add-output c = omega (arith, all c, c.requires.1)

pub overflow_add-rings : goal.overflow_add-rings
overflow_add-rings c = omega (arith, all c, c.requires.1)

pub returns : goal.returns
returns c = refl
