-- `shell::settings::coefficients`. The invariant: the first k filters have their factors. Assumes nothing.
use mathlib.Core.Path.{◌≡◌}
use Prim.Native.Nat.{◌≤◌}
use lib.ListN.{length}
use Rattle.shell.proofs.Filled.{filled}
use Rattle.shell.proofs.settings.coefficients.Given as goal

abbrev pub invariant-loop-k : goal.invariant-loop-k
invariant-loop-k l = (l.k ≤ 51) × (length l.cs ≡ 255) × (l.cs ≡ filled l.k)
