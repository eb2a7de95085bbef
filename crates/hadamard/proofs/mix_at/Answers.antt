-- `hadamard::mix_at` meets its contract. Assumes nothing.
use Rattle.std.proofs.lemmas.Grind.{get_or_after_one}
use Rattle.std.proofs.lemmas.List.{take_rest}
use mathlib.Core.List.{List}
use mathlib.Core.Path.{◌≡◌, refl, ap, ◌∙◌}
use Prim.Native.Nat.{ℕ, ◌+◌, ◌-◌, ◌≤◌}
use native.Mathlib.Nat.{add_comm}
use native.Mathlib.Omega.{arith}
use lib.ListN.{length, get_or, take, drop, length-drop, drop_of_length-le}
use lib.Ieee.{Float, nan}
use Rattle.samples.specs.Binary32.{◌⊗◌}
use Rattle.hadamard.specs.Mix.{mix_at}
use Rattle.hadamard.proofs.Columns.{sum_start, sum-turn}
use Rattle.hadamard.proofs.mix_at.Goals as goal

-- the samples after the first: how many, and which
rest_long : (x : List Float) → length (take (length x - 1) (drop 1 x)) ≡ length x - 1
rest_long x = rw take_rest (length-drop 1 x)

rest_at : (x : List Float) (i : ℕ) → get_or (take (length x - 1) (drop 1 x)) i nan ≡ get_or x (i + 1) nan
rest_at x i = rw (take_rest, get_or_after_one, add_comm 1 i) refl

pub loop-i-init : goal.loop-i-init
loop-i-init c = sum_start c.args.r c.args.x.now (omega arith)

pub loop-i-preserved : goal.loop-i-preserved
loop-i-preserved c =
    let x = c.args.x.now in
    let i = c.loop-i.i in
    sum-turn c.args.r (i + 1) c.loop-i.sum x (omega (arith, rest_long x)) c.minus.ensures (rw rest_at at c.plus_minus-sum.ensures) ∙ c.loop-i.invariant

pub returns : goal.returns
unfolding mix_at
returns c =
    let x = c.args.x.now in
    let h : length x ≤ c.loop-i.i + 1 = omega (arith, rest_long x) in
    ap (λ (s : Float). s ⊗ c.args.k) (rw (drop_of_length-le x h) at c.loop-i.invariant)
