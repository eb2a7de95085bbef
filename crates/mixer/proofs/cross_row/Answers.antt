-- `mixer::cross_row` meets its contract. Assumes nothing.
use native.Mathlib.Omega.{arith}
use mathlib.Core.Bool.{Bool}
use mathlib.Core.List.{List, ◌++◌}
use mathlib.Core.Path.{◌≡◌, refl, ◌∙◌}
use Prim.Native.Nat.{ℕ, ◌+◌, ◌<◌}
use lib.ListN.{length, get_or, set, drop}
use lib.Ieee.{Float, nan}
use Rattle.hadamard.specs.Mix.{each, plus_minus}
use Rattle.mixer.specs.Passes.{signed_twice}
use Rattle.mixer.proofs.Passes.{turn, left, written}
use Rattle.mixer.proofs.cross_row.Goals as goal

-- a turn in one of the sums
twice_turn : (m m' : Bool) (xs ys w : List Float) (t : ℕ) {w' : List Float} {p q : Float} → t < length w
    → w' ≡ each t (λ s. plus_minus m' (plus_minus m (get_or w s nan) (get_or xs s nan)) (get_or ys s nan)) ++ drop t w
    → p ≡ plus_minus m (get_or w' t nan) (get_or xs t nan) → q ≡ plus_minus m' p (get_or ys t nan)
    → set w' t q ≡ each (t + 1) (λ s. plus_minus m' (plus_minus m (get_or w s nan) (get_or xs s nan)) (get_or ys s nan)) ++ drop (t + 1) w
twice_turn m m' xs ys w t {w'} {p} {q} h e ep eq =
    let still = left t (λ s. plus_minus m' (plus_minus m (get_or w s nan) (get_or xs s nan)) (get_or ys s nan)) w h in
    rw e (turn t _ w h (rw (ep, e, still) at eq))

pub loop-t-init : goal.loop-t-init
loop-t-init c = (refl, refl)

pub loop-t-preserved : goal.loop-t-preserved
loop-t-preserved c =
    let l = c.loop-t in
    let a = c.args in (
      twice_turn a.m _ a.xs.now a.ys.now a.low.now l.t (omega arith) l.invariant.0 c.plus_minus.ensures c.plus_minus-in-loop-t.ensures,
      twice_turn a.m _ a.xs.now a.ys.now a.high.now l.t (omega arith) l.invariant.1 c.plus_minus-in-loop-t-2.ensures c.plus_minus-in-loop-t-3.ensures,
    )

pub returns-clause-low_after : goal.returns-clause-low_after
unfolding signed_twice
returns-clause-low_after c = c.loop-t.invariant.0 ∙ written c.loop-t.t _ c.args.low.now (omega arith) (omega arith)

pub returns-clause-high_after : goal.returns-clause-high_after
unfolding signed_twice
returns-clause-high_after c = c.loop-t.invariant.1 ∙ written c.loop-t.t _ c.args.high.now (omega arith) (omega arith)
