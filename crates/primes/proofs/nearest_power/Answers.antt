-- `primes::nearest_power` meets its contract. Assumes nothing.
use Rattle.std.proofs.Common.{◌*◌, ◌<◌, ◌≤◌, mul-le-mul, mul-le-mul_left, arith}
use Rattle.primes.proofs.Power.{reached_one, reached_more, reached_end, reached_upto}
use Rattle.primes.proofs.nearest_power.Goals.{In-loop-v}
use Rattle.primes.proofs.nearest_power.Goals as goal

pub loop-v-init : goal.loop-v-init
loop-v-init c = (omega arith, omega arith, reached_one _ _)

pub overflow_mul-v : goal.overflow_mul-v
overflow_mul-v c = let v = c.loop-v.invariant.1 in omega (arith, mul-le-mul v v)

pub overflow_mul-v-in-loop-v : goal.overflow_mul-v-in-loop-v
overflow_mul-v-in-loop-v c = let v = c.loop-v.invariant.1 in omega (arith, mul-le-mul (mul-le-mul v v) c.requires.1)

pub overflow_mul-x : goal.overflow_mul-x
overflow_mul-x c = let x = c.requires.2 in omega (arith, mul-le-mul x x)

-- in a turn v is at most x, and p times v is above v
turn : (c : goal.In-loop-v) → let v = c.loop-v.v in let p = c.args.p in let x = c.args.x in
    (v * v * p ≤ x * x) × (v ≤ x) × (v < v * p) × (v * p ≤ 10600000)
turn c =
    let l = c.loop-v in
    let t : l.v * l.v * c.args.p ≤ c.args.x * c.args.x = omega arith in
    let h : l.v ≤ c.args.x = reached_upto c.args.p c.args.x l.v (omega arith) t in
    let k : l.v ≤ 200000 = omega arith in
    (t, h, omega (arith, mul-le-mul_left l.v c.requires.0), omega (arith, mul-le-mul k c.requires.1))

pub overflow_mul-v-in-loop-v-2 : goal.overflow_mul-v-in-loop-v-2
overflow_mul-v-in-loop-v-2 c = let t = turn c in omega arith

pub loop-v-smaller : goal.loop-v-smaller
loop-v-smaller c = let t = turn c in omega arith

pub loop-v-preserved : goal.loop-v-preserved
loop-v-preserved c = let t = turn c in (omega arith, t.3, reached_more _ _ c.loop-v.v c.loop-v.invariant.2 t.0)

pub returns : goal.returns
returns c = let l = c.loop-v in (reached_end _ _ l.v c.requires.0 l.invariant.2 c.loop-v-test.false, l.invariant.1)
