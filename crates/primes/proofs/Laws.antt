-- The range of delay_min (R6.11). Assumes nothing.
use Rattle.std.proofs.Common.{◌≡◌, ℕ, ◌≤◌, true, false, pos, sym, refl, true≢false, arith, lit≤}
use lib.Ieee.{Float, binary32, of_bits, of_int}
use lib.Ieee.Exact.{HasValue}
use Rattle.samples.specs.Binary32.{◌⊗◌, ◌⊘◌}
use Rattle.bands.specs.Times.{time_ok}
use Rattle.bands.proofs.Bounds.{Upto, held, whole_exact, value_upto, mul_upto, div_upto, whole_upto}
use Rattle.bands.proofs.Tail.{time_upto}
use Rattle.primes.specs.Values.{MinRange}

-- 0.15, rounded, is at most 4 / 25
part_upto : Upto (of_bits binary32 0x3e19_999a) 4 25
unfolding of_bits
part_upto = (lit≤ tt, λ q. absurd (true≢false (sym q)))

sixteen : HasValue (of_bits binary32 0x4180_0000) false 16 1
unfolding of_bits
sixteen = (refl, refl)

-- ((0.15·time)·rate)/16
pub min_upto : (time : Float) (rate : ℕ) → time_ok time ≡ true → rate ≤ 192000
    → Upto (of_bits binary32 0x3e19_999a ⊗ time ⊗ of_int binary32 (pos rate) ⊘ of_bits binary32 0x4180_0000) 192000 1
min_upto time rate t r =
    let part = of_bits binary32 0x3e19_999a in
    let whole = of_int binary32 (pos rate) in
    div_upto (part ⊗ time ⊗ whole) (of_bits binary32 0x4180_0000) 3072000 16 192000 (held 192000 (omega arith)) (omega arith) (omega arith)
    (mul_upto (part ⊗ time) whole 16 1 rate 1 3072000 (held 3072000 (omega arith)) (omega arith) (omega arith)
    (mul_upto part time 4 25 100 1 16 (held 16 (omega arith)) (omega arith) (omega arith) part_upto (time_upto time t))
    (value_upto whole rate 1 (whole_exact rate (omega arith))))
    sixteen

pub min_range : MinRange
min_range time rate t r = whole_upto _ 192000 (min_upto time rate t r)
