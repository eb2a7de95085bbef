-- `primes::least` meets its contract: what is cut to a whole number is at most 192,000. Assumes nothing.
use Rattle.std.proofs.Common.{◌≡◌, ◌≤◌, arith}
use Rattle.samples.proofs.Laws.{rate_of}
use Rattle.bands.proofs.Bounds.{cut_asks}
use Rattle.primes.specs.Values.{delay_min}
use Rattle.primes.proofs.Laws.{min_upto, min_range}
use Rattle.primes.proofs.least.Goals.{After-truncating_f32_to_u64}
use Rattle.primes.proofs.least.Goals as goal

pub truncating_f32_to_u64-requires : goal.truncating_f32_to_u64-requires
truncating_f32_to_u64-requires c =
    let cut = cut_asks _ 192000 (omega arith) (min_upto c.args.time c.args.rate c.requires.time_fits (rate_of _ c.requires.rate_fits).hi) in
    record { lower_bound = rw c.nearest_u32_to_f32.ensures cut.0; upper_bound = rw c.nearest_u32_to_f32.ensures cut.1 }

cut : (c : goal.After-truncating_f32_to_u64) → let n = c.truncating_f32_to_u64.result in (n ≡ delay_min c.args.time c.args.rate) × (n ≤ 192000)
cut c =
    let e = rw c.nearest_u32_to_f32.ensures at c.truncating_f32_to_u64.ensures in
    (e, rw e (min_range c.args.time c.args.rate c.requires.time_fits (rate_of _ c.requires.rate_fits).hi))

pub overflow_cast-result : goal.overflow_cast-result
overflow_cast-result c = omega (arith, (cut c).1)

pub returns : goal.returns
returns c = cut c
