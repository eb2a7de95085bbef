-- `wire::encode` meets its contract. Assumes nothing.
use native.Mathlib.Omega.{arith}
use mathlib.Core.Path.{◌≡◌, ◌∙◌}
use lib.ListN.{take}
use lib.Seq.{take_all, length-take-le}
use Rattle.wire.specs.Wire.{written}
use Rattle.wire.proofs.Laws.{to_le_bytes-bytes_of, encoded_more}
use Rattle.wire.proofs.encode.Goals as goal

pub loop-i-preserved : goal.loop-i-preserved
loop-i-preserved c =
    let l = c.loop-i in
    let four = (rw c.to_le_bytes-word.ensures at c.copy_from_slice.ensures.after) ∙ to_le_bytes-bytes_of c.bits.result in
    rw (four, c.bits.ensures, l.invariant) (encoded_more (take c.min-count.result c.args.xs.now) c.args.out.now l.i (omega arith))

pub returns : goal.returns
unfolding written
returns c =
    let l = c.loop-i in
    let count = c.min-count.ensures in
    let xs = take c.min-count.result c.args.xs.now in
    let all : l.i ≡ c.min-count.result = omega (arith, length-take-le c.min-count.result c.args.xs.now (omega (arith, count))) in
    rw (take_all l.i xs (omega arith), all, count) at l.invariant
