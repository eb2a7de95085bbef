-- `wave::pcm::floats` meets its contract. Assumes nothing.
use native.Mathlib.Omega.{arith}
use mathlib.Core.Path.{◌∙◌}
use Prim.Native.Nat.{◌/◌}
use lib.ListN.{length}
use Rattle.wire.proofs.Unpacking.{groups_unpacked}
use Rattle.wave.specs.Floats.{short_sample, floats_of}
use Rattle.wave.proofs.pcm.floats.Goals as goal

pub returns-then-tag-eq-WHOLE_NUMBERS : goal.returns-then-tag-eq-WHOLE_NUMBERS
unfolding floats_of
returns-then-tag-eq-WHOLE_NUMBERS c =
    let bytes = c.args.bytes.now in
    let out = c.args.out.now in
    let pairs = groups_unpacked 2 short_sample (length out) (length bytes / 2) bytes (omega arith) (omega arith) in
    rw (c.if-tag-eq-WHOLE_NUMBERS.true) (rw c.as_chunks.ensures.front at c.unpack.ensures ∙ pairs)
