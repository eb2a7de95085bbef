-- `wire::decode` meets its contract. Assumes nothing.
use native.Mathlib.Omega.{arith}
use mathlib.Core.Path.{◌∙◌}
use Prim.Native.Nat.{◌/◌}
use lib.Ieee.{binary32, of_bits}
use lib.ListN.{length}
use Rattle.wire.proofs.Unpacking.{groups_unpacked}
use Rattle.wire.proofs.decode.Goals as goal

pub returns : goal.returns
returns c =
    let bytes = c.args.bytes.now in
    rw c.as_chunks.ensures.front at c.unpack.ensures
    ∙ groups_unpacked 4 (of_bits binary32) (length c.args.out.now) (length bytes / 4) bytes (omega arith) (omega arith)
