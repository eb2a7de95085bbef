-- The float of two bytes is that of their 16 bits. Assumes nothing.
use mathlib.Core.Path.{◌≡◌, refl, ap}
use borrow.Author.Rules.{rules}
use borrow.Author.Tests.{lt-leb}
use native.Mathlib.Omega.{arith}
use mathlib.Core.Bool.{Bool, true, false}
use lib.Dec.{ltb}
use mir.Val.{to_z}
use Rattle.std.proofs.lemmas.Grind.{common_steps}
use Prim.Native.Nat.{ℕ, ◌+◌, ◌*◌, ◌<◌}
use lib.IntN.{pos}
use mir.Syntax.{w16}
use mir.ValLaws.{to_z-of_z}
use Rattle.std.specs.List.{slice_index}
use Rattle.samples.specs.Binary32.{◌⊘◌}
use Rattle.wire.specs.Wire.{value_of}
use lib.Ieee.{Float, binary32, of_int, of_bits, round}
use Rattle.wave.specs.Floats.{signed_of, short_sample}
use Rattle.wave.proofs.pcm.ShortsCodeArrayU82.float.Goals as goal

-- the divisor
divisor : of_bits binary32 1191182336 ≡ of_int binary32 (pos 32768)
unfolding of_bits of_int round
divisor = refl

-- the number of 16 bits with a sign, as the machine reads it
to_z-signed_of : (n : ℕ) → n < 65536 → to_z w16 n ≡ signed_of n
to_z-signed_of n h = go (ltb n 32768) refl
  where
    go : (t : Bool) → ltb n 32768 ≡ t → to_z w16 n ≡ signed_of n
    go true e = rw e refl
    go false e = rw (e, lt-leb 65536 n h) refl

pub returns : goal.returns
unfolding short_sample
returns c =
    let pair = c.args.pair in
    let n : slice_index pair 0 + slice_index pair 1 * 256 ≡ value_of pair = grind (arith, common_steps) in
    let below : value_of pair < 65536 = grind (arith, common_steps) in
    let back = to_z-of_z w16 c.from_le_bytes.result (search rules) in
    rw (c.from.ensures, back, c.from_le_bytes.ensures, n, to_z-signed_of (value_of pair) below)
    (ap (λ (d : Float). of_int binary32 (signed_of (value_of pair)) ⊘ d) divisor)
