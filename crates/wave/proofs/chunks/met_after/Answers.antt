-- `wave::chunks::met_after` meets its contract: a first format that was let by is whole. Assumes nothing.
use native.Mathlib.Omega.{arith}
use mathlib.Core.Path.{◌≡◌, sym, ◌∙◌}
use mathlib.Core.Bool.{true}
use Rattle.wave.specs.Chunks.{is_first}
use Rattle.wave.proofs.Walking.{supported_has}
use Rattle.wave.proofs.chunks.met_after.Goals as goal

pub format_of-requires : goal.format_of-requires
format_of-requires c =
    let chunk = c.args.chunk.now in
    let first : is_first c.args.met chunk ≡ true = sym c.is_first.ensures ∙ c.if-is_first.true in
    omega (arith, (supported_has chunk (rw first at c.requires.was_let_by)).room)
