-- `unit::sizes::is_store` meets its contract. Assumes nothing.
use Rattle.std.proofs.Common.{rules, ◌≡◌, ◌∙◌, false}
use lib.Dec.{leb}
use native.Mathlib.Omega.{arith}
use Rattle.unit.specs.Layout.{store_len, total}
use Rattle.unit.proofs.Totals.{total_beyond, total_short}
use Rattle.unit.proofs.sizes.is_store.Goals as goal

pub returns-then-store-ge-ALLPASS_FLOATS : goal.returns-then-store-ge-ALLPASS_FLOATS
unfolding store_len total
returns-then-store-ge-ALLPASS_FLOATS c = c.is_total.ensures ∙ total_beyond c.args.ls c.args.store 1348 (omega arith)

pub returns-else-store-ge-ALLPASS_FLOATS : goal.returns-else-store-ge-ALLPASS_FLOATS
unfolding store_len total
returns-else-store-ge-ALLPASS_FLOATS c =
    let e : leb 1348 c.args.store ≡ false = search rules in
    e ∙ total_short c.args.ls c.args.store 1348 (omega arith)
