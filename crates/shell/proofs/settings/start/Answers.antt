-- `shell::settings::start` meets its contract: on a store of its length a fresh unit is accepted. Assumes nothing.
use native.Mathlib.Omega.{arith}
use mathlib.Core.Path.{◌≡◌, refl}
use lib.ListN.{length}
use Rattle.samples.specs.Answers.{Accepted}
use Rattle.samples.specs.Sizes.{rate_ok, frame_ok}
use Rattle.unit.specs.Layout.{wall, lengths_from, total, store_len}
use Rattle.unit.specs.Fresh.{fresh_unit}
use Rattle.unit.proofs.Laws.{store_is}
use Rattle.judges.specs.Judges.{judged_fresh}
use Rattle.shell.specs.Settings.{frame, rate, store_floats}
use Rattle.shell.proofs.settings.start.Goals as goal

fresh_accepted : judged_fresh wall rate frame store_floats ≡ Accepted
unfolding judged_fresh rate_ok frame_ok store_len total lengths_from
fresh_accepted = refl

pub returns : goal.returns
returns c =
    let m : length c.args.store.now ≡ store_floats = omega (arith, store_is (fresh_unit wall rate frame)) in
    record { value = rw (m, fresh_accepted) at c.fresh.ensures.value; store_after = rw (m, fresh_accepted) at c.fresh.ensures.store_after }
