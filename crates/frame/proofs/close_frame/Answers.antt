-- `frame::close_frame` meets its contract. Assumes nothing.
use borrow.Author.Rules.{rules}
use mathlib.Core.Path.{◌≡◌, refl}
use lib.ListN.{length}
use Rattle.frame.proofs.Room.{room_fits}
use Rattle.rows.proofs.Ways.{shut, let_in}
use Rattle.frame.proofs.close_frame.Goals.{Start}
use mathlib.Core.Path.{ap}
use mathlib.Core.Bool.{not}
use Rattle.frame.proofs.close_frame.Goals as goal

pub returns-then-not-room_ok : goal.returns-then-not-room_ok
returns-then-not-room_ok c = rw (shut _ _ c.room_ok.ensures (ap not c.if-not-room_ok.true)) (record { value = c.not_stepped.ensures; store_after = refl; work_after = refl; output_after = refl })

-- the lengths of all rings are handed in
lines_long : (s : goal.Start) → length s.args.rings.lines.lengths ≡ 16
lines_long s = search rules

passes_long : (s : goal.Start) → length s.args.rings.passes.lengths ≡ 4
passes_long s = search rules

pub wall_close-requires : goal.wall_close-requires
wall_close-requires c =
    let a = c.args in
    room_fits a.f a.rings _ _ _ (lines_long (goal.at.wall_close-requires c).Start) (passes_long (goal.at.wall_close-requires c).Start) (let_in _ _ c.room_ok.ensures (ap not c.if-not-room_ok.false))

pub returns : goal.returns
returns c = rw (let_in _ _ c.room_ok.ensures (ap not c.if-not-room_ok.false)) (record { value = c.wall_close.ensures.value; store_after = c.wall_close.ensures.store_after; work_after = c.wall_close.ensures.work_after; output_after = c.wall_close.ensures.output_after })
