-- `reverb::several::play_frames`. The invariant: what the frames done and those left come to together is what all of them do, with any times that
-- are let by and give the tail counted; and there is room for the next. Assumes nothing.
use mathlib.Core.Path.{◌≡◌}
use mathlib.Core.Bool.{true}
use Prim.Native.Nat.{◌*◌, ◌-◌}
use lib.IntN.{pos}
use lib.ListN.{length, take, drop}
use Rattle.bands.specs.declared.Times.{Times}
use Rattle.bands.specs.Times.{times_ok}
use Rattle.bands.specs.Tail.{tail_count}
use Rattle.unit.specs.UnitState.{of_state}
use Rattle.unit.specs.Layout.{wall}
use Rattle.unit.specs.Room.{room_ok}
use Rattle.machine.specs.Ending.{lend}
use Rattle.reverb.specs.Workers.{unit_stepped, rings_at}
use Rattle.reverb.proofs.SeveralTurns.{ahead, left}
use Rattle.reverb.proofs.several.play_frames.Given as goal

abbrev pub invariant-loop-done : goal.invariant-loop-done
invariant-loop-done l =
    (room_ok wall l.f (rings_at l.ls l.last) (length l.store) (length l.work) l.f ≡ true)
    × ((t : Times) → times_ok t ≡ true → pos (tail_count t l.s.rate l.f) ≡ l.tail.0
    → left t l.coefficients l.f l.n (lend l.s l.initial.store l.initial.work) l.input l.initial.output
    ≡ ahead l.done (take (l.done * l.f) l.output) (left t l.coefficients l.f (l.n - l.done) (record { unit = unit_stepped (of_state l.s) l.last l.count.0; store = l.store; work = l.work }) (drop (l.done * l.f) l.input) (drop (l.done * l.f) l.output)))
