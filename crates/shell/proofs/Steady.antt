-- A unit of the program stays in range, whatever is played. Assumes nothing.
use mathlib.Core.Path.{◌≡◌, refl}
use mathlib.Core.Bool.{true}
use mathlib.Core.List.{List, [], ◌∷◌}
use lib.Ieee.{Float, of_bits}
use Rattle.samples.specs.Answers.{Accepted}
use Rattle.samples.specs.Binary32.{plus_zero}
use Rattle.samples.specs.Sizes.{rate_ok, frame_ok}
use Rattle.samples.proofs.Laws.{accept_either}
use Rattle.iir.specs.Nine.{nine}
use Rattle.unit.specs.UnitState.{UnitState}
use Rattle.unit.specs.Layout.{wall, lengths_from, lengths, total, store_len, work_len}
use Rattle.unit.specs.Fresh.{no_frame, fresh_unit}
use Rattle.unit.specs.Range.{below, cursors_in, unmarked, blank_filters, blank_open, in_range}
use Rattle.judges.specs.Judges.{judged}
use Rattle.stages.specs.Frame.{new_filters}
use Rattle.stages.proofs.Within.{cursors_moved}
use Rattle.machine.specs.Whole.{Play, frame_for, count_for, moved_on}
use Rattle.shell.specs.Settings.{frame, rate}
use Rattle.shell.specs.Frames.{input_play, tail_due, play_ends, input_ends, tail_ends}
use Rattle.shell.specs.Refused.{Passage, input, tail, through, OnlySamples}
use Rattle.shell.proofs.Eight.{ready_due, eight}
use Rattle.shell.proofs.Left.{left}

-- set as the program sets it, every cursor below its ring's length, no frame open
pub record Steady (u : UnitState) : Type 0 where
  pub set_to : u.settings ≡ record { rate = rate; frame = frame }
  pub lines_in_lem : cursors_in (lengths wall u) u.cursors.lines ≡ true
  pub passes_in : cursors_in wall.pass_lengths u.cursors.passes ≡ true
  pub shut : u.held ≡ no_frame wall

begins : Steady (fresh_unit wall rate frame)
unfolding below cursors_in lengths_from
begins = record { set_to = refl; lines_in_lem = refl; passes_in = refl; shut = refl }

-- ---- a whole call leaves a steady unit

steady_play : (u : UnitState) (p : Play) (store work : List Float) → Steady u → Steady (play_ends u p store work).memory.unit
steady_play u p store work s = rw (left u p store work).0 (accept_either Steady (play_ends u p store work).answer (λ _. on) (λ _. s))
  where
    on : Steady (moved_on wall u (new_filters (frame_for wall u p store)) (count_for u p))
    on = record {
      set_to = s.set_to;
      lines_in_lem = cursors_moved u.settings.frame (lengths wall u) u.cursors.lines s.lines_in_lem;
      passes_in = cursors_moved u.settings.frame wall.pass_lengths u.cursors.passes s.passes_in;
      shut = s.shut;
    }

steady_through : (u : UnitState) (ps : List Passage) → Steady u → Steady (through u ps)
unfolding through
steady_through u [] s = s
steady_through u (input bytes store work ∷ ps) s = steady_through (input_ends u bytes store work).memory.unit ps (steady_play u (input_play bytes) store work s)
steady_through u (tail store work ∷ ps) s = steady_through (tail_ends u store work).memory.unit ps (steady_play u Play.tail store work s)

-- ---- and nothing but its samples refuses what it is given

steady_in_range : (u : UnitState) → Steady u → in_range wall u ≡ true
unfolding in_range rate_ok frame_ok unmarked blank_filters blank_open nine plus_zero of_bits
steady_in_range u s = rw (s.lines_in_lem, s.passes_in, s.set_to, s.shut)

ready : (u : UnitState) → Steady u → (ready_due u ≡ Accepted) × (tail_due u ≡ Accepted)
unfolding judged lengths_from total store_len work_len
ready u s = let r = steady_in_range u s in (rw (r, s.set_to, s.shut), rw (r, s.set_to, s.shut))

pub only_samples : OnlySamples
only_samples ps bytes =
    let u = through (fresh_unit wall rate frame) ps in
    let r = ready u (steady_through (fresh_unit wall rate frame) ps begins) in
    (eight u bytes r.0, r.1)
