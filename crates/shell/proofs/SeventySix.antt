-- The program makes 76 tail calls, or none. Assumes nothing.
use mathlib.Core.Path.{◌≡◌, refl, ap, ◌∙◌}
use mathlib.Core.Bool.{Bool, true, false, cond, ◌||◌}
use mathlib.Core.List.{List, [], ◌∷◌}
use Prim.Native.Nat.{ℕ}
use lib.Ieee.{of_bits, of_int, mul, div, lt, eq}
use Rattle.samples.specs.Answers.{accepted}
use Rattle.samples.proofs.Laws.{accept_yes, accept_no}
use Rattle.bands.specs.Times.{larger}
use Rattle.bands.specs.Tail.{ceiling, tail_count}
use Rattle.unit.specs.UnitState.{Settings, UnitState}
use Rattle.unit.specs.Layout.{wall}
use Rattle.unit.specs.Fresh.{fresh_unit}
use Rattle.unit.proofs.Laws.{store_is, work_is}
use Rattle.shell.specs.Settings.{frame, rate, times, calls}
use Rattle.shell.specs.Frames.{input_play}
use Rattle.shell.specs.Counts.{Input, frame_ends, last, any, SeventySix, Room}
use Rattle.shell.proofs.Left.{left}

count_is : tail_count times 48000 128 ≡ 76
unfolding of_bits of_int mul div lt eq larger ceiling
count_is = refl

-- what the program's unit is set to
abbrev set_to : Settings
set_to = record { rate = rate; frame = frame }

-- a frame leaves rate and frame, and its count is 76 where it is accepted
one_frame : (u : UnitState) (x : Input) (b : Bool) → accepted (frame_ends u x).answer ≡ b → u.settings ≡ set_to
    → let v = (frame_ends u x).memory.unit in
    (v.settings ≡ set_to) × (calls v.count ≡ cond b 76 (calls u.count))
one_frame u x true e p =
    let h = (left u (input_play x.bytes) x.store x.work).0 ∙ accept_yes (frame_ends u x).answer _ _ e in
    (ap (λ (v : UnitState). v.settings) h ∙ p, ap (λ (v : UnitState). calls v.count) h ∙ (λ j. tail_count times (p j).rate (p j).frame) ∙ count_is)
one_frame u x false e p =
    let h = (left u (input_play x.bytes) x.store x.work).0 ∙ accept_no (frame_ends u x).answer _ _ e in
    (ap (λ (v : UnitState). v.settings) h ∙ p, ap (λ (v : UnitState). calls v.count) h)

either : (b c : Bool) (k : ℕ) → cond c 76 (cond b 76 k) ≡ cond (b || c) 76 k
either true true k = refl
either true false k = refl
either false true k = refl
either false false k = refl

all_frames : (u : UnitState) (xs : List Input) → u.settings ≡ set_to → calls (last u xs).count ≡ cond (any u xs) 76 (calls u.count)
unfolding last any
all_frames u [] p = refl
all_frames u (x ∷ xs) p =
    let b = accepted (frame_ends u x).answer in
    let v = (frame_ends u x).memory.unit in
    let s = one_frame u x b refl p in
    all_frames v xs s.0 ∙ ap (λ (k : ℕ). cond (any v xs) 76 k) s.1 ∙ either b (any v xs) (calls u.count)

pub seventy_six : SeventySix
seventy_six xs = all_frames (fresh_unit wall rate frame) xs refl

pub room : Room
room = (store_is (fresh_unit wall rate frame), work_is frame)
