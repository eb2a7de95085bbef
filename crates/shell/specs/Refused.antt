-- R9.10: which frames the program's unit refuses.
use Rattle.std.specs.Prelude.{◌≡◌, List, [], ◌∷◌, ℕ, ◌%◌, ltb, Float, length}
use Rattle.std.specs.Float.{binary32}
use Rattle.std.specs.Float.Ieee.{of_bits}
use Rattle.samples.specs.Answers.{Accepted, or_else}
use Rattle.samples.specs.Binary32.{finite}
use Rattle.search.specs.Search.{first_bad}
use Rattle.unit.specs.UnitState.{UnitState}
use Rattle.unit.specs.Layout.{wall}
use Rattle.unit.specs.Fresh.{fresh_unit}
use Rattle.judges.specs.Judges.{bad_input}
use Rattle.stages.specs.Settle.{nine_of}
use Rattle.machine.specs.Whole as Play
use Rattle.machine.specs.Whole.{frame_for}
use Rattle.shell.specs.Settings.{frame, rate, store_floats, work_floats}
use Rattle.shell.specs.Frames.{heard, input_play, input_due, input_ends, tail_due, tail_ends}

-- what the program does to a unit: a frame of input, or one of the tail, each on any store and work memory
pub data Passage : Type 0 where
  input : List ℕ → List Float → List Float → Passage
  tail : List Float → List Float → Passage

unfoldable pub through : UnitState → List Passage → UnitState
through u [] = u
through u (input bytes store work ∷ ps) = through (input_ends u bytes store work).memory.unit ps
through u (tail store work ∷ ps) = through (tail_ends u store work).memory.unit ps

-- R9.10: from a start on, whatever was played, 8 is all that may be due of a frame of input, and nothing is due of a tail. Then 9 is left
abbrev pub OnlySamples : Type 0
OnlySamples =
    (ps : List Passage) (bytes : List ℕ) → let u = through (fresh_unit wall rate frame) ps in
    (input_due u bytes ≡ bad_input (first_bad (heard bytes))) × (tail_due u ≡ Accepted)

-- R9.10: on the program's memory a frame is answered what is due of it, and else 9 or 0
abbrev pub DueOrNine : Type 0
DueOrNine =
    (u : UnitState) (bytes : List ℕ) (store work : List Float) → length store ≡ store_floats → length work ≡ work_floats
    → ((input_ends u bytes store work).answer ≡ or_else (input_due u bytes) (nine_of (frame_for wall u (input_play bytes) store)))
    × ((tail_ends u store work).answer ≡ or_else (tail_due u) (nine_of (frame_for wall u Play.tail store)))

-- R3.4: without the sign's bit, a NaN's pattern and an infinity's are 0x7f80_0000 and above
abbrev pub Patterns : Type 0
Patterns = (n : ℕ) → finite (of_bits binary32 n) ≡ ltb (n % 0x8000_0000) 0x7f80_0000
