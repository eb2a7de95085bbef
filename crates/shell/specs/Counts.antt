-- How many tail calls the program makes, and how much memory its unit takes.
use Rattle.std.specs.Prelude.{◌≡◌, Bool, false, cond, ◌||◌, List, [], ◌∷◌, ℕ, Float}
use Rattle.samples.specs.Answers.{accepted}
use Rattle.unit.specs.UnitState.{UnitState}
use Rattle.unit.specs.Layout.{wall}
use Rattle.unit.specs.Fresh.{fresh_unit}
use Rattle.machine.specs.Ending.{Ending}
use Rattle.shell.specs.Settings.{frame, rate, store_floats, work_floats, calls}
use Rattle.shell.specs.Frames.{input_ends}

-- a frame of input: its bytes, and the memory that is lent
pub record Input : Type 0 where
  pub bytes : List ℕ
  pub store : List Float
  pub work : List Float

abbrev pub frame_ends : UnitState → Input → Ending
frame_ends u x = input_ends u x.bytes x.store x.work

-- the unit after frames of input, and whether any of them was accepted
unfoldable pub last : UnitState → List Input → UnitState
last u [] = u
last u (x ∷ xs) = last (frame_ends u x).memory.unit xs

unfoldable pub any : UnitState → List Input → Bool
any u [] = false
any u (x ∷ xs) = accepted (frame_ends u x).answer || any (frame_ends u x).memory.unit xs

-- R9.12: 76 tail calls after any frame that was accepted, and otherwise none
abbrev pub SeventySix : Type 0
SeventySix = (xs : List Input) → let u = fresh_unit wall rate frame in calls (last u xs).count ≡ cond (any u xs) 76 0

-- R9.2: the memory that the program's unit takes, in floats
abbrev pub Room : Type 0
Room = (store_floats ≡ 9648) × (work_floats ≡ 5700)
