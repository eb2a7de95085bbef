-- R3.19: a fresh ring of 5 in turns of each kind, n 4, 3, 4 and 4.
use Rattle.std.specs.Prelude.{◌≡◌, List, [], ◌∷◌, map, ℕ, pos, Float, replicate}
use Rattle.std.specs.Float.{binary32}
use Rattle.std.specs.Float.Ieee.{of_int}
use Rattle.delay.specs.Ring.{four_of}
use Rattle.delay.specs.Calls.{fresh_ring, fresh_answer}
use Rattle.delay.specs.RingLaw.{get_n, get4, put_n, put4, Turn, gets, Each}

abbrev pub numbers : List ℕ → List Float
numbers ns = map (λ n. of_int binary32 (pos n)) ns

-- whatever the slices lent to get hold
abbrev pub four_turns : Float → List Turn
four_turns v =
    record { get = get4; put = put4 (four_of (numbers (1 ∷ 2 ∷ 3 ∷ 4 ∷ []))) }
    ∷ record { get = get_n (replicate 3 v); put = put_n (numbers (5 ∷ 6 ∷ 7 ∷ [])) }
    ∷ record { get = get_n (replicate 4 v); put = put4 (four_of (numbers (8 ∷ 9 ∷ 10 ∷ 11 ∷ []))) }
    ∷ record { get = get4; put = put_n (numbers (12 ∷ 13 ∷ 14 ∷ 15 ∷ [])) } ∷ []

pub record TurnExamples : Type 0 where
  -- the ring law speaks of them
  pub allowed : (v : Float) → Each 5 (four_turns v)
  -- what they get, whatever the ring held before the fresh
  pub got : (v w : Float)
      → gets (fresh_ring (replicate 5 w)) (fresh_answer 5).cursors (four_turns v)
      ≡ numbers (0 ∷ 0 ∷ 0 ∷ 0 ∷ []) ∷ numbers (0 ∷ 1 ∷ 2 ∷ []) ∷ numbers (3 ∷ 4 ∷ 5 ∷ 6 ∷ []) ∷ numbers (7 ∷ 8 ∷ 9 ∷ 10 ∷ []) ∷ []
