-- The ranges of rate and frame.
use Rattle.std.specs.Prelude.{Bool, ◌&&◌, ℕ, ◌%◌, leb, eqb}

-- R1.1: the rate
abbrev pub lowest_rate : ℕ
lowest_rate = 8000

abbrev pub highest_rate : ℕ
highest_rate = 192000

unfoldable pub rate_ok : ℕ → Bool
rate_ok rate = leb lowest_rate rate && leb rate highest_rate

-- R1.2: F, the samples of a frame
abbrev pub shortest_frame : ℕ
shortest_frame = 4

abbrev pub longest_frame : ℕ
longest_frame = 1024

unfoldable pub frame_ok : ℕ → Bool
frame_ok frame = leb shortest_frame frame && (leb frame longest_frame && eqb (frame % 4) 0)
