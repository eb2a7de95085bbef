-- The checked examples that are proved, as one statement (R9.19 to R9.26).
use Rattle.std.specs.Prelude.{ℕ, ◌≡◌, true, false, List, [], ◌∷◌, map, Float, pos, replicate}
use Rattle.std.specs.Float.{binary32}
use Rattle.std.specs.Float.Ieee.{of_bits, of_int}
use Rattle.samples.specs.Binary32.{+0}
use Rattle.delay.specs.Calls.{fresh_answer, fresh_ring}
use Rattle.delay.specs.RingLaw.{get_n, put_n, Turn, gets}
use Rattle.iir.specs.Step.{from_coefficients}
use Rattle.iir.specs.Runs.{run_out}
use Rattle.hadamard.specs.Mix.{minus, mixed, quarter}
use Rattle.bands.specs.declared.Times.{Times}
use Rattle.bands.specs.Tail.{count_of}
use Rattle.primes.specs.Power.{nearest_power}
use Rattle.audio_buffer.specs.declared.AudioEffectState.TheVariants.{TailComplete}
use Rattle.audio_buffer.specs.Verdict.{verdict_of}
use Rattle.audio_buffer.specs.Layout.{deinterleaved}
use Rattle.levels.specs.Levels.{downmixed}

-- whole numbers as floats, and other floats by their bits: 1, 2, 100, 0.5, -0.5 and 0.25
abbrev pub floats : List ℕ → List Float
floats ns = map (λ n. of_int binary32 (pos n)) ns

abbrev pub f1 : Float
f1 = of_bits binary32 0x3f80_0000

abbrev pub f2 : Float
f2 = of_bits binary32 0x4000_0000

abbrev pub f100 : Float
f100 = of_bits binary32 0x42c8_0000

abbrev pub f0·5 : Float
f0·5 = of_bits binary32 0x3f00_0000

abbrev pub -f0·5 : Float
-f0·5 = of_bits binary32 0xbf00_0000

abbrev pub f0·25 : Float
f0·25 = of_bits binary32 0x3e80_0000

-- one time for all bands, and a turn of a ring: the slice lent to get holds v
abbrev pub thrice : Float → Times
thrice t = record { low = t; mid = t; high = t }

abbrev pub turn : Float → List ℕ → Turn
turn v ns = record { get = get_n (replicate 3 v); put = put_n (floats ns) }

pub record Examples : Type 0 where
  -- R9.19: signs of the mix
  pub p1 : (minus 3 3 ≡ false) × (minus 1 3 ≡ true) × (minus 15 7 ≡ true)
  -- R9.20: the mix of a single 16
  pub p2 : mixed 16 quarter (floats (16 ∷ replicate 15 0)) ≡ floats (replicate 16 4)
  -- R9.21: nearest powers
  pub p3 : (nearest_power 2 900 ≡ 1024) × (nearest_power 7 907 ≡ 343) × (nearest_power 7 908 ≡ 2401) × ((p : ℕ) → nearest_power p 0 ≡ 1)
      × (nearest_power 2 3 ≡ 4) × (nearest_power 3 2 ≡ 3) × (nearest_power 53 900 ≡ 2809)
  -- R9.22: counts
  pub p4 : (count_of (thrice f2) 48000 1024 ≡ 188) × (count_of (thrice f0·5) 44100 512 ≡ 88)
      × ((rate frame : ℕ) → (count_of (thrice +0) rate frame ≡ 0) × (verdict_of (pos (count_of (thrice +0) rate frame)) ≡ TailComplete))
      × (count_of (thrice f100) 192000 4 ≡ 9600000)
  -- R9.23: a run of a filter
  pub p5 : run_out (from_coefficients f0·5 +0 f1 +0 +0) (f1 ∷ +0 ∷ +0 ∷ []) ≡ f1 ∷ -f0·5 ∷ f0·25 ∷ []
  -- R9.24: turns of a ring, whatever the memory lent held
  pub p6 : (v w : Float)
      → gets (fresh_ring (replicate 5 v)) (fresh_answer 5).cursors (turn w (1 ∷ 2 ∷ 3 ∷ []) ∷ turn w (4 ∷ 5 ∷ 6 ∷ []) ∷ turn w (7 ∷ 8 ∷ 9 ∷ []) ∷ [])
      ≡ floats (0 ∷ 0 ∷ 0 ∷ []) ∷ floats (0 ∷ 0 ∷ 1 ∷ []) ∷ floats (2 ∷ 3 ∷ 4 ∷ []) ∷ []
  -- R9.25: deinterleave
  pub p7 : deinterleaved 2 2 (floats (1 ∷ 2 ∷ 3 ∷ 4 ∷ [])) ≡ floats (1 ∷ 3 ∷ 2 ∷ 4 ∷ [])
  -- R9.26: downmix
  pub p8 : downmixed 4 1 (floats (1 ∷ 2 ∷ 3 ∷ 6 ∷ [])) ≡ floats (3 ∷ [])
