-- The table of examples: small files compute, and what long ones give follows from their lengths and from a smaller one. Assumes nothing.
use Rattle.std.specs.Prelude.{None, Ok, Err}
use mathlib.Core.Path.{◌≡◌, refl, ap, ◌∙◌}
use mathlib.Core.List.{List, []}
use Prim.Native.Nat.{ℕ, ◌+◌, ◌≤◌, ◌<◌}
use native.Mathlib.Omega.{arith}
use lib.ListN.{length, drop, replicate, length-append, length-replicate}
use borrow.Author.Tests.{lt-leb}
use Rattle.samples.specs.Answers.{need}
use Rattle.wave.specs.declared.Take.{Take}
use Rattle.wave.specs.declared.ReadRefusal.TheVariants.{TooLong, NotWave}
use Rattle.wave.specs.Chunks.{complete, format_of, supported}
use Rattle.wave.specs.Reading.{walk, is_wave, most_bytes, reading}
use Rattle.wave.specs.Examples.{mono_take, with_zeros, smallest_file, TakeExamples}
use Rattle.wave.proofs.Walking.{supported_has, come_far}
use Rattle.wave.proofs.Readings.{data_room, format_before}
use Rattle.wave.proofs.Fronts.{reads_alike}

too_long_lem : (file : List ℕ) → most_bytes < length file → reading file ≡ (Err TooLong)
unfolding reading
too_long_lem file h =
    let rest = need (is_wave file) (Err NotWave) (walk 0 None 12 (drop 12 file)) in
    λ i. need (lt-leb (length file) most_bytes h i) (Err TooLong) rest

-- 12 bytes, a whole format, and a header
none_smaller : (file : List ℕ) (t : Take) → reading file ≡ Ok t → 44 ≤ length file
none_smaller file t e =
    let f = format_before file t e in
    omega (arith, come_far file f.chunks f.at None f.come, (supported_has _ f.right).room, f.before, data_room file t e)

smallest_read : reading smallest_file ≡ Ok (mono_take 44 0)
unfolding complete format_of supported walk reading
smallest_read = refl

-- ---- with zeros behind

zeros-length : (n : ℕ) (bytes : List ℕ) → length (with_zeros n bytes) ≡ length bytes + n
unfolding with_zeros
zeros-length n bytes = length-append bytes (replicate n 0) ∙ ap (λ (k : ℕ). length bytes + k) (length-replicate n 0)

zeros_too_long : (n : ℕ) (bytes : List ℕ) → most_bytes < length bytes + n → reading (with_zeros n bytes) ≡ (Err TooLong)
zeros_too_long n bytes h = too_long_lem (with_zeros n bytes) (omega (arith, zeros-length n bytes))

zeros_alike : (n : ℕ) → 44 + n ≤ most_bytes → reading (with_zeros n smallest_file) ≡ Ok (mono_take 44 0)
unfolding with_zeros
zeros_alike n h = (reads_alike smallest_file (with_zeros n smallest_file) (mono_take 44 0) smallest_read (omega (arith, zeros-length n smallest_file)) refl).0

pub take_examples : TakeExamples
unfolding complete format_of supported walk reading
take_examples = record {
  smallest = (refl, smallest_read);
  no_smaller = none_smaller;
  too_long = (zeros-length 1048533 smallest_file, zeros_too_long 1048533 smallest_file (omega arith));
  too_long_bare = (zeros-length 1048577 [], zeros_too_long 1048577 [] (omega arith));
  longest = (zeros-length 1048532 smallest_file, zeros_alike 1048532 (omega arith));
  not_wave = (refl, refl, refl);
  past_end = refl;
  no_format = (refl, refl);
  past_end_bare = refl;
  data_missing = (refl, refl);
  bad_format = (refl, refl, refl, refl, refl, refl, refl);
  bad_blocks = refl;
  past_end_bad = (refl, refl);
  first_refused = refl;
  later_format = refl;
  pad_byte = refl;
  floats = (refl, refl);
}
