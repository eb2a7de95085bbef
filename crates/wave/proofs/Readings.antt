-- What is known of what is read: why the walk ended, and that such a reason decides, that a refusal hands out nothing, where an accepted
-- file's data lies, and that a supported format stands before it. Assumes nothing.
use Rattle.std.specs.Prelude.{Some, None, Ok, Err}
use mathlib.Core.Path.{◌≡◌, refl, sym, ap, ◌∙◌, subst, subst₂}
use mathlib.Core.Bool.{Bool, true, false, cond}
use mathlib.Core.List.{List}
use Prim.Native.Nat.{ℕ, zero, suc, ◌+◌, ◌-◌, ◌≤◌}
use native.Mathlib.Omega.{arith}
use lib.Dec.{leb}
use lib.ListN.{length, take, drop}
use borrow.Author.Tests.{leb-true, le-leb}
use Rattle.samples.specs.Answers.{need}
use Rattle.samples.proofs.Lists.{part_long}
use Rattle.wave.specs.declared.Take.{Take}
use Rattle.wave.specs.declared.ReadRefusal.{ReadRefusal}
use Rattle.wave.specs.declared.ReadRefusal.TheVariants.{TooLong, NotWave, PastEnd, NoFormat, NoData, Unsupported}
use Rattle.wave.specs.Chunks.{begins, format_name, size_of, format_of, supported}
use Rattle.wave.specs.Reading.{Reading, walk, is_wave, most_bytes, reading, read_number, no_take, take_of, data_in}
use Rattle.wave.specs.Promises.{Come, AtData, WalkEnds, WalkDecides, RefusedEmpty, InFile, StretchInFile, Formatted, FormatBefore}
use Rattle.wave.proofs.Walking.{come_far, Ended, ends, come_walk, ends-walk}

-- ---- R11.4, R11.8, R11.9

-- what is read of a file that isn't too long and begins as it should is the walk's
walk-read : (file : List ℕ) → length file ≤ most_bytes → is_wave file ≡ true → reading file ≡ walk 0 None 12 (drop 12 file)
unfolding reading
walk-read file fits wave = λ i. need (le-leb (length file) most_bytes fits i) (Err TooLong) (need (wave i) (Err NotWave) (walk 0 None 12 (drop 12 file)))

pub walk_ends : WalkEnds
walk_ends file fits wave = subst (Ended file) (sym (walk-read file fits wave)) (ends file (length file) 0 12 None (omega arith) (refl, refl))

pub walk_decides : WalkDecides
walk_decides file fits wave k at met r come end = walk-read file fits wave ∙ come_walk file k at met come ∙ ends-walk file at met r end

-- ---- R11.8, R11.12

refused_take : (why : ReadRefusal) → take_of (Err why) ≡ no_take
refused_take TooLong = refl
refused_take NotWave = refl
refused_take (PastEnd at) = refl
refused_take (NoFormat at) = refl
refused_take NoData = refl
refused_take (Unsupported at) = refl

pub refused_empty : RefusedEmpty
refused_empty file h = (go (reading file) h, ap (λ (t : Take). take t.len (drop t.first file)) (go (reading file) h))
  where
    go : (r : Reading) → 1 ≤ read_number r → take_of r ≡ no_take
    go (Ok t) h = absurd (omega arith)
    go (Err why) h = refused_take why

-- ---- R11.15

-- a refusal is no take
refused : (r : Reading) (t : Take) → 1 ≤ read_number r → r ≡ Ok t → ⊥
refused r t h e = let z = ap read_number e in omega arith

-- a file that is accepted isn't too long and begins as it should
pub accepted : (file : List ℕ) (t : Take) → reading file ≡ Ok t → (length file ≤ most_bytes) × (is_wave file ≡ true)
unfolding reading
accepted file t e = go (leb (length file) most_bytes) (is_wave file) refl refl e
  where
    go : (fits wave : Bool) → leb (length file) most_bytes ≡ fits → is_wave file ≡ wave
        → need fits (Err TooLong) (need wave (Err NotWave) (walk 0 None 12 (drop 12 file))) ≡ Ok t → (length file ≤ most_bytes) × (is_wave file ≡ true)
    go false wave f w e = absurd (refused (Err TooLong) t (omega arith) e)
    go true false f w e = absurd (refused (Err NotWave) t (omega arith) e)
    go true true f w e = (leb-true (length file) most_bytes f, w)

pub data_is : (file : List ℕ) (t : Take) → reading file ≡ Ok t → data_in file ≡ take t.len (drop t.first file)
data_is file t e = rw e refl

pub stretch_in_file : StretchInFile
stretch_in_file file t e = go (subst (Ended file) e (walk_ends file (accepted file t e).0 (accepted file t e).1))
  where
    go : Ended file (Ok t) → InFile file t
    go (k, at, met, (come, (d, (m, (first, (len, blocks)))))) =
        let there : at ≡ t.first - 8 = omega arith in
        record {
          chunks = k;
          come = subst₂ (Come file k) there m come;
          header = subst (AtData file) there d;
          behind = omega (arith, come_far file k at met come);
          long = ap (λ (n : ℕ). size_of (drop n file)) (sym there) ∙ sym len;
          blocks = blocks;
          handed = ap length (data_is file t e) ∙ part_long t.first file t.len (omega (arith, d.room));
        }

-- the data lies in the file
pub data_room : (file : List ℕ) (t : Take) → reading file ≡ Ok t → t.first + t.len ≤ length file
data_room file t e = let d = stretch_in_file file t e in omega (arith, d.header.room, d.long, d.behind)

-- and so does what is handed out, be it a take or none
pub take_room : (file : List ℕ) → (take_of (reading file)).first + (take_of (reading file)).len ≤ length file
take_room file = go (reading file) refl
  where
    go : (r : Reading) → reading file ≡ r → (take_of r).first + (take_of r).len ≤ length file
    go (Ok t) e = data_room file t e
    go (Err why) e = rw (refused_take why) (omega arith)

-- ---- R11.16

-- a format that was met was met at a chunk
met_before : (file : List ℕ) (t : Take) (k at : ℕ) → at + 8 ≤ t.first → Come file k at (Some t.format) → Formatted file t
met_before file t zero at h (e, m) = cc
met_before file t (suc k) at h (before, Some f, (c, o)) =
    met_before file t k before (omega (arith, o.on)) (subst (Come file k before) (sym o.format) c)
met_before file t (suc k) at h (before, None, (c, o)) = go (begins format_name (drop before file)) refl o.right o.format
  where
    go : (first : Bool) → begins format_name (drop before file) ≡ first → cond first (supported (drop before file)) true ≡ true
        → Some t.format ≡ cond first (Some (format_of (drop before file))) None → Formatted file t
    go false f r m = cc
    go true f r m = record { chunks = k; at = before; come = c; named = f; right = r; own = cc; before = omega (arith, o.on) }

pub format_before : FormatBefore
format_before file t e =
    let d = stretch_in_file file t e in
    met_before file t d.chunks (t.first - 8) (omega (arith, d.behind)) d.come
