-- What stands behind the data changes nothing: a chunk is read from its own bytes, whatever stands behind them, and the walk comes to the same
-- places. Assumes nothing.
use Rattle.std.specs.Prelude.{Option, Some, None, Ok}
use Rattle.wave.specs.declared.WaveFormat.{WaveFormat}
use mathlib.Core.Path.{◌≡◌, refl, sym, ap, ◌∙◌}
use mathlib.Core.Bool.{Bool, true, false, cond, ◌&&◌}
use mathlib.Core.List.{List, [], ◌∷◌, ◌++◌}
use Prim.Native.Nat.{ℕ, zero, suc, ◌+◌, ◌-◌, ◌%◌, ◌≤◌}
use native.Mathlib.Nat.{not-suc-le-zero, le_of_suc-le-suc}
use native.Mathlib.Omega.{arith}
use lib.Dec.{leb, eqb}
use lib.ListN.{length, take, drop, length-append, length-drop, take-append-drop}
use lib.Seq.{take-append-le, drop-append-le, length-take-le}
use borrow.Author.Tests.{leb-true, le-leb}
use Rattle.samples.proofs.Lists.{in_front}
use Rattle.wire.specs.Wire.{value_of}
use Rattle.wave.specs.declared.Take.{Take}
use Rattle.wave.specs.Chunks.{begins, riff_name, wave_name, format_name, data_name, number_at, size_of, format_of, tag_ok, supported, let_by, met_after}
use Rattle.wave.specs.Reading.{most_bytes, is_wave, reading}
use Rattle.wave.specs.Promises.{Over, Come, AtData, ReadsAlike}
use Rattle.wave.proofs.Walking.{supported_has}
use Rattle.wave.proofs.Readings.{walk_decides, accepted, data_is, stretch_in_file, data_room}

-- ---- names and numbers

begins_front : (name front rest : List ℕ) → length name ≤ length front → begins name (front ++ rest) ≡ begins name front
begins_front [] front rest h = refl
begins_front (c ∷ name) [] rest h = absurd (not-suc-le-zero h)
begins_front (c ∷ name) (b ∷ front) rest h = ap (λ (t : Bool). eqb b c && t) (begins_front name front rest (le_of_suc-le-suc h))

number_front : (k at : ℕ) (front rest : List ℕ) → at + k ≤ length front → number_at k at (front ++ rest) ≡ number_at k at front
number_front k at front rest h =
    ap (λ (l : List ℕ). value_of (take k l)) (drop-append-le at front rest (omega arith))
    ∙ ap value_of (take-append-le k (drop at front) rest (omega (arith, length-drop at front)))

-- ---- a chunk

-- what a supported format says in a body that is long enough
abbrev right_of : List ℕ → Bool
right_of chunk =
    let f = format_of chunk in
    leb 1 f.channels && leb f.channels 16 && tag_ok f.tag (number_at 2 22 chunk)

module _ (front rest : List ℕ) where
  size_front : 8 ≤ length front → size_of (front ++ rest) ≡ size_of front
  size_front h = number_front 4 4 front rest h

  format_front : 24 ≤ length front → format_of (front ++ rest) ≡ format_of front
  unfolding format_of
  format_front h =
      λ i. record {
        rate = number_front 4 12 front rest (omega arith) i;
        channels = number_front 2 10 front rest (omega arith) i;
        tag = number_front 2 8 front rest (omega arith) i;
      }

  -- where the body is whole, with no more than it
  module _ (h : 8 ≤ length front) (w : 8 + size_of front ≤ length front) where
    supported_front : supported (front ++ rest) ≡ supported front
    unfolding supported
    supported_front = go (leb 16 (size_of front)) refl
      where
        go : (t : Bool) → leb 16 (size_of front) ≡ t → (leb 16 (size_of (front ++ rest)) && right_of (front ++ rest)) ≡ (leb 16 (size_of front) && right_of front)
        go false t = (λ i. (ap (leb 16) (size_front h) ∙ t) i && right_of (front ++ rest)) ∙ sym (λ i. t i && right_of front)
        go true t =
            let long : 24 ≤ length front = omega (arith, leb-true 16 (size_of front) t) in
            let f = format_front long in
            let width = number_front 2 22 front rest long in
            λ i. leb 16 (size_front h i) && (leb 1 (f i).channels && leb (f i).channels 16 && tag_ok (f i).tag (width i))

    let_by_front : (met : Option WaveFormat) → let_by met (front ++ rest) ≡ let_by met front
    let_by_front (Some f) = refl
    let_by_front None = λ i. cond (begins_front format_name front rest (omega arith) i) (supported_front i) true

    met_front : (met : Option WaveFormat) → let_by met front ≡ true → met_after met (front ++ rest) ≡ met_after met front
    met_front (Some f) r = refl
    met_front None r =
        ap (λ (t : Bool). cond t (Some (format_of (front ++ rest))) None) (begins_front format_name front rest (omega arith))
        ∙ go (begins format_name front) r
      where
        go : (t : Bool) → cond t (supported front) true ≡ true → cond t (Some (format_of (front ++ rest))) None ≡ cond t (Some (format_of front)) None
        go false r = refl
        go true r = ap Some (format_front (omega (arith, (supported_has front r).room)))

-- ---- the walk

-- a chunk whose header lies in a front
module _ (front : List ℕ) (at : ℕ) (h : at + 8 ≤ length front) where
  there : (rest : List ℕ) → drop at (front ++ rest) ≡ drop at front ++ rest
  there rest = drop-append-le at front rest (omega arith)

  eight : 8 ≤ length (drop at front)
  eight = omega (arith, length-drop at front)

  size_there : (rest : List ℕ) → size_of (drop at (front ++ rest)) ≡ size_of (drop at front)
  size_there rest = ap size_of (there rest) ∙ size_front (drop at front) rest eight

  name_there : (rest : List ℕ) → begins data_name (drop at (front ++ rest)) ≡ begins data_name (drop at front)
  name_there rest = ap (begins data_name) (there rest) ∙ begins_front data_name (drop at front) rest (omega (arith, eight))

module _ (front rest rest' : List ℕ) where
  -- a chunk that was passed over with one rest behind it is with another
  over_alike : (at next : ℕ) (met after : Option WaveFormat) → next ≤ length front
      → Over (front ++ rest) at met next after → Over (front ++ rest') at met next after
  over_alike at next met after far o =
      let chunk = drop at front in
      let h : at + 8 ≤ length front = omega (arith, o.on) in
      let long = eight front at h in
      let size = size_there front at h in
      let w : 8 + size_of chunk ≤ length chunk = omega (arith, o.on, size rest, length-drop at front) in
      let let_by_lem : (r : List ℕ) → let_by met (drop at (front ++ r)) ≡ let_by met chunk
      = λ r. ap (let_by met) (there front at h r) ∙ let_by_front chunk r long w met in
      let right = sym (let_by_lem rest) ∙ o.right in
      let met_there : (r : List ℕ) → met_after met (drop at (front ++ r)) ≡ met_after met chunk
      = λ r. ap (met_after met) (there front at h r) ∙ met_front chunk r long w met right in
      let same = size rest ∙ sym (size rest') in
      record {
        room = omega (arith, size rest', length-drop at front, length-append front rest');
        other = name_there front at h rest' ∙ sym (name_there front at h rest) ∙ o.other;
        right = let_by_lem rest' ∙ right;
        on = o.on ∙ ap (λ (n : ℕ). at + (8 + n + n % 2)) same;
        format = o.format ∙ met_there rest ∙ sym (met_there rest');
      }

  come_alike : (k at : ℕ) (met : Option WaveFormat) → at ≤ length front → Come (front ++ rest) k at met → Come (front ++ rest') k at met
  come_alike zero at met far c = c
  come_alike (suc k) at met far (before, m, (c, o)) =
      (before, m, (come_alike k before m (omega (arith, o.on)) c, over_alike before at m met far o))

-- ---- the file

wave_front : (front rest : List ℕ) → 12 ≤ length front → is_wave (front ++ rest) ≡ (begins riff_name front && begins wave_name (drop 8 front))
wave_front front rest h =
    let long = le-leb 12 (length (front ++ rest)) (omega (arith, length-append front rest)) in
    let riff = begins_front riff_name front rest (omega arith) in
    let wave
    = ap (begins wave_name) (drop-append-le 8 front rest (omega arith))
    ∙ begins_front wave_name (drop 8 front) rest (omega (arith, length-drop 8 front)) in
    λ i. long i && (riff i && wave i)

-- a front that reaches the data's end decides
taken_alike : (front rest rest' : List ℕ) (t : Take) → t.first + t.len ≤ length front → length (front ++ rest') ≤ most_bytes
    → reading (front ++ rest) ≡ Ok t → reading (front ++ rest') ≡ Ok t
taken_alike front rest rest' t far fits e =
    let d = stretch_in_file (front ++ rest) t e in
    let at = t.first - 8 in
    let met = Some t.format in
    let h : at + 8 ≤ length front = omega (arith, d.behind) in
    let size = size_there front at h in
    let wave = wave_front front rest' (omega (arith, d.behind)) ∙ sym (wave_front front rest (omega (arith, d.behind)))
    ∙ (accepted (front ++ rest) t e).1 in
    let come = come_alike front rest rest' d.chunks at met (omega arith) d.come in
    let header : AtData (front ++ rest') at = record {
      room = omega (arith, size rest, size rest', length-append front rest', d.behind);
      named = name_there front at h rest' ∙ sym (name_there front at h rest) ∙ d.header.named;
    } in
    let first : t.first ≡ at + 8 = omega (arith, d.behind) in
    let len = sym (size rest' ∙ sym (size rest) ∙ d.long) in
    walk_decides (front ++ rest') fits wave d.chunks at met (Ok t) come (header, (refl, (first, (len, d.blocks))))

pub reads_alike : ReadsAlike
reads_alike file other t e fits same =
    let n = t.first + t.len in
    let front = take n file in
    let long : length front ≡ n = length-take-le n file (data_room file t e) in
    let this : front ++ drop n file ≡ file = take-append-drop n file in
    let that : front ++ drop n other ≡ other = ap (λ (l : List ℕ). l ++ drop n other) (sym same) ∙ take-append-drop n other in
    let read : reading other ≡ Ok t
    = ap reading (sym that) ∙ taken_alike front (drop n file) (drop n other) t (omega arith) (rw that fits) (ap reading this ∙ e) in
    let part : (l : List ℕ) → take t.len (drop t.first (take n l)) ≡ take t.len (drop t.first l)
    = λ l. in_front t.first l t.len n (omega arith) in (
      read,
      data_is other t read ∙ sym (part other) ∙ ap (λ (l : List ℕ). take t.len (drop t.first l)) same ∙ part file ∙ sym (data_is file t e),
    )
