-- R11.3, R11.4, R11.8, R11.9, R11.12, R11.13, R11.15 to R11.17: what follows for every file, and for every sample of 16 bits.
use Rattle.std.specs.Prelude.{◌≡◌, true, false, ◌⊎◌, List, [], ℕ, zero, suc, ◌+◌, ◌-◌, ◌%◌, ◌≤◌, ◌<◌, length, take, drop, Option, Some, None, Ok, Err}
use Rattle.std.specs.Float.Ieee.Exact.{HasValue}
use Rattle.wave.specs.declared.Take.{Take}
use Rattle.wave.specs.declared.WaveFormat.{WaveFormat}
use Rattle.wave.specs.declared.ReadRefusal.TheVariants.{TooLong, NotWave, PastEnd, NoFormat, NoData, Unsupported}
use Rattle.wave.specs.Chunks.{begins, format_name, data_name, size_of, span_of, format_of, supported, is_first, let_by, met_after, block_of}
use Rattle.wave.specs.Reading.{Reading, most_bytes, is_wave, reading, read_number, no_take, take_of, data_in}
use Rattle.wave.specs.Floats.{short_sample}

-- ---- the walk, chunk by chunk

-- R11.3: all bytes of the chunk at a place are there
abbrev pub AllThere : List ℕ → ℕ → Type 0
AllThere file at = at + (8 + size_of (drop at file)) ≤ length file

-- R11.3, R11.4: a chunk that is all there is passed over, and the next begins at `next` with the format met then
pub record Over (file : List ℕ) (at : ℕ) (met : Option WaveFormat) (next : ℕ) (after : Option WaveFormat) : Type 0 where
  pub room : AllThere file at
  pub other : begins data_name (drop at file) ≡ false
  pub right : let_by met (drop at file) ≡ true
  pub on : next ≡ at + span_of (drop at file)
  pub format : after ≡ met_after met (drop at file)

-- R11.4: the walk comes to a place behind k chunks, with the format met so far
abbrev pub Come : List ℕ → ℕ → ℕ → Option WaveFormat → Type 0
Come file zero at met = (at ≡ 12) × (met ≡ None)
Come file (suc k) at met = (before : ℕ) × (m : Option WaveFormat) × (Come file k before m × Over file before m at met)

-- R11.4: a `data` chunk that is all there
pub record AtData (file : List ℕ) (at : ℕ) : Type 0 where
  pub room : AllThere file at
  pub named : begins data_name (drop at file) ≡ true

-- R11.6, R11.7: data that isn't whole blocks of the format met, and a first format that isn't supported
pub record BadData (file : List ℕ) (at : ℕ) (met : Option WaveFormat) : Type 0 where
  pub header : AtData file at
  pub own : WaveFormat
  pub format : met ≡ Some own
  pub parts : size_of (drop at file) % block_of own ≡ 0 → ⊥

pub record BadFormat (file : List ℕ) (at : ℕ) (met : Option WaveFormat) : Type 0 where
  pub room : AllThere file at
  pub first : is_first met (drop at file) ≡ true
  pub wrong : supported (drop at file) ≡ false

-- R11.8: why the walk ends at a place, with the format met so far, by what is read
abbrev pub Ends : List ℕ → ℕ → Option WaveFormat → Reading → Type 0
Ends file at met (Err TooLong) = ⊥
Ends file at met (Err NotWave) = ⊥
Ends file at met (Err (PastEnd place)) = (place ≡ at) × ((at + 8 ≤ length file) × (length file < at + (8 + size_of (drop at file))))
Ends file at met (Err (NoFormat place)) = (place ≡ at) × (AtData file at × (met ≡ None))
Ends file at met (Err NoData) = length file < at + 8
Ends file at met (Err (Unsupported place)) = (place ≡ at) × (BadData file at met ⊎ BadFormat file at met)
Ends file at met (Ok t) = AtData file at × ((met ≡ Some t.format) × ((t.first ≡ at + 8) × ((t.len ≡ size_of (drop at file)) × (t.len % block_of t.format ≡ 0))))

-- R11.4, R11.8, R11.9: a file that is not too long and begins as it should is read as it is for a reason that stands at a place to which the walk comes
abbrev pub WalkEnds : Type 0
WalkEnds =
    (file : List ℕ) → length file ≤ most_bytes → is_wave file ≡ true
    → (k : ℕ) × (at : ℕ) × (met : Option WaveFormat) × (Come file k at met × Ends file at met (reading file))

-- R11.8, R11.9: and such a reason leaves nothing else to be read
abbrev pub WalkDecides : Type 0
WalkDecides =
    (file : List ℕ) → length file ≤ most_bytes → is_wave file ≡ true
    → (k at : ℕ) (met : Option WaveFormat) (r : Reading) → Come file k at met → Ends file at met r → reading file ≡ r

-- ---- what is handed out

-- R11.8, R11.12: where a file is refused there is no take, and the stretch is empty
abbrev pub RefusedEmpty : Type 0
RefusedEmpty = (file : List ℕ) → 1 ≤ read_number (reading file) → (take_of (reading file) ≡ no_take) × (data_in file ≡ [])

-- R11.15: the stretch lies in the file, behind the header of a data chunk to which the walk comes, and is whole blocks
pub record InFile (file : List ℕ) (t : Take) : Type 0 where
  pub chunks : ℕ
  pub come : Come file chunks (t.first - 8) (Some t.format)
  pub header : AtData file (t.first - 8)
  pub behind : 20 ≤ t.first
  pub long : size_of (drop (t.first - 8) file) ≡ t.len
  pub blocks : t.len % block_of t.format ≡ 0
  pub handed : length (data_in file) ≡ t.len

abbrev pub StretchInFile : Type 0
StretchInFile = (file : List ℕ) (t : Take) → reading file ≡ Ok t → InFile file t

-- R11.16: the walk came by a supported format before, with none met so far, and it is the take's
pub record Formatted (file : List ℕ) (t : Take) : Type 0 where
  pub chunks : ℕ
  pub at : ℕ
  pub come : Come file chunks at None
  pub named : begins format_name (drop at file) ≡ true
  pub right : supported (drop at file) ≡ true
  pub own : format_of (drop at file) ≡ t.format
  pub before : at + span_of (drop at file) + 8 ≤ t.first

abbrev pub FormatBefore : Type 0
FormatBefore = (file : List ℕ) (t : Take) → reading file ≡ Ok t → Formatted file t

-- R11.17: what stands behind the data changes nothing
abbrev pub ReadsAlike : Type 0
ReadsAlike =
    (file other : List ℕ) (t : Take) → reading file ≡ Ok t → length other ≤ most_bytes
    → take (t.first + t.len) other ≡ take (t.first + t.len) file → (reading other ≡ Ok t) × (data_in other ≡ data_in file)

-- R11.13: the division is exact: 16 bits that stand for n have the value n / 32,768, and those that stand for -n have -n / 32,768
abbrev pub ShortExact : Type 0
ShortExact =
    ((n : ℕ) → n < 32768 → HasValue (short_sample n) false n 32768)
    × ((n : ℕ) → 0 < n → n ≤ 32768 → HasValue (short_sample (65536 - n)) true n 32768)
