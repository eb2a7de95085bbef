-- R11.1 to R11.7: a RIFF/WAVE file as a list of bytes, its chunks and its format.
use Rattle.std.specs.Prelude.{Bool, true, false, cond, ◌&&◌, List, [], ◌∷◌, ℕ, ◌+◌, ◌*◌, ◌%◌, leb, eqb, length, take, drop, Option, Some, None}
use Rattle.wire.specs.Wire.{value_of}
use Rattle.wave.specs.declared.WaveFormat.{WaveFormat}

-- ---- names

-- R11.1: whether bytes begin with those of a name
abbrev pub begins : List ℕ → List ℕ → Bool
begins [] bytes = true
begins (c ∷ name) [] = false
begins (c ∷ name) (b ∷ bytes) = eqb b c && begins name bytes

-- "RIFF", "WAVE", "fmt " and "data"
abbrev pub riff_name : List ℕ
riff_name = 82 ∷ 73 ∷ 70 ∷ 70 ∷ []

abbrev pub wave_name : List ℕ
wave_name = 87 ∷ 65 ∷ 86 ∷ 69 ∷ []

abbrev pub format_name : List ℕ
format_name = 102 ∷ 109 ∷ 116 ∷ 32 ∷ []

abbrev pub data_name : List ℕ
data_name = 100 ∷ 97 ∷ 116 ∷ 97 ∷ []

-- ---- a chunk, given as the bytes from its place to the file's end

-- R11.1: the number of k bytes at a distance from there
abbrev pub number_at : ℕ → ℕ → List ℕ → ℕ
number_at k at chunk = value_of (take k (drop at chunk))

-- R11.3: how many bytes its body has, whether they all are there, and how far off the next chunk is
abbrev pub size_of : List ℕ → ℕ
size_of chunk = number_at 4 4 chunk

unfoldable pub complete : List ℕ → Bool
complete chunk = leb (8 + size_of chunk) (length chunk)

abbrev pub span_of : List ℕ → ℕ
span_of chunk = 8 + size_of chunk + size_of chunk % 2

-- ---- the format

-- R11.5: the format in a chunk, whose body begins behind the 8 bytes of the header
unfoldable pub format_of : List ℕ → WaveFormat
format_of chunk = record { rate = number_at 4 12 chunk; channels = number_at 2 10 chunk; tag = number_at 2 8 chunk }

-- R11.6: tag 1 wants 16 bits, tag 3 wants 32, and no other tag will do
abbrev pub tag_ok : ℕ → ℕ → Bool
tag_ok tag width = cond (eqb tag 1) (eqb width 16) (eqb tag 3 && eqb width 32)

-- R11.6: whether a format is supported
unfoldable pub supported : List ℕ → Bool
supported chunk =
    let f = format_of chunk in
    leb 16 (size_of chunk) && (leb 1 f.channels && leb f.channels 16 && tag_ok f.tag (number_at 2 22 chunk))

-- R11.5: whether a chunk is the first `fmt `, which alone counts
abbrev pub is_first : Option WaveFormat → List ℕ → Bool
is_first None chunk = begins format_name chunk
is_first (Some f) chunk = false

-- R11.5, R11.6: whether a chunk before the data is let by, and the format met after it
abbrev pub let_by : Option WaveFormat → List ℕ → Bool
let_by met chunk = cond (is_first met chunk) (supported chunk) true

abbrev pub met_after : Option WaveFormat → List ℕ → Option WaveFormat
met_after met chunk = cond (is_first met chunk) (Some (format_of chunk)) met

-- R11.7: the bytes of one sample, and those of a block
abbrev pub sample_bytes : ℕ → ℕ
sample_bytes tag = cond (eqb tag 1) 2 4

abbrev pub block_of : WaveFormat → ℕ
block_of f = f.channels * sample_bytes f.tag
