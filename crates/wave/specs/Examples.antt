-- R11.18: files made of few pieces, and what is read of each.
use Rattle.std.specs.Prelude.{◌≡◌, List, [], ◌∷◌, ◌++◌, ℕ, ◌≤◌, length, take, replicate, Ok, Err}
use Rattle.wire.specs.Wire.{bytes_of}
use Rattle.wave.specs.declared.Take.{Take}
use Rattle.wave.specs.declared.ReadRefusal.TheVariants.{TooLong, NotWave, PastEnd, NoFormat, NoData, Unsupported}
use Rattle.wave.specs.Chunks.{riff_name, wave_name, format_name, data_name}
use Rattle.wave.specs.Reading.{reading, data_in}

-- ---- the pieces

-- R11.2's 12 bytes, with names of one's own choice, and then chunks
abbrev pub file_of : List ℕ → List ℕ → List ℕ → List ℕ
file_of riff form chunks = riff ++ (bytes_of 4 36 ++ (form ++ chunks))

abbrev pub wave_of : List ℕ → List ℕ
wave_of chunks = file_of riff_name wave_name chunks

-- a chunk whose header says a size, whatever its body has
abbrev pub chunk_of : List ℕ → ℕ → List ℕ → List ℕ
chunk_of name size body = name ++ (bytes_of 4 size ++ body)

-- a format of 16 bytes, at 48,000
abbrev pub format_body : ℕ → ℕ → ℕ → List ℕ
format_body tag channels width = bytes_of 2 tag ++ (bytes_of 2 channels ++ (bytes_of 4 48000 ++ (bytes_of 4 96000 ++ (bytes_of 2 2 ++ bytes_of 2 width))))

abbrev pub format_chunk : ℕ → ℕ → ℕ → List ℕ
format_chunk tag channels width = chunk_of format_name 16 (format_body tag channels width)

-- the table's `fmt` and `data`
abbrev pub mono_format : List ℕ
mono_format = format_chunk 1 1 16

abbrev pub empty_data : List ℕ
empty_data = chunk_of data_name 0 []

-- "RIFX", "AVI " and "LIST"
abbrev pub rifx_name : List ℕ
rifx_name = 82 ∷ 73 ∷ 70 ∷ 88 ∷ []

abbrev pub avi_name : List ℕ
avi_name = 65 ∷ 86 ∷ 73 ∷ 32 ∷ []

abbrev pub list_name : List ℕ
list_name = 76 ∷ 73 ∷ 83 ∷ 84 ∷ []

-- a take of the mono format, at 48,000
abbrev pub mono_take : ℕ → ℕ → Take
mono_take first len = record { format = record { rate = 48000; channels = 1; tag = 1 }; first = first; len = len }

-- a `fmt ` of tag 2, and a `data` of 3 bytes that runs past the end
abbrev pub tag_two : List ℕ
tag_two = format_chunk 2 1 16

abbrev pub cut_data : List ℕ
cut_data = chunk_of data_name 3 (0 ∷ 0 ∷ [])

-- bytes with so many zeros behind them
unfoldable pub with_zeros : ℕ → List ℕ → List ℕ
with_zeros n bytes = bytes ++ replicate n 0

-- `fmt` and `data`
abbrev pub smallest_file : List ℕ
smallest_file = wave_of (mono_format ++ empty_data)

-- one block of two floats, and what is read of it
abbrev pub float_bytes : List ℕ
float_bytes = bytes_of 4 1065353216 ++ bytes_of 4 3212836864

abbrev pub float_file : List ℕ
float_file = wave_of (format_chunk 3 2 32 ++ chunk_of data_name 8 float_bytes)

abbrev pub float_take : Take
float_take = record { format = record { rate = 48000; channels = 2; tag = 3 }; first = 44; len = 8 }

-- ---- the table

pub record TakeExamples : Type 0 where
  -- accepted, data at 44, 0 bytes: the smallest file that is
  pub smallest : (length smallest_file ≡ 44) × (reading smallest_file ≡ Ok (mono_take 44 0))
  pub no_smaller : (file : List ℕ) (t : Take) → reading file ≡ Ok t → 44 ≤ length file
  -- 1: a byte too many, with and without `RIFF`; with as many as there may be it is accepted
  pub too_long : (length (with_zeros 1048533 smallest_file) ≡ 1048577) × (reading (with_zeros 1048533 smallest_file) ≡ Err TooLong)
  pub too_long_bare : (length (with_zeros 1048577 []) ≡ 1048577) × (reading (with_zeros 1048577 []) ≡ Err TooLong)
  pub longest : (length (with_zeros 1048532 smallest_file) ≡ 1048576) × (reading (with_zeros 1048532 smallest_file) ≡ Ok (mono_take 44 0))
  -- 2: 11 bytes; `RIFX`; `AVI ` for `WAVE`
  pub not_wave : (reading (take 11 smallest_file) ≡ Err NotWave)
      × (reading (file_of rifx_name wave_name (mono_format ++ empty_data)) ≡ Err NotWave)
      × (reading (file_of riff_name avi_name (mono_format ++ empty_data)) ≡ Err NotWave)
  -- 3: a `LIST` past the end, before the data
  pub past_end : reading (wave_of (mono_format ++ (chunk_of list_name 9 empty_data))) ≡ Err (PastEnd 36)
  -- 4: `data` and no `fmt `; a `fmt ` behind the data
  pub no_format : (reading (wave_of empty_data) ≡ Err (NoFormat 12)) × (reading (wave_of (empty_data ++ mono_format)) ≡ Err (NoFormat 12))
  -- 3 before 4: a `data` past the end, and no `fmt `
  pub past_end_bare : reading (wave_of cut_data) ≡ Err (PastEnd 12)
  -- 5: `fmt` and nothing else; a chunk of 1 byte behind it with no pad byte
  pub data_missing : (reading (wave_of mono_format) ≡ Err NoData) × (reading (wave_of (mono_format ++ chunk_of list_name 1 (0 ∷ []))) ≡ Err NoData)
  -- 6: a `fmt ` of 14 bytes; of tag 2, 65,534 or 3 with a width of 16; of tag 1 with a width of 24; of 0 channels; of 17
  pub bad_format : (reading (wave_of (chunk_of format_name 14 (take 14 (format_body 1 1 16)) ++ empty_data)) ≡ Err (Unsupported 12))
      × (reading (wave_of (tag_two ++ empty_data)) ≡ Err (Unsupported 12))
      × (reading (wave_of (format_chunk 65534 1 16 ++ empty_data)) ≡ Err (Unsupported 12))
      × (reading (wave_of (format_chunk 3 1 16 ++ empty_data)) ≡ Err (Unsupported 12))
      × (reading (wave_of (format_chunk 1 1 24 ++ empty_data)) ≡ Err (Unsupported 12))
      × (reading (wave_of (format_chunk 1 0 16 ++ empty_data)) ≡ Err (Unsupported 12))
      × (reading (wave_of (format_chunk 1 17 16 ++ empty_data)) ≡ Err (Unsupported 12))
  -- 6: `fmt` of two channels, data of 6 bytes
  pub bad_blocks : reading (wave_of (format_chunk 1 2 16 ++ chunk_of data_name 6 (replicate 6 0))) ≡ Err (Unsupported 36)
  -- 3 before 6: a `fmt ` of tag 2 past the end; data of 3 bytes past the end behind `fmt`
  pub past_end_bad : (reading (wave_of (chunk_of format_name 17 (format_body 2 1 16))) ≡ Err (PastEnd 12)) × (reading (wave_of (mono_format ++ cut_data)) ≡ Err (PastEnd 36))
  -- the first chunk that is refused: a `fmt ` of tag 2, then a `data` past the end
  pub first_refused : reading (wave_of (tag_two ++ cut_data)) ≡ Err (Unsupported 12)
  -- accepted: `fmt`, a `fmt ` of tag 2, `data`
  pub later_format : reading (wave_of (mono_format ++ (tag_two ++ empty_data))) ≡ Ok (mono_take 68 0)
  -- accepted, data at 56: a `LIST` of 3 bytes and its pad byte, `fmt`, `data`
  pub pad_byte : reading (wave_of (chunk_of list_name 3 (replicate 4 0) ++ (mono_format ++ empty_data))) ≡ Ok (mono_take 56 0)
  -- accepted, data at 44, 8 bytes: two channels of floats, and the data as it stands there
  pub floats : (reading float_file ≡ Ok float_take) × (data_in float_file ≡ float_bytes)
