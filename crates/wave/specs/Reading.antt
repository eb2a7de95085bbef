-- R11.4, R11.8 to R11.12: the walk over a file's chunks, what is read of it, and the stretch that is handed out.
use Rattle.std.specs.Prelude.{Bool, ◌&&◌, cond, List, [], ◌∷◌, ℕ, zero, suc, ◌+◌, ◌-◌, ◌%◌, leb, eqb, length, take, drop, Option, Some, None, Result, Ok, Err}
use Rattle.samples.specs.Answers.{need}
use Rattle.wave.specs.declared.WaveFormat.{WaveFormat}
use Rattle.wave.specs.declared.Take.{Take}
use Rattle.wave.specs.declared.ReadRefusal.{ReadRefusal}
use Rattle.wave.specs.declared.ReadRefusal.TheVariants.{TooLong, NotWave, PastEnd, NoFormat, NoData, Unsupported}
use Rattle.wave.specs.Chunks.{begins, riff_name, wave_name, data_name, size_of, complete, span_of, let_by, met_after, block_of}

-- R11.8: what is read of a file: a take, or why there is none
abbrev pub Reading : Type 0
Reading = Result Take ReadRefusal

-- R11.7, R11.11: data of so many bytes at a place, with the format met before it
abbrev pub data_read : Option WaveFormat → ℕ → ℕ → Reading
data_read None at size = Err (NoFormat at)
data_read (Some f) at size = need (eqb (size % block_of f) 0) (Err (Unsupported at)) (Ok (record { format = f; first = at + 8; len = size }))

-- R11.3, R11.4, R11.9: the walk over the bytes from place `at` on, the first `skip` of which still belong to the chunk before, with the format met
-- so far. It ends at the first `data` or where it can't go on; of a chunk that is let by the first byte is this one, and the rest is to skip
unfoldable pub walk : ℕ → Option WaveFormat → ℕ → List ℕ → Reading
walk skip met at [] = Err NoData
walk (suc skip) met at (b ∷ bytes) = walk skip met (suc at) bytes
walk zero met at (b ∷ bytes) =
    let chunk = b ∷ bytes in
    need (leb 8 (length chunk)) (Err NoData)
    (need (complete chunk) (Err (PastEnd at))
    (cond (begins data_name chunk) (data_read met at (size_of chunk))
    (need (let_by met chunk) (Err (Unsupported at))
    (walk (span_of chunk - 1) (met_after met chunk) (suc at) bytes))))

-- R11.1, R11.2
abbrev pub most_bytes : ℕ
most_bytes = 1048576

abbrev pub is_wave : List ℕ → Bool
is_wave file = leb 12 (length file) && (begins riff_name file && begins wave_name (drop 8 file))

-- R11.8: what is read of a file
unfoldable pub reading : List ℕ → Reading
reading file = need (leb (length file) most_bytes) (Err TooLong) (need (is_wave file) (Err NotWave) (walk 0 None 12 (drop 12 file)))

-- R11.8: its number and its place
abbrev pub read_number : Reading → ℕ
read_number (Ok t) = 0
read_number (Err TooLong) = 1
read_number (Err NotWave) = 2
read_number (Err (PastEnd at)) = 3
read_number (Err (NoFormat at)) = 4
read_number (Err NoData) = 5
read_number (Err (Unsupported at)) = 6

abbrev pub read_place : Reading → ℕ
read_place (Ok t) = 0
read_place (Err TooLong) = 0
read_place (Err NotWave) = 0
read_place (Err (PastEnd at)) = at
read_place (Err (NoFormat at)) = at
read_place (Err NoData) = 0
read_place (Err (Unsupported at)) = at

-- R11.11: the take, which is all 0 where there is none
abbrev pub no_take : Take
no_take = record { format = record { rate = 0; channels = 0; tag = 0 }; first = 0; len = 0 }

abbrev pub take_of : Reading → Take
take_of (Ok t) = t
take_of (Err TooLong) = no_take
take_of (Err NotWave) = no_take
take_of (Err (PastEnd at)) = no_take
take_of (Err (NoFormat at)) = no_take
take_of (Err NoData) = no_take
take_of (Err (Unsupported at)) = no_take

-- R11.12: the data, a stretch of the file
abbrev pub data_in : List ℕ → List ℕ
data_in file = let t = take_of (reading file) in take t.len (drop t.first file)
