-- What the buffer helpers refuse (R7.10 to R7.13).
use Rattle.std.specs.Prelude.{◌≡◌, Bool, ◌&&◌, ℕ, ◌*◌, leb, ltb, eqb, Err}
use Rattle.samples.specs.declared.Refusal.TheVariants.{BadLength, BadIndex}
use Rattle.samples.specs.Answers.{Answer, Accepted, need}

-- R1.5: how many channels, and how many samples in each
unfoldable pub channels_ok : ℕ → Bool
channels_ok channels = leb 1 channels && leb channels 16

abbrev pub samples_ok : ℕ → Bool
samples_ok samples = leb samples 65536

-- R7.10, R7.11: a slice that is to hold so many channels, before what `rest` judges. 4 for the counts comes before 3 for the length, which
-- is no number where a count is bad (R2.5)
unfoldable pub judged_buffer_then : ℕ → ℕ → ℕ → Answer → Answer
judged_buffer_then channels samples len rest =
    need (channels_ok channels && samples_ok samples) (Err BadIndex) (need (eqb len (channels * samples)) (Err BadLength) rest)

-- a call that is lent two buffers
abbrev pub judged_two : ℕ → ℕ → ℕ → ℕ → Answer
judged_two channels samples len other = judged_buffer_then channels samples len (judged_buffer_then channels samples other Accepted)

-- R7.13: the channel, 4 after 3
abbrev pub judged_channel : ℕ → ℕ → ℕ → ℕ → Answer
judged_channel channels samples channel len = judged_buffer_then channels samples len (need (ltb channel channels) (Err BadIndex) Accepted)

-- R7.13: of two faults the one that is judged first, at three requests
abbrev pub ChannelOrder : Type 0
ChannelOrder = (judged_channel 17 3 17 0 ≡ Err BadIndex) × (judged_channel 2 3 2 7 ≡ Err BadLength) × (judged_channel 2 3 2 6 ≡ Err BadIndex)
