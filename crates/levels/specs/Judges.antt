-- What a call that is lent one buffer refuses, and a downmix.
use Rattle.std.specs.Prelude.{◌≡◌, ℕ, eqb, Err}
use Rattle.samples.specs.declared.Refusal.TheVariants.{BadLength, BadIndex}
use Rattle.samples.specs.Answers.{Answer, Accepted, need}
use Rattle.audio_buffer.specs.Judges.{samples_ok, judged_buffer_then}

-- R7.10, R7.11: a call that is lent one buffer
abbrev pub judged_one : ℕ → ℕ → ℕ → Answer
judged_one channels samples len = judged_buffer_then channels samples len Accepted

-- R7.12: downmix. The output's length goes by the samples alone, so it is judged before the channels
unfoldable pub judged_downmix : ℕ → ℕ → ℕ → ℕ → Answer
judged_downmix channels samples len output =
    need (samples_ok samples) (Err BadIndex) (need (eqb output samples) (Err BadLength) (judged_buffer_then channels samples len Accepted))

-- of two faults the one that is judged first, at three requests
abbrev pub DownmixOrder : Type 0
DownmixOrder = (judged_downmix 17 65537 0 0 ≡ Err BadIndex) × (judged_downmix 17 4 0 5 ≡ Err BadLength) × (judged_downmix 17 4 0 4 ≡ Err BadIndex)
