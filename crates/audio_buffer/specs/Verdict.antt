-- What a count of frames says of the tail.
use Rattle.std.specs.Prelude.{zero, suc, ℤ, pos, negsuc}
use Rattle.audio_buffer.specs.declared.AudioEffectState.{AudioEffectState}
use Rattle.audio_buffer.specs.declared.AudioEffectState.TheVariants.{TailRemaining, TailComplete}

-- R4.22: the verdict of a count
abbrev pub verdict_of : ℤ → AudioEffectState
verdict_of (pos (suc n)) = TailRemaining
verdict_of (pos zero) = TailComplete
verdict_of (negsuc n) = TailComplete
