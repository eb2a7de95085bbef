-- Requests with two faults, of which the first to be judged is given: they compute. Assumes nothing.
use mathlib.Core.Path.{refl}
use Rattle.audio_buffer.specs.Judges.{channels_ok, judged_buffer_then}
use Rattle.levels.specs.Judges.{judged_downmix, DownmixOrder}

pub downmix_order : DownmixOrder
unfolding judged_downmix judged_buffer_then channels_ok
downmix_order = (refl, refl, refl)
