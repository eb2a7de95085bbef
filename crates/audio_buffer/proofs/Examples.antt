-- Requests with two faults, of which the first to be judged is given: they compute. Assumes nothing.
use mathlib.Core.Path.{refl}
use Rattle.audio_buffer.specs.Judges.{channels_ok, judged_buffer_then, ChannelOrder}

pub channel_order : ChannelOrder
unfolding judged_buffer_then channels_ok
channel_order = (refl, refl, refl)
