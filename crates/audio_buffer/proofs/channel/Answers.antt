-- `audio_buffer::channel` meets its contract: the channel lies within the buffer. Assumes nothing.
use native.Mathlib.Omega.{arith}
use mathlib.Core.Path.{sym}
use Rattle.audio_buffer.proofs.Laws.{channel_of}
use Rattle.audio_buffer.proofs.channel.Goals as goal

pub overflow_mul-at : goal.overflow_mul-at
overflow_mul-at c = omega (arith, channel_of _ _ _ _ (sym c.in-Ok.ensures))

pub overflow_add-result : goal.overflow_add-result
overflow_add-result c = omega (arith, channel_of _ _ _ _ (sym c.in-Ok.ensures))

pub offset_bounds-buffer-at : goal.offset_bounds-buffer-at
offset_bounds-buffer-at c = omega (arith, channel_of _ _ _ _ (sym c.in-Ok.ensures))

pub slice_bounds-result-end : goal.slice_bounds-result-end
slice_bounds-result-end c = omega (arith, channel_of _ _ _ _ (sym c.in-Ok.ensures))
