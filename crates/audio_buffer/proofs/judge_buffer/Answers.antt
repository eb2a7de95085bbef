-- `audio_buffer::judge_buffer` meets its contract: where the counts are in range their product fits. Assumes nothing.
use Rattle.std.specs.Prelude.{Err}
use native.Mathlib.Omega.{arith}
use mathlib.Core.Path.{refl, sym}
use mathlib.Core.Bool.{◌&&◌}
use Rattle.samples.specs.Answers.{Accepted}
use Rattle.samples.specs.declared.Refusal.TheVariants.{BadIndex}
use Rattle.samples.proofs.Laws.{needed}
use Rattle.audio_buffer.specs.Judges.{samples_ok}
use Rattle.audio_buffer.proofs.Laws.{counts_of}
use Rattle.audio_buffer.proofs.judge_buffer.Goals as goal

pub overflow_mul-channels : goal.overflow_mul-channels
overflow_mul-channels c =
    let a = c.args in
    let passed = (needed (c.channels_ok.result && samples_ok a.samples) (Err BadIndex) Accepted refl (sym c.in_ok-need.ensures)).0 in
    omega (arith, counts_of a.channels a.samples (rw c.channels_ok.ensures at passed))
