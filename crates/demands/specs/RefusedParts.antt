-- "A refusal changes nothing" (R8.4), of the calls of the parts: where a call's own contract allows a refusal, each lent slice holds at exit what
-- it held at entry, and the cursors given come back. A record a crate; a field is named after the call and what stays.
use Rattle.demands.specs.Determined.{Unchanged}
use Rattle.delay.proofs.fresh.Kinds as delay-fresh-kinds
use Rattle.delay.proofs.fresh.Reads as delay-fresh-reads
use Rattle.delay.proofs.reset.Kinds as delay-reset-kinds
use Rattle.delay.proofs.reset.Reads as delay-reset-reads
use Rattle.delay.proofs.get.Kinds as delay-get-kinds
use Rattle.delay.proofs.get.Reads as delay-get-reads
use Rattle.delay.proofs.put.Kinds as delay-put-kinds
use Rattle.delay.proofs.put.Reads as delay-put-reads
use Rattle.delay.proofs.get4.Kinds as delay-get4-kinds
use Rattle.delay.proofs.get4.Reads as delay-get4-reads
use Rattle.delay.proofs.put4.Kinds as delay-put4-kinds
use Rattle.delay.proofs.put4.Reads as delay-put4-reads
use Rattle.hadamard.proofs.mix_sample.Kinds as hadamard-mix-sample-kinds
use Rattle.hadamard.proofs.mix_sample.Reads as hadamard-mix-sample-reads
use Rattle.mixer.proofs.mix_rows.Kinds as mixer-mix-rows-kinds
use Rattle.mixer.proofs.mix_rows.Reads as mixer-mix-rows-reads
use Rattle.primes.proofs.delay_values.Kinds as primes-delay-values-kinds
use Rattle.primes.proofs.delay_values.Reads as primes-delay-values-reads
use Rattle.audio_buffer.proofs.write_interleaved.Kinds as audio-buffer-write-interleaved-kinds
use Rattle.audio_buffer.proofs.write_interleaved.Reads as audio-buffer-write-interleaved-reads
use Rattle.audio_buffer.proofs.read_interleaved.Kinds as audio-buffer-read-interleaved-kinds
use Rattle.audio_buffer.proofs.read_interleaved.Reads as audio-buffer-read-interleaved-reads
use Rattle.levels.proofs.make_silent.Kinds as levels-make-silent-kinds
use Rattle.levels.proofs.make_silent.Reads as levels-make-silent-reads
use Rattle.levels.proofs.scale.Kinds as levels-scale-kinds
use Rattle.levels.proofs.scale.Reads as levels-scale-reads
use Rattle.levels.proofs.mix.Kinds as levels-mix-kinds
use Rattle.levels.proofs.mix.Reads as levels-mix-reads
use Rattle.levels.proofs.downmix.Kinds as levels-downmix-kinds
use Rattle.levels.proofs.downmix.Reads as levels-downmix-reads

pub record DelayUnchanged : Type 0 where
  pub fresh_ring : Unchanged 1 delay-fresh-kinds.ps delay-fresh-kinds.r delay-fresh-reads.Post (λ κs x. x.answer) (λ κs x s. s.0.now) (λ κs a. a.0.now)
  pub reset_ring : Unchanged 1 delay-reset-kinds.ps delay-reset-kinds.r delay-reset-reads.Post (λ κs x. x.answer) (λ κs x s. s.0.now) (λ κs a. a.0.now)
  pub reset_cursors : Unchanged 1 delay-reset-kinds.ps delay-reset-kinds.r delay-reset-reads.Post (λ κs x. x.answer) (λ κs x s. x.cursors) (λ κs a. a.1.0)
  pub get_out : Unchanged 2 delay-get-kinds.ps delay-get-kinds.r delay-get-reads.Post (λ κs x. x.answer) (λ κs x s. s.1.1.0.now) (λ κs a. a.1.1.0.now)
  pub get_cursors : Unchanged 2 delay-get-kinds.ps delay-get-kinds.r delay-get-reads.Post (λ κs x. x.answer) (λ κs x s. x.cursors) (λ κs a. a.1.0)
  pub put_ring : Unchanged 2 delay-put-kinds.ps delay-put-kinds.r delay-put-reads.Post (λ κs x. x.answer) (λ κs x s. s.0.now) (λ κs a. a.0.now)
  pub put_cursors : Unchanged 2 delay-put-kinds.ps delay-put-kinds.r delay-put-reads.Post (λ κs x. x.answer) (λ κs x s. x.cursors) (λ κs a. a.1.0)
  pub get4_cursors : Unchanged 1 delay-get4-kinds.ps delay-get4-kinds.r delay-get4-reads.Post (λ κs x. x.answer) (λ κs x s. x.cursors) (λ κs a. a.1.0)
  pub put4_ring : Unchanged 1 delay-put4-kinds.ps delay-put4-kinds.r delay-put4-reads.Post (λ κs x. x.answer) (λ κs x s. s.0.now) (λ κs a. a.0.now)
  pub put4_cursors : Unchanged 1 delay-put4-kinds.ps delay-put4-kinds.r delay-put4-reads.Post (λ κs x. x.answer) (λ κs x s. x.cursors) (λ κs a. a.1.0)

pub record HadamardUnchanged : Type 0 where
  pub mix_sample_y : Unchanged 2 hadamard-mix-sample-kinds.ps hadamard-mix-sample-kinds.r hadamard-mix-sample-reads.Post (λ κs x. x) (λ κs x s. s.1.0.now) (λ κs a. a.1.0.now)

pub record MixerUnchanged : Type 0 where
  pub mix_rows_rows : Unchanged 1 mixer-mix-rows-kinds.ps mixer-mix-rows-kinds.r mixer-mix-rows-reads.Post (λ κs x. x) (λ κs x s. s.1.1.0.now) (λ κs a. a.1.1.0.now)

pub record PrimesUnchanged : Type 0 where
  pub delay_values_out : Unchanged 2 primes-delay-values-kinds.ps primes-delay-values-kinds.r primes-delay-values-reads.Post (λ κs x. x) (λ κs x s. s.1.1.1.0.now) (λ κs a. a.1.1.1.0.now)

pub record AudioBufferUnchanged : Type 0 where
  pub write_interleaved_target : Unchanged 2 audio-buffer-write-interleaved-kinds.ps audio-buffer-write-interleaved-kinds.r audio-buffer-write-interleaved-reads.Post (λ κs x. x) (λ κs x s. s.1.1.1.0.now) (λ κs a. a.1.1.1.0.now)
  pub read_interleaved_buffer : Unchanged 2 audio-buffer-read-interleaved-kinds.ps audio-buffer-read-interleaved-kinds.r audio-buffer-read-interleaved-reads.Post (λ κs x. x) (λ κs x s. s.1.1.1.0.now) (λ κs a. a.1.1.1.0.now)

pub record LevelsUnchanged : Type 0 where
  pub make_silent_buffer : Unchanged 1 levels-make-silent-kinds.ps levels-make-silent-kinds.r levels-make-silent-reads.Post (λ κs x. x) (λ κs x s. s.1.1.0.now) (λ κs a. a.1.1.0.now)
  pub scale_buffer : Unchanged 1 levels-scale-kinds.ps levels-scale-kinds.r levels-scale-reads.Post (λ κs x. x) (λ κs x s. s.1.1.1.0.now) (λ κs a. a.1.1.1.0.now)
  pub mix_other : Unchanged 2 levels-mix-kinds.ps levels-mix-kinds.r levels-mix-reads.Post (λ κs x. x) (λ κs x s. s.1.1.1.0.now) (λ κs a. a.1.1.1.0.now)
  pub downmix_output : Unchanged 2 levels-downmix-kinds.ps levels-downmix-kinds.r levels-downmix-reads.Post (λ κs x. x) (λ κs x s. s.1.1.1.0.now) (λ κs a. a.1.1.1.0.now)

pub record PartsUnchanged : Type 0 where
  pub delay : DelayUnchanged
  pub hadamard : HadamardUnchanged
  pub mixer : MixerUnchanged
  pub primes : PrimesUnchanged
  pub audio_buffer : AudioBufferUnchanged
  pub levels : LevelsUnchanged
