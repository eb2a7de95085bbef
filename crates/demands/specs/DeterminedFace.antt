-- The same of the C face.
use Rattle.demands.specs.Determined.{Determined, DeterminedExit, DeterminedWith1, DeterminedWith3}
use Rattle.hall.proofs.hall_fresh.Kinds as hall-fresh-kinds
use Rattle.hall.proofs.hall_fresh.Reads as hall-fresh-reads
use Rattle.hall.proofs.hall_reset.Kinds as hall-reset-kinds
use Rattle.hall.proofs.hall_reset.Reads as hall-reset-reads
use Rattle.hall.proofs.hall_apply.Kinds as hall-apply-kinds
use Rattle.hall.proofs.hall_apply.Reads as hall-apply-reads
use Rattle.hall.proofs.hall_apply_frames.Kinds as hall-apply-frames-kinds
use Rattle.hall.proofs.hall_apply_frames.Reads as hall-apply-frames-reads
use Rattle.hall.proofs.hall_tail.Kinds as hall-tail-kinds
use Rattle.hall.proofs.hall_tail.Reads as hall-tail-reads
use Rattle.hall.proofs.hall_interleave.Kinds as hall-interleave-kinds
use Rattle.hall.proofs.hall_interleave.Reads as hall-interleave-reads
use Rattle.hall.proofs.hall_deinterleave.Kinds as hall-deinterleave-kinds
use Rattle.hall.proofs.hall_deinterleave.Reads as hall-deinterleave-reads
use Rattle.hall.proofs.hall_make_silent.Kinds as hall-make-silent-kinds
use Rattle.hall.proofs.hall_make_silent.Reads as hall-make-silent-reads
use Rattle.hall.proofs.hall_scale.Kinds as hall-scale-kinds
use Rattle.hall.proofs.hall_scale.Reads as hall-scale-reads
use Rattle.hall.proofs.hall_buffer_mix.Kinds as hall-buffer-mix-kinds
use Rattle.hall.proofs.hall_buffer_mix.Reads as hall-buffer-mix-reads
use Rattle.hall.proofs.hall_downmix.Kinds as hall-downmix-kinds
use Rattle.hall.proofs.hall_downmix.Reads as hall-downmix-reads
use Rattle.hall.proofs.hall_channel_number.Kinds as hall-channel-number-kinds
use Rattle.hall.proofs.hall_channel_number.Reads as hall-channel-number-reads
use Rattle.hall.proofs.hall_delay_min.Kinds as hall-delay-min-kinds
use Rattle.hall.proofs.hall_delay_min.Reads as hall-delay-min-reads
use Rattle.hall.proofs.hall_prime_power.Kinds as hall-prime-power-kinds
use Rattle.hall.proofs.hall_prime_power.Reads as hall-prime-power-reads
use Rattle.hall.proofs.hall_delay_value.Kinds as hall-delay-value-kinds
use Rattle.hall.proofs.hall_delay_value.Reads as hall-delay-value-reads
use Rattle.hall.proofs.hall_ring_get.Kinds as hall-ring-get-kinds
use Rattle.hall.proofs.hall_ring_get.Reads as hall-ring-get-reads
use Rattle.hall.proofs.hall_ring_put.Kinds as hall-ring-put-kinds
use Rattle.hall.proofs.hall_ring_put.Reads as hall-ring-put-reads
use Rattle.hall.proofs.hall_ring_get4.Kinds as hall-ring-get4-kinds
use Rattle.hall.proofs.hall_ring_get4.Reads as hall-ring-get4-reads
use Rattle.hall.proofs.hall_ring_put4.Kinds as hall-ring-put4-kinds
use Rattle.hall.proofs.hall_ring_put4.Reads as hall-ring-put4-reads
use Rattle.hall.proofs.hall_ring_reset.Kinds as hall-ring-reset-kinds
use Rattle.hall.proofs.hall_ring_reset.Reads as hall-ring-reset-reads
use Rattle.hall.proofs.hall_open_apply.Kinds as hall-open-apply-kinds
use Rattle.hall.proofs.hall_open_apply.Reads as hall-open-apply-reads
use Rattle.hall.proofs.hall_open_tail.Kinds as hall-open-tail-kinds
use Rattle.hall.proofs.hall_open_tail.Reads as hall-open-tail-reads
use Rattle.hall.proofs.hall_job_read.Kinds as hall-job-read-kinds
use Rattle.hall.proofs.hall_job_read.Reads as hall-job-read-reads
use Rattle.hall.proofs.hall_job_mix.Kinds as hall-job-mix-kinds
use Rattle.hall.proofs.hall_job_mix.Reads as hall-job-mix-reads
use Rattle.hall.proofs.hall_job_line.Kinds as hall-job-line-kinds
use Rattle.hall.proofs.hall_job_line.Reads as hall-job-line-reads
use Rattle.hall.proofs.hall_job_output.Kinds as hall-job-output-kinds
use Rattle.hall.proofs.hall_job_output.Reads as hall-job-output-reads
use Rattle.hall.proofs.hall_close.Kinds as hall-close-kinds
use Rattle.hall.proofs.hall_close.Reads as hall-close-reads
use Rattle.hall.proofs.hall_abandon.Kinds as hall-abandon-kinds
use Rattle.hall.proofs.hall_abandon.Reads as hall-abandon-reads
use Rattle.hall.proofs.hall_filter_run.Kinds as hall-filter-run-kinds
use Rattle.hall.proofs.hall_filter_run.Reads as hall-filter-run-reads
use Rattle.hall.proofs.hall_mix16.Kinds as hall-mix16-kinds
use Rattle.hall.proofs.hall_mix16.Reads as hall-mix16-reads
use Rattle.hall.proofs.hall_wave_read.Kinds as hall-wave-read-kinds
use Rattle.hall.proofs.hall_wave_read.Reads as hall-wave-read-reads
use Rattle.hall.proofs.hall_wave_samples.Kinds as hall-wave-samples-kinds
use Rattle.hall.proofs.hall_wave_samples.Reads as hall-wave-samples-reads

pub record FaceDetermined : Type 0 where
  pub fresh : DeterminedWith1 1 hall-fresh-kinds.ps hall-fresh-kinds.r hall-fresh-reads.Post (λ κs s. s.1.1.0.now)
  pub reset : DeterminedWith1 1 hall-reset-kinds.ps hall-reset-kinds.r hall-reset-reads.Post (λ κs s. s.1.0.now)
  pub apply : DeterminedWith3 5 hall-apply-kinds.ps hall-apply-kinds.r hall-apply-reads.Post (λ κs s. s.1.1.1.1.1.1.0.now) (λ κs s. s.1.1.1.1.1.1.1.0.now) (λ κs s. s.1.1.1.1.1.1.1.1.0.now)
  pub apply_frames : DeterminedWith3 5 hall-apply-frames-kinds.ps hall-apply-frames-kinds.r hall-apply-frames-reads.Post (λ κs s. s.1.1.1.1.1.1.0.now) (λ κs s. s.1.1.1.1.1.1.1.0.now) (λ κs s. s.1.1.1.1.1.1.1.1.0.now)
  pub tail : DeterminedWith3 3 hall-tail-kinds.ps hall-tail-kinds.r hall-tail-reads.Post (λ κs s. s.1.0.now) (λ κs s. s.1.1.0.now) (λ κs s. s.1.1.1.0.now)
  pub interleave : DeterminedWith1 2 hall-interleave-kinds.ps hall-interleave-kinds.r hall-interleave-reads.Post (λ κs s. s.1.1.1.0.now)
  pub deinterleave : DeterminedWith1 2 hall-deinterleave-kinds.ps hall-deinterleave-kinds.r hall-deinterleave-reads.Post (λ κs s. s.1.1.1.0.now)
  pub make_silent : DeterminedWith1 1 hall-make-silent-kinds.ps hall-make-silent-kinds.r hall-make-silent-reads.Post (λ κs s. s.1.1.0.now)
  pub scale : DeterminedWith1 1 hall-scale-kinds.ps hall-scale-kinds.r hall-scale-reads.Post (λ κs s. s.1.1.1.0.now)
  pub buffer_mix : DeterminedWith1 2 hall-buffer-mix-kinds.ps hall-buffer-mix-kinds.r hall-buffer-mix-reads.Post (λ κs s. s.1.1.1.0.now)
  pub downmix : DeterminedWith1 2 hall-downmix-kinds.ps hall-downmix-kinds.r hall-downmix-reads.Post (λ κs s. s.1.1.1.0.now)
  pub channel_number : Determined 0 hall-channel-number-kinds.ps hall-channel-number-kinds.r hall-channel-number-reads.Post
  pub delay_min : Determined 0 hall-delay-min-kinds.ps hall-delay-min-kinds.r hall-delay-min-reads.Post
  pub prime_power : Determined 0 hall-prime-power-kinds.ps hall-prime-power-kinds.r hall-prime-power-reads.Post
  pub delay_value : Determined 0 hall-delay-value-kinds.ps hall-delay-value-kinds.r hall-delay-value-reads.Post
  pub ring_get : DeterminedWith1 2 hall-ring-get-kinds.ps hall-ring-get-kinds.r hall-ring-get-reads.Post (λ κs s. s.1.1.0.now)
  pub ring_put : DeterminedWith1 2 hall-ring-put-kinds.ps hall-ring-put-kinds.r hall-ring-put-reads.Post (λ κs s. s.0.now)
  pub ring_get4 : Determined 1 hall-ring-get4-kinds.ps hall-ring-get4-kinds.r hall-ring-get4-reads.Post
  pub ring_put4 : DeterminedWith1 1 hall-ring-put4-kinds.ps hall-ring-put4-kinds.r hall-ring-put4-reads.Post (λ κs s. s.0.now)
  pub ring_reset : DeterminedWith1 1 hall-ring-reset-kinds.ps hall-ring-reset-kinds.r hall-ring-reset-reads.Post (λ κs s. s.0.now)
  pub open_apply : DeterminedWith1 4 hall-open-apply-kinds.ps hall-open-apply-kinds.r hall-open-apply-reads.Post (λ κs s. s.1.1.1.1.1.1.1.0.now)
  pub open_tail : DeterminedWith1 2 hall-open-tail-kinds.ps hall-open-tail-kinds.r hall-open-tail-reads.Post (λ κs s. s.1.1.0.now)
  pub job_read : DeterminedWith1 2 hall-job-read-kinds.ps hall-job-read-kinds.r hall-job-read-reads.Post (λ κs s. s.1.1.1.0.now)
  pub job_mix : DeterminedWith1 1 hall-job-mix-kinds.ps hall-job-mix-kinds.r hall-job-mix-reads.Post (λ κs s. s.1.0.now)
  pub job_line : DeterminedWith1 1 hall-job-line-kinds.ps hall-job-line-kinds.r hall-job-line-reads.Post (λ κs s. s.1.1.0.now)
  pub job_output : DeterminedWith1 1 hall-job-output-kinds.ps hall-job-output-kinds.r hall-job-output-reads.Post (λ κs s. s.1.0.now)
  pub close : DeterminedWith3 3 hall-close-kinds.ps hall-close-kinds.r hall-close-reads.Post (λ κs s. s.1.0.now) (λ κs s. s.1.1.0.now) (λ κs s. s.1.1.1.0.now)
  pub abandon : DeterminedWith1 1 hall-abandon-kinds.ps hall-abandon-kinds.r hall-abandon-reads.Post (λ κs s. s.1.0.now)
  pub filter_run : DeterminedWith1 1 hall-filter-run-kinds.ps hall-filter-run-kinds.r hall-filter-run-reads.Post (λ κs s. s.1.0.now)
  pub mix16 : DeterminedWith1 2 hall-mix16-kinds.ps hall-mix16-kinds.r hall-mix16-reads.Post (λ κs s. s.1.0.now)
  pub wave_read : Determined 1 hall-wave-read-kinds.ps hall-wave-read-kinds.r hall-wave-read-reads.Post
  pub wave_samples : DeterminedExit 2 hall-wave-samples-kinds.ps hall-wave-samples-kinds.r hall-wave-samples-reads.Post (λ κs s. s.1.1.0.now)
