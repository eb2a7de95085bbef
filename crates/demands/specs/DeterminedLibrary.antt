-- The contract of every public function of the library determines its result and each lent float at exit (R8.28): a record a crate, a field
-- a function, over its real contract.
use denote.RattleType.{RattleType}
use denote.Param.Laws.{Laws, IsCopy}
use mir.Syntax.{Dict}
use Rattle.std.specs.declared.clone.Clone as clone-trait
use Rattle.wire.specs.declared.Code as code-trait
use Rattle.demands.specs.Determined.{Determined, DeterminedExit, DeterminedWith1, DeterminedWith3, OneValue}
use Rattle.samples.proofs.number.Kinds as samples-number-kinds
use Rattle.samples.proofs.number.Reads as samples-number-reads
use Rattle.samples.proofs.index.Kinds as samples-index-kinds
use Rattle.samples.proofs.index.Reads as samples-index-reads
use Rattle.samples.proofs.need.Kinds as samples-need-kinds
use Rattle.samples.proofs.need.Reads as samples-need-reads
use Rattle.samples.proofs.rate_ok.Kinds as samples-rate-ok-kinds
use Rattle.samples.proofs.rate_ok.Reads as samples-rate-ok-reads
use Rattle.samples.proofs.frame_ok.Kinds as samples-frame-ok-kinds
use Rattle.samples.proofs.frame_ok.Reads as samples-frame-ok-reads
use Rattle.samples.proofs.is_finite.Kinds as samples-is-finite-kinds
use Rattle.samples.proofs.is_finite.Reads as samples-is-finite-reads
use Rattle.samples.proofs.is_plus_zero.Kinds as samples-is-plus-zero-kinds
use Rattle.samples.proofs.is_plus_zero.Reads as samples-is-plus-zero-reads
use Rattle.samples.proofs.clear.Kinds as samples-clear-kinds
use Rattle.samples.proofs.clear.Reads as samples-clear-reads
use Rattle.search.proofs.first_bad.Kinds as search-first-bad-kinds
use Rattle.search.proofs.first_bad.Reads as search-first-bad-reads
use Rattle.search.proofs.all_finite.Kinds as search-all-finite-kinds
use Rattle.search.proofs.all_finite.Reads as search-all-finite-reads
use Rattle.delay.proofs.fresh.Kinds as delay-fresh-kinds
use Rattle.delay.proofs.fresh.Reads as delay-fresh-reads
use Rattle.delay.proofs.reset.Kinds as delay-reset-kinds
use Rattle.delay.proofs.reset.Reads as delay-reset-reads
use Rattle.delay.proofs.get.Kinds as delay-get-kinds
use Rattle.delay.proofs.get.Reads as delay-get-reads
use Rattle.delay.proofs.put.Kinds as delay-put-kinds
use Rattle.delay.proofs.put.Reads as delay-put-reads
use Rattle.delay.proofs.get4.Kinds as delay-get4-kinds
use Rattle.delay.proofs.get4.Reads as delay-get4-reads
use Rattle.delay.proofs.put4.Kinds as delay-put4-kinds
use Rattle.delay.proofs.put4.Reads as delay-put4-reads
use Rattle.iir.proofs.new_from_coefficients.Kinds as iir-new-from-coefficients-kinds
use Rattle.iir.proofs.new_from_coefficients.Reads as iir-new-from-coefficients-reads
use Rattle.iir.proofs.filtered.Kinds as iir-filtered-kinds
use Rattle.iir.proofs.filtered.Reads as iir-filtered-reads
use Rattle.iir.proofs.run.Kinds as iir-run-kinds
use Rattle.iir.proofs.run.Reads as iir-run-reads
use Rattle.iir.proofs.three_bands.Kinds as iir-three-bands-kinds
use Rattle.iir.proofs.three_bands.Reads as iir-three-bands-reads
use Rattle.iir.proofs.is_finite.Kinds as iir-is-finite-kinds
use Rattle.iir.proofs.is_finite.Reads as iir-is-finite-reads
use Rattle.iir.proofs.is_blank.Kinds as iir-is-blank-kinds
use Rattle.iir.proofs.is_blank.Reads as iir-is-blank-reads
use Rattle.lanes.proofs.by_band.Kinds as lanes-by-band-kinds
use Rattle.lanes.proofs.by_band.Reads as lanes-by-band-reads
use Rattle.lanes.proofs.bands_at.Kinds as lanes-bands-at-kinds
use Rattle.lanes.proofs.bands_at.Reads as lanes-bands-at-reads
use Rattle.lanes.proofs.step_bands.Kinds as lanes-step-bands-kinds
use Rattle.lanes.proofs.step_bands.Reads as lanes-step-bands-reads
use Rattle.lanes.proofs.pack.Kinds as lanes-pack-kinds
use Rattle.lanes.proofs.pack.Reads as lanes-pack-reads
use Rattle.lanes.proofs.lane.Kinds as lanes-lane-kinds
use Rattle.lanes.proofs.lane.Reads as lanes-lane-reads
use Rattle.lanes.proofs.step.Kinds as lanes-step-kinds
use Rattle.lanes.proofs.step.Reads as lanes-step-reads
use Rattle.bank.proofs.four_lines.Kinds as bank-four-lines-kinds
use Rattle.bank.proofs.four_lines.Reads as bank-four-lines-reads
use Rattle.bank.proofs.one_line.Kinds as bank-one-line-kinds
use Rattle.bank.proofs.one_line.Reads as bank-one-line-reads
use Rattle.hadamard.proofs.minus.Kinds as hadamard-minus-kinds
use Rattle.hadamard.proofs.minus.Reads as hadamard-minus-reads
use Rattle.hadamard.proofs.mix_sample.Kinds as hadamard-mix-sample-kinds
use Rattle.hadamard.proofs.mix_sample.Reads as hadamard-mix-sample-reads
use Rattle.hadamard.proofs.plus_minus.Kinds as hadamard-plus-minus-kinds
use Rattle.hadamard.proofs.plus_minus.Reads as hadamard-plus-minus-reads
use Rattle.mixer.proofs.mix_rows.Kinds as mixer-mix-rows-kinds
use Rattle.mixer.proofs.mix_rows.Reads as mixer-mix-rows-reads
use Rattle.allpass.proofs.pass_stage.Kinds as allpass-pass-stage-kinds
use Rattle.allpass.proofs.pass_stage.Reads as allpass-pass-stage-reads
use Rattle.bands.proofs.time_ok.Kinds as bands-time-ok-kinds
use Rattle.bands.proofs.time_ok.Reads as bands-time-ok-reads
use Rattle.bands.proofs.times_ok.Kinds as bands-times-ok-kinds
use Rattle.bands.proofs.times_ok.Reads as bands-times-ok-reads
use Rattle.bands.proofs.largest.Kinds as bands-largest-kinds
use Rattle.bands.proofs.largest.Reads as bands-largest-reads
use Rattle.bands.proofs.tail_count.Kinds as bands-tail-count-kinds
use Rattle.bands.proofs.tail_count.Reads as bands-tail-count-reads
use Rattle.bands.proofs.fallen.Kinds as bands-fallen-kinds
use Rattle.bands.proofs.fallen.Reads as bands-fallen-reads
use Rattle.primes.proofs.prime.Kinds as primes-prime-kinds
use Rattle.primes.proofs.prime.Reads as primes-prime-reads
use Rattle.primes.proofs.delay.Kinds as primes-delay-kinds
use Rattle.primes.proofs.delay.Reads as primes-delay-reads
use Rattle.primes.proofs.delay_min.Kinds as primes-delay-min-kinds
use Rattle.primes.proofs.delay_min.Reads as primes-delay-min-reads
use Rattle.primes.proofs.prime_power.Kinds as primes-prime-power-kinds
use Rattle.primes.proofs.prime_power.Reads as primes-prime-power-reads
use Rattle.primes.proofs.delay_value.Kinds as primes-delay-value-kinds
use Rattle.primes.proofs.delay_value.Reads as primes-delay-value-reads
use Rattle.primes.proofs.delay_values.Kinds as primes-delay-values-kinds
use Rattle.primes.proofs.delay_values.Reads as primes-delay-values-reads
use Rattle.audio_buffer.proofs.verdict.Kinds as audio-buffer-verdict-kinds
use Rattle.audio_buffer.proofs.verdict.Reads as audio-buffer-verdict-reads
use Rattle.audio_buffer.proofs.judge_buffer.Kinds as audio-buffer-judge-buffer-kinds
use Rattle.audio_buffer.proofs.judge_buffer.Reads as audio-buffer-judge-buffer-reads
use Rattle.audio_buffer.proofs.judge_two.Kinds as audio-buffer-judge-two-kinds
use Rattle.audio_buffer.proofs.judge_two.Reads as audio-buffer-judge-two-reads
use Rattle.audio_buffer.proofs.write_interleaved.Kinds as audio-buffer-write-interleaved-kinds
use Rattle.audio_buffer.proofs.write_interleaved.Reads as audio-buffer-write-interleaved-reads
use Rattle.audio_buffer.proofs.read_interleaved.Kinds as audio-buffer-read-interleaved-kinds
use Rattle.audio_buffer.proofs.read_interleaved.Reads as audio-buffer-read-interleaved-reads
use Rattle.audio_buffer.proofs.channel_number.Kinds as audio-buffer-channel-number-kinds
use Rattle.audio_buffer.proofs.channel_number.Reads as audio-buffer-channel-number-reads
use Rattle.audio_buffer.proofs.channel.Kinds as audio-buffer-channel-kinds
use Rattle.audio_buffer.proofs.channel.Reads as audio-buffer-channel-reads
use Rattle.levels.proofs.make_silent.Kinds as levels-make-silent-kinds
use Rattle.levels.proofs.make_silent.Reads as levels-make-silent-reads
use Rattle.levels.proofs.scale.Kinds as levels-scale-kinds
use Rattle.levels.proofs.scale.Reads as levels-scale-reads
use Rattle.levels.proofs.mix.Kinds as levels-mix-kinds
use Rattle.levels.proofs.mix.Reads as levels-mix-reads
use Rattle.levels.proofs.downmix.Kinds as levels-downmix-kinds
use Rattle.levels.proofs.downmix.Reads as levels-downmix-reads
use Rattle.wire.proofs.sample.Kinds as wire-sample-kinds
use Rattle.wire.proofs.sample.Reads as wire-sample-reads
use Rattle.wire.proofs.bits.Kinds as wire-bits-kinds
use Rattle.wire.proofs.bits.Reads as wire-bits-reads
use Rattle.wire.proofs.unpack.Kinds as wire-unpack-kinds
use Rattle.wire.proofs.unpack.Reads as wire-unpack-reads
use Rattle.wire.proofs.decode.Kinds as wire-decode-kinds
use Rattle.wire.proofs.decode.Reads as wire-decode-reads
use Rattle.wire.proofs.encode.Kinds as wire-encode-kinds
use Rattle.wire.proofs.encode.Reads as wire-encode-reads
use Rattle.wave.proofs.read_number.Kinds as wave-read-number-kinds
use Rattle.wave.proofs.read_number.Reads as wave-read-number-reads
use Rattle.wave.proofs.read_place.Kinds as wave-read-place-kinds
use Rattle.wave.proofs.read_place.Reads as wave-read-place-reads
use Rattle.wave.proofs.take_of.Kinds as wave-take-of-kinds
use Rattle.wave.proofs.take_of.Reads as wave-take-of-reads
use Rattle.wave.proofs.read.Kinds as wave-read-kinds
use Rattle.wave.proofs.read.Reads as wave-read-reads
use Rattle.wave.proofs.data.Kinds as wave-data-kinds
use Rattle.wave.proofs.data.Reads as wave-data-reads
use Rattle.wave.proofs.floats.Kinds as wave-floats-kinds
use Rattle.wave.proofs.floats.Reads as wave-floats-reads
use Rattle.unit.proofs.fresh_state.Kinds as unit-fresh-state-kinds
use Rattle.unit.proofs.fresh_state.Reads as unit-fresh-state-reads
use Rattle.unit.proofs.quiet.Kinds as unit-quiet-kinds
use Rattle.unit.proofs.quiet.Reads as unit-quiet-reads
use Rattle.unit.proofs.lent_ok.Kinds as unit-lent-ok-kinds
use Rattle.unit.proofs.lent_ok.Reads as unit-lent-ok-reads
use Rattle.unit.proofs.rings_hold.Kinds as unit-rings-hold-kinds
use Rattle.unit.proofs.rings_hold.Reads as unit-rings-hold-reads
use Rattle.unit.proofs.rings_of.Kinds as unit-rings-of-kinds
use Rattle.unit.proofs.rings_of.Reads as unit-rings-of-reads
use Rattle.unit.proofs.room_ok.Kinds as unit-room-ok-kinds
use Rattle.unit.proofs.room_ok.Reads as unit-room-ok-reads
use Rattle.unit.proofs.in_range.Kinds as unit-in-range-kinds
use Rattle.unit.proofs.in_range.Reads as unit-in-range-reads
use Rattle.unit.proofs.lengths.Kinds as unit-lengths-kinds
use Rattle.unit.proofs.lengths.Reads as unit-lengths-reads
use Rattle.unit.proofs.store_ok.Kinds as unit-store-ok-kinds
use Rattle.unit.proofs.store_ok.Reads as unit-store-ok-reads
use Rattle.unit.proofs.work_ok.Kinds as unit-work-ok-kinds
use Rattle.unit.proofs.work_ok.Reads as unit-work-ok-reads
use Rattle.unit.proofs.ring_place.Kinds as unit-ring-place-kinds
use Rattle.unit.proofs.ring_place.Reads as unit-ring-place-reads
use Rattle.unit.proofs.work_places.Kinds as unit-work-places-kinds
use Rattle.unit.proofs.work_places.Reads as unit-work-places-reads
use Rattle.unit.proofs.is_store.Kinds as unit-is-store-kinds
use Rattle.unit.proofs.is_store.Reads as unit-is-store-reads
use Rattle.unit.proofs.is_total.Kinds as unit-is-total-kinds
use Rattle.unit.proofs.is_total.Reads as unit-is-total-reads
use Rattle.judges.proofs.judge_fresh.Kinds as judges-judge-fresh-kinds
use Rattle.judges.proofs.judge_fresh.Reads as judges-judge-fresh-reads
use Rattle.judges.proofs.judge_reset.Kinds as judges-judge-reset-kinds
use Rattle.judges.proofs.judge_reset.Reads as judges-judge-reset-reads
use Rattle.judges.proofs.judge_tail.Kinds as judges-judge-tail-kinds
use Rattle.judges.proofs.judge_tail.Reads as judges-judge-tail-reads
use Rattle.judges.proofs.judge_apply.Kinds as judges-judge-apply-kinds
use Rattle.judges.proofs.judge_apply.Reads as judges-judge-apply-reads
use Rattle.judges.proofs.judge_frames.Kinds as judges-judge-frames-kinds
use Rattle.judges.proofs.judge_frames.Reads as judges-judge-frames-reads
use Rattle.judges.proofs.frame_count.Kinds as judges-frame-count-kinds
use Rattle.judges.proofs.frame_count.Reads as judges-frame-count-reads
use Rattle.judges.proofs.judge_input.Kinds as judges-judge-input-kinds
use Rattle.judges.proofs.judge_input.Reads as judges-judge-input-reads
use Rattle.judges.proofs.judge_open_apply.Kinds as judges-judge-open-apply-kinds
use Rattle.judges.proofs.judge_open_apply.Reads as judges-judge-open-apply-reads
use Rattle.judges.proofs.judge_open_tail.Kinds as judges-judge-open-tail-kinds
use Rattle.judges.proofs.judge_open_tail.Reads as judges-judge-open-tail-reads
use Rattle.judges.proofs.judge_read.Kinds as judges-judge-read-kinds
use Rattle.judges.proofs.judge_read.Reads as judges-judge-read-reads
use Rattle.judges.proofs.judge_mix.Kinds as judges-judge-mix-kinds
use Rattle.judges.proofs.judge_mix.Reads as judges-judge-mix-reads
use Rattle.judges.proofs.judge_line.Kinds as judges-judge-line-kinds
use Rattle.judges.proofs.judge_line.Reads as judges-judge-line-reads
use Rattle.judges.proofs.judge_output.Kinds as judges-judge-output-kinds
use Rattle.judges.proofs.judge_output.Reads as judges-judge-output-reads
use Rattle.judges.proofs.judge_close.Kinds as judges-judge-close-kinds
use Rattle.judges.proofs.judge_close.Reads as judges-judge-close-reads
use Rattle.judges.proofs.judge_abandon.Kinds as judges-judge-abandon-kinds
use Rattle.judges.proofs.judge_abandon.Reads as judges-judge-abandon-reads
use Rattle.stages.proofs.add_first.Kinds as stages-add-first-kinds
use Rattle.stages.proofs.add_first.Reads as stages-add-first-reads
use Rattle.stages.proofs.divide.Kinds as stages-divide-kinds
use Rattle.stages.proofs.divide.Reads as stages-divide-reads
use Rattle.stages.proofs.copy.Kinds as stages-copy-kinds
use Rattle.stages.proofs.copy.Reads as stages-copy-reads
use Rattle.stages.proofs.filters_finite.Kinds as stages-filters-finite-kinds
use Rattle.stages.proofs.filters_finite.Reads as stages-filters-finite-reads
use Rattle.rows.proofs.line_rows.Kinds as rows-line-rows-kinds
use Rattle.rows.proofs.line_rows.Reads as rows-line-rows-reads
use Rattle.rows.proofs.make_line.Kinds as rows-make-line-kinds
use Rattle.rows.proofs.make_line.Reads as rows-make-line-reads
use Rattle.rows.proofs.read_line.Kinds as rows-read-line-kinds
use Rattle.rows.proofs.read_line.Reads as rows-read-line-reads
use Rattle.rows.proofs.output_fits.Kinds as rows-output-fits-kinds
use Rattle.rows.proofs.output_fits.Reads as rows-output-fits-reads
use Rattle.rows.proofs.work_for.Kinds as rows-work-for-kinds
use Rattle.rows.proofs.work_for.Reads as rows-work-for-reads
use Rattle.rows.proofs.three_at.Kinds as rows-three-at-kinds
use Rattle.rows.proofs.three_at.Reads as rows-three-at-reads
use Rattle.outputs.proofs.output_row.Kinds as outputs-output-row-kinds
use Rattle.outputs.proofs.output_row.Reads as outputs-output-row-reads
use Rattle.outputs.proofs.make_output.Kinds as outputs-make-output-kinds
use Rattle.outputs.proofs.make_output.Reads as outputs-make-output-reads
use Rattle.frame.proofs.run_frame.Kinds as frame-run-frame-kinds
use Rattle.frame.proofs.run_frame.Reads as frame-run-frame-reads
use Rattle.frame.proofs.close_frame.Kinds as frame-close-frame-kinds
use Rattle.frame.proofs.close_frame.Reads as frame-close-frame-reads
use Rattle.reverb.proofs.fresh.Kinds as reverb-fresh-kinds
use Rattle.reverb.proofs.fresh.Reads as reverb-fresh-reads
use Rattle.reverb.proofs.reset.Kinds as reverb-reset-kinds
use Rattle.reverb.proofs.reset.Reads as reverb-reset-reads
use Rattle.reverb.proofs.apply.Kinds as reverb-apply-kinds
use Rattle.reverb.proofs.apply.Reads as reverb-apply-reads
use Rattle.reverb.proofs.apply_frames.Kinds as reverb-apply-frames-kinds
use Rattle.reverb.proofs.apply_frames.Reads as reverb-apply-frames-reads
use Rattle.reverb.proofs.tail.Kinds as reverb-tail-kinds
use Rattle.reverb.proofs.tail.Reads as reverb-tail-reads
use Rattle.reverb.proofs.filters_of.Kinds as reverb-filters-of-kinds
use Rattle.reverb.proofs.filters_of.Reads as reverb-filters-of-reads
use Rattle.opening.proofs.open_apply.Kinds as opening-open-apply-kinds
use Rattle.opening.proofs.open_apply.Reads as opening-open-apply-reads
use Rattle.opening.proofs.open_tail.Kinds as opening-open-tail-kinds
use Rattle.opening.proofs.open_tail.Reads as opening-open-tail-reads
use Rattle.jobs.proofs.job_read.Kinds as jobs-job-read-kinds
use Rattle.jobs.proofs.job_read.Reads as jobs-job-read-reads
use Rattle.jobs.proofs.job_mix.Kinds as jobs-job-mix-kinds
use Rattle.jobs.proofs.job_mix.Reads as jobs-job-mix-reads
use Rattle.jobs.proofs.job_line.Kinds as jobs-job-line-kinds
use Rattle.jobs.proofs.job_line.Reads as jobs-job-line-reads
use Rattle.jobs.proofs.job_output.Kinds as jobs-job-output-kinds
use Rattle.jobs.proofs.job_output.Reads as jobs-job-output-reads
use Rattle.closing.proofs.close.Kinds as closing-close-kinds
use Rattle.closing.proofs.close.Reads as closing-close-reads
use Rattle.closing.proofs.abandon.Kinds as closing-abandon-kinds
use Rattle.closing.proofs.abandon.Reads as closing-abandon-reads

pub record SamplesDetermined : Type 0 where
  pub number : Determined 0 samples-number-kinds.ps samples-number-kinds.r samples-number-reads.Post
  pub index : Determined 0 samples-index-kinds.ps samples-index-kinds.r samples-index-reads.Post
  pub need : Determined 0 samples-need-kinds.ps samples-need-kinds.r samples-need-reads.Post
  pub rate_ok : Determined 0 samples-rate-ok-kinds.ps samples-rate-ok-kinds.r samples-rate-ok-reads.Post
  pub frame_ok : Determined 0 samples-frame-ok-kinds.ps samples-frame-ok-kinds.r samples-frame-ok-reads.Post
  pub is_finite : Determined 0 samples-is-finite-kinds.ps samples-is-finite-kinds.r samples-is-finite-reads.Post
  pub is_plus_zero : Determined 0 samples-is-plus-zero-kinds.ps samples-is-plus-zero-kinds.r samples-is-plus-zero-reads.Post
  pub clear : DeterminedExit 1 samples-clear-kinds.ps samples-clear-kinds.r samples-clear-reads.Post (λ κs s. s.0.now)

pub record SearchDetermined : Type 0 where
  pub first_bad : Determined 1 search-first-bad-kinds.ps search-first-bad-kinds.r search-first-bad-reads.Post
  pub all_finite : Determined 1 search-all-finite-kinds.ps search-all-finite-kinds.r search-all-finite-reads.Post

pub record DelayDetermined : Type 0 where
  pub fresh : DeterminedWith1 1 delay-fresh-kinds.ps delay-fresh-kinds.r delay-fresh-reads.Post (λ κs s. s.0.now)
  pub reset : DeterminedWith1 1 delay-reset-kinds.ps delay-reset-kinds.r delay-reset-reads.Post (λ κs s. s.0.now)
  pub get : DeterminedWith1 2 delay-get-kinds.ps delay-get-kinds.r delay-get-reads.Post (λ κs s. s.1.1.0.now)
  pub put : DeterminedWith1 2 delay-put-kinds.ps delay-put-kinds.r delay-put-reads.Post (λ κs s. s.0.now)
  pub get4 : Determined 1 delay-get4-kinds.ps delay-get4-kinds.r delay-get4-reads.Post
  pub put4 : DeterminedWith1 1 delay-put4-kinds.ps delay-put4-kinds.r delay-put4-reads.Post (λ κs s. s.0.now)

pub record IirDetermined : Type 0 where
  pub new_from_coefficients : Determined 0 iir-new-from-coefficients-kinds.ps iir-new-from-coefficients-kinds.r iir-new-from-coefficients-reads.Post
  pub filtered : Determined 0 iir-filtered-kinds.ps iir-filtered-kinds.r iir-filtered-reads.Post
  pub run : DeterminedWith1 1 iir-run-kinds.ps iir-run-kinds.r iir-run-reads.Post (λ κs s. s.1.0.now)
  pub three_bands : DeterminedWith1 1 iir-three-bands-kinds.ps iir-three-bands-kinds.r iir-three-bands-reads.Post (λ κs s. s.1.0.now)
  pub is_finite : Determined 0 iir-is-finite-kinds.ps iir-is-finite-kinds.r iir-is-finite-reads.Post
  pub is_blank : Determined 0 iir-is-blank-kinds.ps iir-is-blank-kinds.r iir-is-blank-reads.Post

pub record LanesDetermined : Type 0 where
  pub by_band : Determined 0 lanes-by-band-kinds.ps lanes-by-band-kinds.r lanes-by-band-reads.Post
  pub bands_at : Determined 0 lanes-bands-at-kinds.ps lanes-bands-at-kinds.r lanes-bands-at-reads.Post
  pub step_bands : Determined 0 lanes-step-bands-kinds.ps lanes-step-bands-kinds.r lanes-step-bands-reads.Post
  pub pack : Determined 0 lanes-pack-kinds.ps lanes-pack-kinds.r lanes-pack-reads.Post
  pub lane : Determined 0 lanes-lane-kinds.ps lanes-lane-kinds.r lanes-lane-reads.Post
  pub step : Determined 0 lanes-step-kinds.ps lanes-step-kinds.r lanes-step-reads.Post

pub record BankDetermined : Type 0 where
  pub four_lines : DeterminedWith1 1 bank-four-lines-kinds.ps bank-four-lines-kinds.r bank-four-lines-reads.Post (λ κs s. s.1.0.now)
  pub one_line : DeterminedWith1 1 bank-one-line-kinds.ps bank-one-line-kinds.r bank-one-line-reads.Post (λ κs s. s.1.0.now)

pub record HadamardDetermined : Type 0 where
  pub minus : Determined 0 hadamard-minus-kinds.ps hadamard-minus-kinds.r hadamard-minus-reads.Post
  pub mix_sample : DeterminedWith1 2 hadamard-mix-sample-kinds.ps hadamard-mix-sample-kinds.r hadamard-mix-sample-reads.Post (λ κs s. s.1.0.now)
  pub plus_minus : Determined 0 hadamard-plus-minus-kinds.ps hadamard-plus-minus-kinds.r hadamard-plus-minus-reads.Post

pub record MixerDetermined : Type 0 where
  pub mix_rows : DeterminedWith1 1 mixer-mix-rows-kinds.ps mixer-mix-rows-kinds.r mixer-mix-rows-reads.Post (λ κs s. s.1.1.0.now)

pub record AllpassDetermined : Type 0 where
  pub pass_stage : DeterminedExit 1 allpass-pass-stage-kinds.ps allpass-pass-stage-kinds.r allpass-pass-stage-reads.Post (λ κs s. s.0.now)

pub record BandsDetermined : Type 0 where
  pub time_ok : Determined 0 bands-time-ok-kinds.ps bands-time-ok-kinds.r bands-time-ok-reads.Post
  pub times_ok : Determined 0 bands-times-ok-kinds.ps bands-times-ok-kinds.r bands-times-ok-reads.Post
  pub largest : Determined 0 bands-largest-kinds.ps bands-largest-kinds.r bands-largest-reads.Post
  pub tail_count : Determined 0 bands-tail-count-kinds.ps bands-tail-count-kinds.r bands-tail-count-reads.Post
  pub fallen : Determined 0 bands-fallen-kinds.ps bands-fallen-kinds.r bands-fallen-reads.Post

pub record PrimesDetermined : Type 0 where
  pub prime : Determined 0 primes-prime-kinds.ps primes-prime-kinds.r primes-prime-reads.Post
  pub delay : Determined 0 primes-delay-kinds.ps primes-delay-kinds.r primes-delay-reads.Post
  pub delay_min : Determined 0 primes-delay-min-kinds.ps primes-delay-min-kinds.r primes-delay-min-reads.Post
  pub prime_power : Determined 0 primes-prime-power-kinds.ps primes-prime-power-kinds.r primes-prime-power-reads.Post
  pub delay_value : Determined 0 primes-delay-value-kinds.ps primes-delay-value-kinds.r primes-delay-value-reads.Post
  pub delay_values : DeterminedWith1 2 primes-delay-values-kinds.ps primes-delay-values-kinds.r primes-delay-values-reads.Post (λ κs s. s.1.1.1.0.now)

pub record AudioBufferDetermined : Type 0 where
  pub verdict : Determined 0 audio-buffer-verdict-kinds.ps audio-buffer-verdict-kinds.r audio-buffer-verdict-reads.Post
  pub judge_buffer : Determined 0 audio-buffer-judge-buffer-kinds.ps audio-buffer-judge-buffer-kinds.r audio-buffer-judge-buffer-reads.Post
  pub judge_two : Determined 0 audio-buffer-judge-two-kinds.ps audio-buffer-judge-two-kinds.r audio-buffer-judge-two-reads.Post
  pub write_interleaved : DeterminedWith1 2 audio-buffer-write-interleaved-kinds.ps audio-buffer-write-interleaved-kinds.r audio-buffer-write-interleaved-reads.Post (λ κs s. s.1.1.1.0.now)
  pub read_interleaved : DeterminedWith1 2 audio-buffer-read-interleaved-kinds.ps audio-buffer-read-interleaved-kinds.r audio-buffer-read-interleaved-reads.Post (λ κs s. s.1.1.1.0.now)
  pub channel_number : Determined 0 audio-buffer-channel-number-kinds.ps audio-buffer-channel-number-kinds.r audio-buffer-channel-number-reads.Post
  pub channel : OneValue 1 audio-buffer-channel-kinds.ps audio-buffer-channel-kinds.r audio-buffer-channel-reads.Post (λ κs x. x.now)

pub record LevelsDetermined : Type 0 where
  pub make_silent : DeterminedWith1 1 levels-make-silent-kinds.ps levels-make-silent-kinds.r levels-make-silent-reads.Post (λ κs s. s.1.1.0.now)
  pub scale : DeterminedWith1 1 levels-scale-kinds.ps levels-scale-kinds.r levels-scale-reads.Post (λ κs s. s.1.1.1.0.now)
  pub mix : DeterminedWith1 2 levels-mix-kinds.ps levels-mix-kinds.r levels-mix-reads.Post (λ κs s. s.1.1.1.0.now)
  pub downmix : DeterminedWith1 2 levels-downmix-kinds.ps levels-downmix-kinds.r levels-downmix-reads.Post (λ κs s. s.1.1.1.0.now)

-- `unpack` of any group of bytes and any code of it
pub record WireDetermined : Type 2 where
  pub sample : Determined 0 wire-sample-kinds.ps wire-sample-kinds.r wire-sample-reads.Post
  pub bits : Determined 0 wire-bits-kinds.ps wire-bits-kinds.r wire-bits-reads.Post
  pub unpack : (G C : RattleType) (lg : Laws G) (lc : Laws C) (copy : IsCopy G) (clone : clone-trait.Ghosts G.Denot) (d : Dict) (code : code-trait.Ghosts C.Denot G.Denot) (e : Dict)
      → DeterminedExit 4 (wire-unpack-kinds.ps G C lg lc copy) (wire-unpack-kinds.r G C lg lc copy) (wire-unpack-reads.Post G C lg lc copy clone d code e) (λ κs s. s.1.0.now)
  pub decode : DeterminedExit 2 wire-decode-kinds.ps wire-decode-kinds.r wire-decode-reads.Post (λ κs s. s.1.0.now)
  pub encode : DeterminedExit 2 wire-encode-kinds.ps wire-encode-kinds.r wire-encode-reads.Post (λ κs s. s.1.0.now)

pub record WaveDetermined : Type 0 where
  pub read_number : Determined 0 wave-read-number-kinds.ps wave-read-number-kinds.r wave-read-number-reads.Post
  pub read_place : Determined 0 wave-read-place-kinds.ps wave-read-place-kinds.r wave-read-place-reads.Post
  pub take_of : Determined 0 wave-take-of-kinds.ps wave-take-of-kinds.r wave-take-of-reads.Post
  pub read : Determined 1 wave-read-kinds.ps wave-read-kinds.r wave-read-reads.Post
  pub «data» : OneValue 1 wave-data-kinds.ps wave-data-kinds.r wave-data-reads.Post (λ κs x. x.now)
  pub floats : DeterminedExit 2 wave-floats-kinds.ps wave-floats-kinds.r wave-floats-reads.Post (λ κs s. s.1.1.0.now)

pub record UnitDetermined : Type 0 where
  pub fresh_state : Determined 0 unit-fresh-state-kinds.ps unit-fresh-state-kinds.r unit-fresh-state-reads.Post
  pub quiet : Determined 0 unit-quiet-kinds.ps unit-quiet-kinds.r unit-quiet-reads.Post
  pub lent_ok : Determined 0 unit-lent-ok-kinds.ps unit-lent-ok-kinds.r unit-lent-ok-reads.Post
  pub rings_hold : Determined 0 unit-rings-hold-kinds.ps unit-rings-hold-kinds.r unit-rings-hold-reads.Post
  pub rings_of : Determined 0 unit-rings-of-kinds.ps unit-rings-of-kinds.r unit-rings-of-reads.Post
  pub room_ok : Determined 0 unit-room-ok-kinds.ps unit-room-ok-kinds.r unit-room-ok-reads.Post
  pub in_range : Determined 0 unit-in-range-kinds.ps unit-in-range-kinds.r unit-in-range-reads.Post
  pub lengths : Determined 0 unit-lengths-kinds.ps unit-lengths-kinds.r unit-lengths-reads.Post
  pub store_ok : Determined 0 unit-store-ok-kinds.ps unit-store-ok-kinds.r unit-store-ok-reads.Post
  pub work_ok : Determined 0 unit-work-ok-kinds.ps unit-work-ok-kinds.r unit-work-ok-reads.Post
  pub ring_place : Determined 0 unit-ring-place-kinds.ps unit-ring-place-kinds.r unit-ring-place-reads.Post
  pub work_places : Determined 0 unit-work-places-kinds.ps unit-work-places-kinds.r unit-work-places-reads.Post
  pub is_store : Determined 0 unit-is-store-kinds.ps unit-is-store-kinds.r unit-is-store-reads.Post
  pub is_total : Determined 1 unit-is-total-kinds.ps unit-is-total-kinds.r unit-is-total-reads.Post

pub record JudgesDetermined : Type 0 where
  pub judge_fresh : Determined 0 judges-judge-fresh-kinds.ps judges-judge-fresh-kinds.r judges-judge-fresh-reads.Post
  pub judge_reset : Determined 0 judges-judge-reset-kinds.ps judges-judge-reset-kinds.r judges-judge-reset-reads.Post
  pub judge_tail : Determined 0 judges-judge-tail-kinds.ps judges-judge-tail-kinds.r judges-judge-tail-reads.Post
  pub judge_apply : Determined 2 judges-judge-apply-kinds.ps judges-judge-apply-kinds.r judges-judge-apply-reads.Post
  pub judge_frames : Determined 1 judges-judge-frames-kinds.ps judges-judge-frames-kinds.r judges-judge-frames-reads.Post
  pub frame_count : Determined 0 judges-frame-count-kinds.ps judges-frame-count-kinds.r judges-frame-count-reads.Post
  pub judge_input : Determined 1 judges-judge-input-kinds.ps judges-judge-input-kinds.r judges-judge-input-reads.Post
  pub judge_open_apply : Determined 2 judges-judge-open-apply-kinds.ps judges-judge-open-apply-kinds.r judges-judge-open-apply-reads.Post
  pub judge_open_tail : Determined 0 judges-judge-open-tail-kinds.ps judges-judge-open-tail-kinds.r judges-judge-open-tail-reads.Post
  pub judge_read : Determined 0 judges-judge-read-kinds.ps judges-judge-read-kinds.r judges-judge-read-reads.Post
  pub judge_mix : Determined 0 judges-judge-mix-kinds.ps judges-judge-mix-kinds.r judges-judge-mix-reads.Post
  pub judge_line : Determined 0 judges-judge-line-kinds.ps judges-judge-line-kinds.r judges-judge-line-reads.Post
  pub judge_output : Determined 0 judges-judge-output-kinds.ps judges-judge-output-kinds.r judges-judge-output-reads.Post
  pub judge_close : Determined 0 judges-judge-close-kinds.ps judges-judge-close-kinds.r judges-judge-close-reads.Post
  pub judge_abandon : Determined 0 judges-judge-abandon-kinds.ps judges-judge-abandon-kinds.r judges-judge-abandon-reads.Post

pub record StagesDetermined : Type 0 where
  pub add_first : DeterminedExit 1 stages-add-first-kinds.ps stages-add-first-kinds.r stages-add-first-reads.Post (λ κs s. s.0.now)
  pub divide : DeterminedExit 1 stages-divide-kinds.ps stages-divide-kinds.r stages-divide-reads.Post (λ κs s. s.0.now)
  pub copy : DeterminedExit 2 stages-copy-kinds.ps stages-copy-kinds.r stages-copy-reads.Post (λ κs s. s.1.0.now)
  pub filters_finite : Determined 0 stages-filters-finite-kinds.ps stages-filters-finite-kinds.r stages-filters-finite-reads.Post

pub record RowsDetermined : Type 0 where
  pub line_rows : DeterminedWith1 1 rows-line-rows-kinds.ps rows-line-rows-kinds.r rows-line-rows-reads.Post (λ κs s. s.1.1.1.1.1.0.now)
  pub make_line : DeterminedWith1 1 rows-make-line-kinds.ps rows-make-line-kinds.r rows-make-line-reads.Post (λ κs s. s.1.1.1.1.0.now)
  pub read_line : DeterminedExit 2 rows-read-line-kinds.ps rows-read-line-kinds.r rows-read-line-reads.Post (λ κs s. s.1.1.1.1.0.now)
  pub output_fits : Determined 0 rows-output-fits-kinds.ps rows-output-fits-kinds.r rows-output-fits-reads.Post
  pub work_for : Determined 0 rows-work-for-kinds.ps rows-work-for-kinds.r rows-work-for-reads.Post
  pub three_at : DeterminedWith1 1 rows-three-at-kinds.ps rows-three-at-kinds.r rows-three-at-reads.Post (λ κs s. s.1.1.0.now)

pub record OutputsDetermined : Type 0 where
  pub output_row : DeterminedWith1 1 outputs-output-row-kinds.ps outputs-output-row-kinds.r outputs-output-row-reads.Post (λ κs s. s.1.1.1.1.1.0.now)
  pub make_output : DeterminedWith1 1 outputs-make-output-kinds.ps outputs-make-output-kinds.r outputs-make-output-reads.Post (λ κs s. s.1.1.1.0.now)

pub record FrameDetermined : Type 0 where
  pub run_frame : DeterminedWith3 3 frame-run-frame-kinds.ps frame-run-frame-kinds.r frame-run-frame-reads.Post (λ κs s. s.1.1.1.1.0.now) (λ κs s. s.1.1.1.1.1.0.now) (λ κs s. s.1.1.1.1.1.1.0.now)
  pub close_frame : DeterminedWith3 3 frame-close-frame-kinds.ps frame-close-frame-kinds.r frame-close-frame-reads.Post (λ κs s. s.1.1.1.0.now) (λ κs s. s.1.1.1.1.0.now) (λ κs s. s.1.1.1.1.1.0.now)

pub record ReverbDetermined : Type 0 where
  pub fresh : DeterminedWith1 1 reverb-fresh-kinds.ps reverb-fresh-kinds.r reverb-fresh-reads.Post (λ κs s. s.1.1.0.now)
  pub reset : DeterminedWith1 1 reverb-reset-kinds.ps reverb-reset-kinds.r reverb-reset-reads.Post (λ κs s. s.1.0.now)
  pub apply : DeterminedWith3 5 reverb-apply-kinds.ps reverb-apply-kinds.r reverb-apply-reads.Post (λ κs s. s.1.1.1.1.0.now) (λ κs s. s.1.1.1.1.1.0.now) (λ κs s. s.1.1.1.1.1.1.0.now)
  pub apply_frames : DeterminedWith3 5 reverb-apply-frames-kinds.ps reverb-apply-frames-kinds.r reverb-apply-frames-reads.Post (λ κs s. s.1.1.1.1.0.now) (λ κs s. s.1.1.1.1.1.0.now) (λ κs s. s.1.1.1.1.1.1.0.now)
  pub tail : DeterminedWith3 3 reverb-tail-kinds.ps reverb-tail-kinds.r reverb-tail-reads.Post (λ κs s. s.1.0.now) (λ κs s. s.1.1.0.now) (λ κs s. s.1.1.1.0.now)
  pub filters_of : Determined 1 reverb-filters-of-kinds.ps reverb-filters-of-kinds.r reverb-filters-of-reads.Post

pub record OpeningDetermined : Type 0 where
  pub open_apply : DeterminedWith1 4 opening-open-apply-kinds.ps opening-open-apply-kinds.r opening-open-apply-reads.Post (λ κs s. s.1.1.1.1.1.0.now)
  pub open_tail : DeterminedWith1 2 opening-open-tail-kinds.ps opening-open-tail-kinds.r opening-open-tail-reads.Post (λ κs s. s.1.1.0.now)

pub record JobsDetermined : Type 0 where
  pub job_read : DeterminedWith1 2 jobs-job-read-kinds.ps jobs-job-read-kinds.r jobs-job-read-reads.Post (λ κs s. s.1.1.1.0.now)
  pub job_mix : DeterminedWith1 1 jobs-job-mix-kinds.ps jobs-job-mix-kinds.r jobs-job-mix-reads.Post (λ κs s. s.1.0.now)
  pub job_line : DeterminedWith1 1 jobs-job-line-kinds.ps jobs-job-line-kinds.r jobs-job-line-reads.Post (λ κs s. s.1.1.0.now)
  pub job_output : DeterminedWith1 1 jobs-job-output-kinds.ps jobs-job-output-kinds.r jobs-job-output-reads.Post (λ κs s. s.1.0.now)

pub record ClosingDetermined : Type 0 where
  pub close : DeterminedWith3 3 closing-close-kinds.ps closing-close-kinds.r closing-close-reads.Post (λ κs s. s.1.0.now) (λ κs s. s.1.1.0.now) (λ κs s. s.1.1.1.0.now)
  pub abandon : DeterminedWith1 1 closing-abandon-kinds.ps closing-abandon-kinds.r closing-abandon-reads.Post (λ κs s. s.1.0.now)

pub record LibraryDetermined : Type 2 where
  pub samples : SamplesDetermined
  pub search : SearchDetermined
  pub delay : DelayDetermined
  pub iir : IirDetermined
  pub lanes : LanesDetermined
  pub bank : BankDetermined
  pub hadamard : HadamardDetermined
  pub mixer : MixerDetermined
  pub allpass : AllpassDetermined
  pub bands : BandsDetermined
  pub primes : PrimesDetermined
  pub audio_buffer : AudioBufferDetermined
  pub levels : LevelsDetermined
  pub wire : WireDetermined
  pub wave : WaveDetermined
  pub unit : UnitDetermined
  pub judges : JudgesDetermined
  pub stages : StagesDetermined
  pub rows : RowsDetermined
  pub outputs : OutputsDetermined
  pub frame : FrameDetermined
  pub reverb : ReverbDetermined
  pub opening : OpeningDetermined
  pub jobs : JobsDetermined
  pub closing : ClosingDetermined
