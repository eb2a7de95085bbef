-- A refused call of a part leaves what it was lent: its contract says so. Assumes nothing.
use Prim.Native.Nat.{◌+◌}
use mathlib.Core.Path.{◌≡◌, refl, sym, ap, ◌∙◌}
use mathlib.Core.Bool.{false}
use lib.ListN.{length, replicate}
use Rattle.samples.specs.Answers.{Answer, accept, accepted}
use Rattle.samples.specs.Binary32.{+0}
use Rattle.samples.proofs.Laws.{accept_no}
use Rattle.delay.specs.declared.RingAnswer.{RingAnswer}
use Rattle.delay.specs.declared.FourAnswer.{FourAnswer}
use Rattle.delay.specs.Ring.{wrap, read, write, ahead, write_each, list_of}
use Rattle.delay.specs.Calls.{judged_length, judged_ring, judged_count, read_to, write_to}
use Rattle.hadamard.specs.Mix.{mixed, quarter}
use Rattle.hadamard.specs.Rows.{rows_mixed}
use Rattle.primes.specs.Values.{judged_values, values_from, delay_min}
use Rattle.audio_buffer.specs.Judges.{judged_two}
use Rattle.audio_buffer.specs.Layout.{interleaved, deinterleaved}
use Rattle.levels.specs.Judges.{judged_one, judged_downmix}
use Rattle.levels.specs.Levels.{scaled, buffers_mixed as buffers_mixed, downmixed}
use Rattle.demands.specs.RefusedParts.{PartsUnchanged}

-- what is `new` where the answer b accepts and `old` where it refuses is `old`, if the answer given, which is b, refuses
pub kept : {A : Type 0} (a b : Answer) (new old : A) {left : A} → left ≡ accept b new old → a ≡ b → accepted a ≡ false → left ≡ old
kept a b new old e q h = e ∙ accept_no b new old (sym (ap accepted q) ∙ h)

pub parts_unchanged : PartsUnchanged
parts_unchanged = record {
  delay = record {
    fresh_ring = λ κs a x s p h. kept x.answer (judged_length (length a.0.now)) (replicate (length a.0.now) +0) a.0.now p.1 (ap (λ (r : RingAnswer). r.answer) p.0) h;
    reset_ring = λ κs a x s p h. kept x.answer (judged_ring (length a.0.now) a.1.0) (replicate (length a.0.now) +0) a.0.now p.1 (ap (λ (r : RingAnswer). r.answer) p.0) h;
    reset_cursors = λ κs a x s p h. ap (λ (r : RingAnswer). r.cursors) p.0;
    get_out = λ κs a x s p h. kept x.answer (judged_count (length a.0.now) a.1.0 (length a.1.1.0.now)) (read a.0.now a.1.0.read.0 (length a.1.1.0.now)) a.1.1.0.now p.1 (ap (λ (r : RingAnswer). r.answer) p.0) h;
    get_cursors = λ κs a x s p h. kept x.answer (judged_count (length a.0.now) a.1.0 (length a.1.1.0.now)) (read_to a.1.0 (wrap (length a.0.now) (a.1.0.read.0 + length a.1.1.0.now))) a.1.0 (ap (λ (r : RingAnswer). r.cursors) p.0) (ap (λ (r : RingAnswer). r.answer) p.0) h;
    put_ring = λ κs a x s p h. kept x.answer (judged_count (length a.0.now) a.1.0 (length a.1.1.0.now)) (write a.0.now a.1.0.write.0 a.1.1.0.now) a.0.now p.1 (ap (λ (r : RingAnswer). r.answer) p.0) h;
    put_cursors = λ κs a x s p h. kept x.answer (judged_count (length a.0.now) a.1.0 (length a.1.1.0.now)) (write_to a.1.0 (wrap (length a.0.now) (a.1.0.write.0 + length a.1.1.0.now))) a.1.0 (ap (λ (r : RingAnswer). r.cursors) p.0) (ap (λ (r : RingAnswer). r.answer) p.0) h;
    get4_cursors = λ κs a x s p h. kept x.answer (judged_ring (length a.0.now) a.1.0) (read_to a.1.0 (ahead (length a.0.now) 4 a.1.0.read.0)) a.1.0 (ap (λ (r : FourAnswer). r.cursors) (p)) (ap (λ (r : FourAnswer). r.answer) (p)) h;
    put4_ring = λ κs a x s p h. kept x.answer (judged_ring (length a.0.now) a.1.0) (write_each a.0.now a.1.0.write.0 (list_of a.1.1.0)) a.0.now p.1 (ap (λ (r : RingAnswer). r.answer) p.0) h;
    put4_cursors = λ κs a x s p h. kept x.answer (judged_ring (length a.0.now) a.1.0) (write_to a.1.0 (ahead (length a.0.now) 4 a.1.0.write.0)) a.1.0 (ap (λ (r : RingAnswer). r.cursors) p.0) (ap (λ (r : RingAnswer). r.answer) p.0) h;
  };
  hadamard = record {
    mix_sample_y = λ κs a x s p h. kept (x) (x) (mixed 16 quarter a.0.now) a.1.0.now p.1 refl h;
  };
  mixer = record {
    mix_rows_rows = λ κs a x s p h. kept (x) (x) (rows_mixed a.0 a.1.0 a.1.1.0.now) a.1.1.0.now p.1 refl h;
  };
  primes = record {
    delay_values_out = λ κs a x s p h. kept (x) (judged_values a.0 a.1.0 (length a.1.1.0.now) (length a.1.1.1.0.now)) (values_from (delay_min a.0 a.1.0) 0 a.1.1.0.now) a.1.1.1.0.now p.1 p.0 h;
  };
  audio_buffer = record {
    write_interleaved_target = λ κs a x s p h. kept (x) (judged_two a.0 a.1.0 (length a.1.1.0.now) (length a.1.1.1.0.now)) (interleaved a.0 a.1.0 a.1.1.0.now) a.1.1.1.0.now p.1 p.0 h;
    read_interleaved_buffer = λ κs a x s p h. kept (x) (judged_two a.0 a.1.0 (length a.1.1.0.now) (length a.1.1.1.0.now)) (deinterleaved a.0 a.1.0 a.1.1.0.now) a.1.1.1.0.now p.1 p.0 h;
  };
  levels = record {
    make_silent_buffer = λ κs a x s p h. kept (x) (judged_one a.0 a.1.0 (length a.1.1.0.now)) (replicate (length a.1.1.0.now) +0) a.1.1.0.now p.1 p.0 h;
    scale_buffer = λ κs a x s p h. kept (x) (judged_one a.0 a.1.0 (length a.1.1.1.0.now)) (scaled a.1.1.0 a.1.1.1.0.now) a.1.1.1.0.now p.1 p.0 h;
    mix_other = λ κs a x s p h. kept (x) (judged_two a.0 a.1.0 (length a.1.1.0.now) (length a.1.1.1.0.now)) (buffers_mixed a.1.1.0.now a.1.1.1.0.now) a.1.1.1.0.now p.1 p.0 h;
    downmix_output = λ κs a x s p h. kept (x) (judged_downmix a.0 a.1.0 (length a.1.1.0.now) (length a.1.1.1.0.now)) (downmixed a.0 a.1.0 a.1.1.0.now) a.1.1.1.0.now p.1 p.0 h;
  };
}
