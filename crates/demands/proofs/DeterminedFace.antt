-- The same of the C face. Assumes nothing.
use mathlib.Core.Path.{sym, ◌∙◌}
use Rattle.demands.specs.DeterminedFace.{FaceDetermined}

pub face_determined : FaceDetermined
face_determined = record {
  fresh = λ κs a x y s t p q. (p.0 ∙ sym q.0, p.1 ∙ sym q.1);
  reset = λ κs a x y s t p q. (p.0 ∙ sym q.0, p.1 ∙ sym q.1);
  apply = λ κs a x y s t p q. (p.0 ∙ sym q.0, p.1.0 ∙ sym q.1.0, p.1.1.0 ∙ sym q.1.1.0, p.1.1.1 ∙ sym q.1.1.1);
  apply_frames = λ κs a x y s t p q. (p.0 ∙ sym q.0, p.1.0 ∙ sym q.1.0, p.1.1.0 ∙ sym q.1.1.0, p.1.1.1 ∙ sym q.1.1.1);
  tail = λ κs a x y s t p q. (p.0 ∙ sym q.0, p.1.0 ∙ sym q.1.0, p.1.1.0 ∙ sym q.1.1.0, p.1.1.1 ∙ sym q.1.1.1);
  interleave = λ κs a x y s t p q. (p.0 ∙ sym q.0, p.1 ∙ sym q.1);
  deinterleave = λ κs a x y s t p q. (p.0 ∙ sym q.0, p.1 ∙ sym q.1);
  make_silent = λ κs a x y s t p q. (p.0 ∙ sym q.0, p.1 ∙ sym q.1);
  scale = λ κs a x y s t p q. (p.0 ∙ sym q.0, p.1 ∙ sym q.1);
  buffer_mix = λ κs a x y s t p q. (p.0 ∙ sym q.0, p.1 ∙ sym q.1);
  downmix = λ κs a x y s t p q. (p.0 ∙ sym q.0, p.1 ∙ sym q.1);
  channel_number = λ κs a x y s t p q. p ∙ sym q;
  delay_min = λ κs a x y s t p q. p ∙ sym q;
  prime_power = λ κs a x y s t p q. p ∙ sym q;
  delay_value = λ κs a x y s t p q. p ∙ sym q;
  ring_get = λ κs a x y s t p q. (p.0 ∙ sym q.0, p.1 ∙ sym q.1);
  ring_put = λ κs a x y s t p q. (p.0 ∙ sym q.0, p.1 ∙ sym q.1);
  ring_get4 = λ κs a x y s t p q. p ∙ sym q;
  ring_put4 = λ κs a x y s t p q. (p.0 ∙ sym q.0, p.1 ∙ sym q.1);
  ring_reset = λ κs a x y s t p q. (p.0 ∙ sym q.0, p.1 ∙ sym q.1);
  open_apply = λ κs a x y s t p q. (p.0 ∙ sym q.0, p.1 ∙ sym q.1);
  open_tail = λ κs a x y s t p q. (p.0 ∙ sym q.0, p.1 ∙ sym q.1);
  job_read = λ κs a x y s t p q. (p.0 ∙ sym q.0, p.1 ∙ sym q.1);
  job_mix = λ κs a x y s t p q. (p.0 ∙ sym q.0, p.1 ∙ sym q.1);
  job_line = λ κs a x y s t p q. (p.0 ∙ sym q.0, p.1 ∙ sym q.1);
  job_output = λ κs a x y s t p q. (p.0 ∙ sym q.0, p.1 ∙ sym q.1);
  close = λ κs a x y s t p q. (p.0 ∙ sym q.0, p.1.0 ∙ sym q.1.0, p.1.1.0 ∙ sym q.1.1.0, p.1.1.1 ∙ sym q.1.1.1);
  abandon = λ κs a x y s t p q. (p.0 ∙ sym q.0, p.1 ∙ sym q.1);
  filter_run = λ κs a x y s t p q. (p.0 ∙ sym q.0, p.1 ∙ sym q.1);
  mix16 = λ κs a x y s t p q. (p.0 ∙ sym q.0, p.1 ∙ sym q.1);
  wave_read = λ κs a x y s t p q. p ∙ sym q;
  wave_samples = λ κs a x y s t p q. p ∙ sym q;
}
