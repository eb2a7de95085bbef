-- What a contract allows is read off its shape: a clause for the result and one for each slice lent. Assumes nothing.
use mathlib.Core.Path.{◌≡◌, sym, ◌∙◌}
use lib.ListN.{get_or}
use Rattle.lanes.specs.declared.band_lanes.FourBands.{FourBands}
use Rattle.bank.specs.Lines.{lines}
use Rattle.demands.specs.DeterminedLibrary.{LibraryDetermined}

-- four bands are told by the list of them
same_bands : (x y : FourBands) → lines x ≡ lines y → x ≡ y
same_bands x y e = λ i. record { b0 = get_or (e i) 0 x.b0; b1 = get_or (e i) 1 x.b0; b2 = get_or (e i) 2 x.b0; b3 = get_or (e i) 3 x.b0 }

pub library_determined : LibraryDetermined
library_determined = record {
  samples = record {
    number = λ κs a x y s t p q. p ∙ sym q;
    index = λ κs a x y s t p q. p ∙ sym q;
    need = λ κs a x y s t p q. p ∙ sym q;
    rate_ok = λ κs a x y s t p q. p ∙ sym q;
    frame_ok = λ κs a x y s t p q. p ∙ sym q;
    is_finite = λ κs a x y s t p q. p ∙ sym q;
    is_plus_zero = λ κs a x y s t p q. p ∙ sym q;
    clear = λ κs a x y s t p q. p ∙ sym q;
  };
  search = record {
    first_bad = λ κs a x y s t p q. p ∙ sym q;
    all_finite = λ κs a x y s t p q. p ∙ sym q;
  };
  delay = record {
    fresh = λ κs a x y s t p q. (p.0 ∙ sym q.0, p.1 ∙ sym q.1);
    reset = λ κs a x y s t p q. (p.0 ∙ sym q.0, p.1 ∙ sym q.1);
    get = λ κs a x y s t p q. (p.0 ∙ sym q.0, p.1 ∙ sym q.1);
    put = λ κs a x y s t p q. (p.0 ∙ sym q.0, p.1 ∙ sym q.1);
    get4 = λ κs a x y s t p q. p ∙ sym q;
    put4 = λ κs a x y s t p q. (p.0 ∙ sym q.0, p.1 ∙ sym q.1);
  };
  iir = record {
    new_from_coefficients = λ κs a x y s t p q. p ∙ sym q;
    filtered = λ κs a x y s t p q. p ∙ sym q;
    run = λ κs a x y s t p q. (p.0 ∙ sym q.0, p.1 ∙ sym q.1);
    three_bands = λ κs a x y s t p q. (p.0 ∙ sym q.0, p.1 ∙ sym q.1);
    is_finite = λ κs a x y s t p q. p ∙ sym q;
    is_blank = λ κs a x y s t p q. p ∙ sym q;
  };
  lanes = record {
    by_band = λ κs a x y s t p q. p ∙ sym q;
    bands_at = λ κs a x y s t p q. p ∙ sym q;
    step_bands = λ κs a x y s t p q. p ∙ sym q;
    pack = λ κs a x y s t p q. p ∙ sym q;
    lane = λ κs a x y s t p q. p ∙ sym q;
    step = λ κs a x y s t p q. p ∙ sym q;
  };
  bank = record {
    four_lines = λ κs a x y s t p q. (same_bands _ _ (p.0 ∙ sym q.0), p.1 ∙ sym q.1);
    one_line = λ κs a x y s t p q. (p.0 ∙ sym q.0, p.1 ∙ sym q.1);
  };
  hadamard = record {
    minus = λ κs a x y s t p q. p ∙ sym q;
    mix_sample = λ κs a x y s t p q. (p.0 ∙ sym q.0, (rw p.0 at p.1) ∙ sym (rw q.0 at q.1));
    plus_minus = λ κs a x y s t p q. p ∙ sym q;
  };
  mixer = record {
    mix_rows = λ κs a x y s t p q. (p.0 ∙ sym q.0, (rw p.0 at p.1) ∙ sym (rw q.0 at q.1));
  };
  allpass = record {
    pass_stage = λ κs a x y s t p q. p ∙ sym q;
  };
  bands = record {
    time_ok = λ κs a x y s t p q. p ∙ sym q;
    times_ok = λ κs a x y s t p q. p ∙ sym q;
    largest = λ κs a x y s t p q. p ∙ sym q;
    tail_count = λ κs a x y s t p q. p ∙ sym q;
    fallen = λ κs a x y s t p q. p ∙ sym q;
  };
  primes = record {
    prime = λ κs a x y s t p q. p ∙ sym q;
    delay = λ κs a x y s t p q. p ∙ sym q;
    delay_min = λ κs a x y s t p q. p ∙ sym q;
    prime_power = λ κs a x y s t p q. p ∙ sym q;
    delay_value = λ κs a x y s t p q. p ∙ sym q;
    delay_values = λ κs a x y s t p q. (p.0 ∙ sym q.0, p.1 ∙ sym q.1);
  };
  audio_buffer = record {
    verdict = λ κs a x y s t p q. p ∙ sym q;
    judge_buffer = λ κs a x y s t p q. p ∙ sym q;
    judge_two = λ κs a x y s t p q. p ∙ sym q;
    write_interleaved = λ κs a x y s t p q. (p.0 ∙ sym q.0, p.1 ∙ sym q.1);
    read_interleaved = λ κs a x y s t p q. (p.0 ∙ sym q.0, p.1 ∙ sym q.1);
    channel_number = λ κs a x y s t p q. p ∙ sym q;
    channel = λ κs a x y s t p q. p ∙ sym q;
  };
  levels = record {
    make_silent = λ κs a x y s t p q. (p.0 ∙ sym q.0, p.1 ∙ sym q.1);
    scale = λ κs a x y s t p q. (p.0 ∙ sym q.0, p.1 ∙ sym q.1);
    mix = λ κs a x y s t p q. (p.0 ∙ sym q.0, p.1 ∙ sym q.1);
    downmix = λ κs a x y s t p q. (p.0 ∙ sym q.0, p.1 ∙ sym q.1);
  };
  wire = record {
    sample = λ κs a x y s t p q. p ∙ sym q;
    bits = λ κs a x y s t p q. p ∙ sym q;
    unpack = λ G C lg lc copy clone d code e κs a x y s t p q. p ∙ sym q;
    decode = λ κs a x y s t p q. p ∙ sym q;
    encode = λ κs a x y s t p q. p ∙ sym q;
  };
  wave = record {
    read_number = λ κs a x y s t p q. p ∙ sym q;
    read_place = λ κs a x y s t p q. p ∙ sym q;
    take_of = λ κs a x y s t p q. p ∙ sym q;
    read = λ κs a x y s t p q. p ∙ sym q;
    «data» = λ κs a x y s t p q. p ∙ sym q;
    floats = λ κs a x y s t p q. p ∙ sym q;
  };
  unit = record {
    fresh_state = λ κs a x y s t p q. p ∙ sym q;
    quiet = λ κs a x y s t p q. p ∙ sym q;
    lent_ok = λ κs a x y s t p q. p ∙ sym q;
    rings_hold = λ κs a x y s t p q. p ∙ sym q;
    rings_of = λ κs a x y s t p q. p ∙ sym q;
    room_ok = λ κs a x y s t p q. p ∙ sym q;
    in_range = λ κs a x y s t p q. p ∙ sym q;
    lengths = λ κs a x y s t p q. p ∙ sym q;
    store_ok = λ κs a x y s t p q. p ∙ sym q;
    work_ok = λ κs a x y s t p q. p ∙ sym q;
    ring_place = λ κs a x y s t p q. p ∙ sym q;
    work_places = λ κs a x y s t p q. p ∙ sym q;
    is_store = λ κs a x y s t p q. p ∙ sym q;
    is_total = λ κs a x y s t p q. p ∙ sym q;
  };
  judges = record {
    judge_fresh = λ κs a x y s t p q. p ∙ sym q;
    judge_reset = λ κs a x y s t p q. p ∙ sym q;
    judge_tail = λ κs a x y s t p q. p ∙ sym q;
    judge_apply = λ κs a x y s t p q. p ∙ sym q;
    judge_frames = λ κs a x y s t p q. p ∙ sym q;
    frame_count = λ κs a x y s t p q. p ∙ sym q;
    judge_input = λ κs a x y s t p q. p ∙ sym q;
    judge_open_apply = λ κs a x y s t p q. p ∙ sym q;
    judge_open_tail = λ κs a x y s t p q. p ∙ sym q;
    judge_read = λ κs a x y s t p q. p ∙ sym q;
    judge_mix = λ κs a x y s t p q. p ∙ sym q;
    judge_line = λ κs a x y s t p q. p ∙ sym q;
    judge_output = λ κs a x y s t p q. p ∙ sym q;
    judge_close = λ κs a x y s t p q. p ∙ sym q;
    judge_abandon = λ κs a x y s t p q. p ∙ sym q;
  };
  stages = record {
    add_first = λ κs a x y s t p q. p ∙ sym q;
    divide = λ κs a x y s t p q. p ∙ sym q;
    copy = λ κs a x y s t p q. p ∙ sym q;
    filters_finite = λ κs a x y s t p q. p ∙ sym q;
  };
  rows = record {
    line_rows = λ κs a x y s t p q. (p.0 ∙ sym q.0, p.1 ∙ sym q.1);
    make_line = λ κs a x y s t p q. (p.0 ∙ sym q.0, p.1 ∙ sym q.1);
    read_line = λ κs a x y s t p q. p ∙ sym q;
    output_fits = λ κs a x y s t p q. p ∙ sym q;
    work_for = λ κs a x y s t p q. p ∙ sym q;
    three_at = λ κs a x y s t p q. (p.0 ∙ sym q.0, p.1 ∙ sym q.1);
  };
  outputs = record {
    output_row = λ κs a x y s t p q. (p.0 ∙ sym q.0, p.1 ∙ sym q.1);
    make_output = λ κs a x y s t p q. (p.0 ∙ sym q.0, p.1 ∙ sym q.1);
  };
  frame = record {
    run_frame = λ κs a x y s t p q. (p.0 ∙ sym q.0, p.1.0 ∙ sym q.1.0, p.1.1.0 ∙ sym q.1.1.0, p.1.1.1 ∙ sym q.1.1.1);
    close_frame = λ κs a x y s t p q. (p.0 ∙ sym q.0, p.1.0 ∙ sym q.1.0, p.1.1.0 ∙ sym q.1.1.0, p.1.1.1 ∙ sym q.1.1.1);
  };
  reverb = record {
    fresh = λ κs a x y s t p q. (p.0 ∙ sym q.0, p.1 ∙ sym q.1);
    reset = λ κs a x y s t p q. (p.0 ∙ sym q.0, p.1 ∙ sym q.1);
    apply = λ κs a x y s t p q. (p.0 ∙ sym q.0, p.1.0 ∙ sym q.1.0, p.1.1.0 ∙ sym q.1.1.0, p.1.1.1 ∙ sym q.1.1.1);
    apply_frames = λ κs a x y s t p q. (p.0 ∙ sym q.0, p.1.0 ∙ sym q.1.0, p.1.1.0 ∙ sym q.1.1.0, p.1.1.1 ∙ sym q.1.1.1);
    tail = λ κs a x y s t p q. (p.0 ∙ sym q.0, p.1.0 ∙ sym q.1.0, p.1.1.0 ∙ sym q.1.1.0, p.1.1.1 ∙ sym q.1.1.1);
    filters_of = λ κs a x y s t p q. p ∙ sym q;
  };
  opening = record {
    open_apply = λ κs a x y s t p q. (p.0 ∙ sym q.0, p.1 ∙ sym q.1);
    open_tail = λ κs a x y s t p q. (p.0 ∙ sym q.0, p.1 ∙ sym q.1);
  };
  jobs = record {
    job_read = λ κs a x y s t p q. (p.0 ∙ sym q.0, p.1 ∙ sym q.1);
    job_mix = λ κs a x y s t p q. (p.0 ∙ sym q.0, p.1 ∙ sym q.1);
    job_line = λ κs a x y s t p q. (p.0 ∙ sym q.0, p.1 ∙ sym q.1);
    job_output = λ κs a x y s t p q. (p.0 ∙ sym q.0, p.1 ∙ sym q.1);
  };
  closing = record {
    close = λ κs a x y s t p q. (p.0 ∙ sym q.0, p.1.0 ∙ sym q.1.0, p.1.1.0 ∙ sym q.1.1.0, p.1.1.1 ∙ sym q.1.1.1);
    abandon = λ κs a x y s t p q. (p.0 ∙ sym q.0, p.1 ∙ sym q.1);
  };
}
