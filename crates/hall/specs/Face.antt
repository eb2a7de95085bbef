-- What C is answered (R2.38): structs of numbers, since C has no enum that carries an index.
use Rattle.std.specs.Prelude.{Bool, true, false, Float}
use Rattle.samples.specs.Answers.{number_of, index_of}
use Rattle.audio_buffer.specs.declared.AudioEffectState.{AudioEffectState}
use Rattle.audio_buffer.specs.declared.AudioEffectState.TheVariants.{TailRemaining, TailComplete}
use Rattle.bands.specs.declared.Times.{Times}
use Rattle.delay.specs.declared.Four.{Four}
use Rattle.delay.specs.declared.FourAnswer.{FourAnswer}
use Rattle.delay.specs.declared.RingAnswer.{RingAnswer}
use Rattle.primes.specs.declared.Value.{Value}
use Rattle.unit.specs.declared.Outcome.{Outcome}
use Rattle.unit.specs.declared.FramesOutcome.{FramesOutcome}
use Rattle.wave.specs.Reading.{Reading, read_number, read_place, take_of}
use Rattle.hall.specs.declared.HallAnswer.{HallAnswer}
use Rattle.hall.specs.declared.HallFourAnswer.{HallFourAnswer}
use Rattle.hall.specs.declared.HallFramesAnswer.{HallFramesAnswer}
use Rattle.hall.specs.declared.HallRingAnswer.{HallRingAnswer}
use Rattle.hall.specs.declared.HallValue.{HallValue}
use Rattle.hall.specs.declared.HallWave.{HallWave}

-- the verdict as one of two
abbrev pub remains : AudioEffectState → Bool
remains TailRemaining = true
remains TailComplete = false

-- R2.38: a call of the unit, by its number, the position with 8, the verdict and the state
unfoldable pub faced : Outcome → HallAnswer
faced o = record {
  number = number_of o.answer;
  index = index_of o.answer;
  remaining = remains o.verdict;
  state = o.state;
}

-- R10.12: several frames at once, and how many of them were done
unfoldable pub faced_frames : FramesOutcome → HallFramesAnswer
faced_frames r = record {
  number = number_of r.outcome.answer;
  index = index_of r.outcome.answer;
  done = r.done;
  remaining = remains r.outcome.verdict;
  state = r.outcome.state;
}

-- a call of a ring alone, without and with four samples
unfoldable pub faced_ring : RingAnswer → HallRingAnswer
faced_ring r = record { number = number_of r.answer; cursors = r.cursors }

unfoldable pub faced_four : FourAnswer → HallFourAnswer
faced_four r = record { number = number_of r.answer; cursors = r.cursors; x = r.x }

-- a delay value
unfoldable pub faced_value : Value → HallValue
faced_value v = record { number = number_of v.answer; value = v.value }

-- R11.14: what is read of a take
unfoldable pub faced_wave : Reading → HallWave
faced_wave r =
    let t = take_of r in
    record {
      number = read_number r;
      place = read_place r;
      rate = t.format.rate;
      channels = t.format.channels;
      tag = t.format.tag;
      first = t.first;
      len = t.len;
    }

-- what C passes number by number: the times of the three bands, and four samples
abbrev pub times_of : Float → Float → Float → Times
times_of t0 t1 t2 = record { low = t0; mid = t1; high = t2 }

abbrev pub four : Float → Float → Float → Float → Four
four x0 x1 x2 x3 = record { 0 = x0; 1 = x1; 2 = x2; 3 = x3 }
