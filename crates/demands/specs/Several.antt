-- Several frames at once are the same applies made singly (R10).
use Rattle.std.specs.Prelude.{ℕ, zero, suc, ◌*◌, ◌/◌, ◌<◌, ◌≤◌, ◌≡◌, true, false, ◌||◌, cond, List, [], ◌∷◌, ◌++◌, leb, eqb, Float, length, get_or, take, drop, Err}
use Rattle.samples.specs.declared.Refusal.TheVariants.{NotFinite}
use Rattle.samples.specs.Answers.{Accepted, number_of, accepted, or_else}
use Rattle.samples.specs.Lists.{row}
use Rattle.search.specs.Search.{first_bad}
use Rattle.audio_buffer.specs.declared.AudioEffectState.TheVariants.{TailComplete}
use Rattle.audio_buffer.specs.Verdict.{verdict_of}
use Rattle.bands.specs.declared.Times.{Times}
use Rattle.unit.specs.Layout.{Model}
use Rattle.judges.specs.Judges.{bad_input}
use Rattle.machine.specs.Ending.{Memory, Ending, cleared}
use Rattle.machine.specs.Whole.{apply}
use Rattle.machine.specs.Several.{frames_due, Several, none_left, several}
use Rattle.machine.specs.Calls.{Call, reset, whole, ending, answer, after}

-- R10.4: the applies of n frames of f samples
abbrev pub applies : Times → List Float → ℕ → ℕ → List Float → List Float → List Call
applies t coefficients f zero input output = []
applies t coefficients f (suc n) input output =
    whole (apply t coefficients (take f input)) (take f output) ∷ applies t coefficients f n (drop f input) (drop f output)

-- R10.4: those of several frames on the unit w
abbrev pub applies_of : Memory → Times → List Float → List Float → List Float → List Call
applies_of w t coefficients input output =
    let f = w.unit.settings.frame in
    applies t coefficients f (length input / f) input output

-- ---- calls made one after the other

-- R10.4: the unit and its memory after them
unfoldable pub after_all : Model → Memory → List Call → Memory
after_all m w [] = w
after_all m w (c ∷ cs) = after_all m (after m w c) cs

-- R10.7: their outputs, side by side
unfoldable pub outputs_of : Model → Memory → List Call → List Float
outputs_of m w [] = []
outputs_of m w (c ∷ cs) = (ending m w c).output ++ outputs_of m (after m w c) cs

-- R10.6: each is accepted
unfoldable pub AllAccepted : Model → Memory → List Call → Type 0
AllAccepted m w [] = Unit {0}
AllAccepted m w (c ∷ cs) = (answer m w c ≡ Accepted) × AllAccepted m (after m w c) cs

-- ---- what is proved

-- R10.4: the applies are as many as the input has frames, and number k plays frame k
abbrev pub EachFrame : Type 0
EachFrame =
    (w : Memory) (t : Times) (coefficients input output : List Float)
    → let f = w.unit.settings.frame in
    let calls = applies_of w t coefficients input output in
    (length calls ≡ length input / f)
    × ((k : ℕ) → k < length calls → get_or calls k reset ≡ whole (apply t coefficients (row f k input)) (row f k output))

-- R10.4, R10.9: e, where all of them are done, which leaves v
pub record AllDone (e : Ending) (v : Memory) : Type 0 where
  pub answered : e.answer ≡ Accepted
  pub verdict : e.verdict ≡ verdict_of v.unit.count
  pub memory : e.memory ≡ v

-- R10.5: e, where they stop at one that ended in d
pub record StoppedAt (e d : Ending) : Type 0 where
  pub refused : accepted d.answer ≡ false
  pub answered : e.answer ≡ d.answer
  pub verdict : e.verdict ≡ d.verdict
  pub memory : e.memory ≡ d.memory

-- x is what the calls, which are lent an output of f floats each, come to on w, made one after the other up to the first that is refused
pub record Singly (m : Model) (w : Memory) (f : ℕ) (calls : List Call) (output : List Float) (x : Several) : Type 0 where
  pub few : x.done ≤ length calls
  -- R10.6: those that were done were accepted
  pub first : AllAccepted m w (take x.done calls)
  -- R10.7: their outputs, and behind them what the output held
  pub outputs : x.ending.output ≡ outputs_of m w (take x.done calls) ++ drop (x.done * f) output
  -- R10.4, R10.9: with all of them done
  pub all : x.done ≡ length calls → AllDone x.ending (after_all m w calls)
  -- R10.5: or with one that is refused next
  pub stopped : x.done < length calls → StoppedAt x.ending (ending m (after_all m w (take x.done calls)) (get_or calls x.done reset))

-- with none of 1 to 7 due
abbrev pub SeveralIsSingly : Type 0
SeveralIsSingly =
    (m : Model) (w : Memory) (t : Times) (coefficients input output : List Float) → frames_due m w t coefficients input output ≡ Accepted
    → Singly m w w.unit.settings.frame (applies_of w t coefficients input output) output (several m w t coefficients input output)

-- R10.10: with none of 1 to 7 due, no frames do nothing and are accepted, with the verdict of the count kept
abbrev pub NoFrames : Type 0
NoFrames =
    (m : Model) (w : Memory) (t : Times) (coefficients output : List Float) → frames_due m w t coefficients [] output ≡ Accepted
    → several m w t coefficients [] output ≡ none_left w output

-- R10.8: the work memory is +0 throughout once a frame was done or a 9 was met, and else as it was
abbrev pub SeveralWork : Type 0
SeveralWork =
    (m : Model) (w : Memory) (t : Times) (coefficients input output : List Float)
    → let x = several m w t coefficients input output in
    x.ending.memory.work ≡ cond (leb 1 x.done || eqb (number_of x.ending.answer) 9) (cleared w.work) w.work

-- R10.11: while a frame is open none is done
abbrev pub NoneWhileOpen : Type 0
NoneWhileOpen =
    (m : Model) (w : Memory) (t : Times) (coefficients input output : List Float) → w.unit.held.busy ≡ true
    → (several m w t coefficients input output).done ≡ 0

-- R10.7: accepted, all frames are done, and nothing is left of what the output held
abbrev pub AllHandedOut : Type 0
AllHandedOut =
    (m : Model) (w : Memory) (t : Times) (coefficients input output : List Float)
    → let x = several m w t coefficients input output in
    x.ending.answer ≡ Accepted
    → (x.done ≡ length input / w.unit.settings.frame) × (x.ending.output ≡ outputs_of m w (applies_of w t coefficients input output))

-- R10.5, R10.9: x, refused among n frames of f samples. Frame number `done` decides: 8 with the place in that frame, and 9 where it is finite
pub record StoppedIn (f n : ℕ) (input : List Float) (x : Several) : Type 0 where
  pub early : x.done < n
  pub answered : x.ending.answer ≡ or_else (bad_input (first_bad (row f x.done input))) (Err NotFinite)
  pub verdict : x.ending.verdict ≡ TailComplete

-- with none of 1 to 7 due, of a model with two allpass stages, each of two rings
abbrev pub StoppedWith : Type 0
StoppedWith =
    (m : Model) → length m.pass_lengths ≡ 4 → (w : Memory) (t : Times) (coefficients input output : List Float)
    → frames_due m w t coefficients input output ≡ Accepted
    → let f = w.unit.settings.frame in
    let x = several m w t coefficients input output in
    accepted x.ending.answer ≡ false → StoppedIn f (length input / f) input x
