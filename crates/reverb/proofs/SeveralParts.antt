-- A frame among several: what it comes to is how the apply on the unit as it is then ends. Assumes nothing.
use Rattle.std.specs.Prelude.{Result, Ok, Err}
use mathlib.Core.Path.{◌≡◌, refl, sym, ap, ◌∙◌}
use mathlib.Core.Bool.{Bool, true, false, ◌&&◌, cond}
use mathlib.Core.List.{List}
use Prim.Native.Nat.{ℕ}
use lib.Ieee.{Float}
use lib.IntN.{ℤ, pos}
use lib.ListN.{length, take, replicate}
use Rattle.samples.specs.declared.Refusal.{Refusal}
use Rattle.samples.specs.declared.Refusal.TheVariants.{NotFinite}
use Rattle.samples.specs.Answers.{Answer, Accepted, accept, with_value}
use Rattle.samples.specs.Binary32.{+0}
use Rattle.samples.specs.Sizes.{frame_ok}
use Rattle.samples.proofs.Laws.{split_and, join_and, accept_either}
use Rattle.search.specs.Search.{first_bad}
use Rattle.audio_buffer.specs.declared.AudioEffectState.TheVariants.{TailComplete}
use Rattle.audio_buffer.specs.Verdict.{verdict_of}
use Rattle.bands.specs.declared.Times.{Times}
use Rattle.bands.specs.Tail.{tail_count}
use Rattle.iir.specs.declared.Filter.{Filter}
use Rattle.unit.specs.declared.State.{State}
use Rattle.unit.specs.declared.Rings.{Rings}
use Rattle.unit.specs.UnitState.{UnitState, of_state}
use Rattle.unit.specs.Layout.{wall, lengths}
use Rattle.unit.specs.Range.{cursors_in}
use Rattle.unit.specs.Room.{rings_hold, passes_are, rings_in, room_ok}
use Rattle.judges.specs.Judges.{bad_input, judged_apply}
use Rattle.stages.specs.Lines.{filters_of}
use Rattle.stages.specs.Frame.{Frame, new_filters, frame_in}
use Rattle.stages.specs.Settle.{frame_finite, settled}
use Rattle.stages.proofs.Within.{cursors_moved}
use Rattle.frame.specs.declared.Stepped.{Stepped}
use Rattle.frame.specs.Steps.{Left, left_by, ran, ran_with_room, untouched, stepped_on}
use Rattle.machine.specs.Ending.{Memory, Ending, cleared}
use Rattle.machine.specs.Whole.{apply, at_once, played}
use Rattle.machine.proofs.Cases.{cond_either}
use Rattle.reverb.specs.Workers.{unit_stepped, rings_at, answer_of, kept_of, NextLeft, next_frame}

-- x is what a frame comes to, and store, work and output are what it leaves, where it turns out as t
abbrev pub Leaves : NextLeft → Result Stepped Refusal → List Float → List Float → List Float → Type 0
Leaves t x store work output = (x ≡ t.next) × ((store ≡ t.store) × ((work ≡ t.work) × (output ≡ t.output)))

module _ (f : ℕ) (ls : List ℕ) (last : Stepped) (fs : List Filter) (input store work output : List Float) where
  abbrev r : Rings
  r = rings_at ls last

  abbrev X : Frame
  X = frame_in wall.lines f wall.factor wall.divisor false r fs input store

  -- where it is kept
  abbrev on : NextLeft
  on = record {
    next = Ok (stepped_on f r true (new_filters X));
    store = settled wall.lines f r X.lines.put X.output.rings store;
    work = cleared work;
    output = X.output.out;
  }

  -- its input is refused
  pub eight : {bad : Refusal} → bad_input (first_bad input) ≡ Err bad → Leaves (next_frame f ls last fs input store work output) (Err bad) store work output
  unfolding next_frame
  eight h = rw h (refl, (refl, (refl, refl)))

  -- its input lies at the front of the work memory w, and there is room
  module _ (let_by : bad_input (first_bad input) ≡ Accepted) (w : List Float) (front : take f w ≡ input) (long : length w ≡ length work)
      (room : room_ok wall f r (length store) (length w) (length output) ≡ true) (v : Rings) (e : v ≡ r) where
    here : ran wall f v false fs store w output
        ≡ left_by wall.lines f r (frame_finite X) (new_filters X) (record { input = input; reads = X.reads; mixed = X.lines.put; output = X.output.out; rings = X.output.rings }) store w output
    here =
        ap (λ (k : Rings). ran wall f k false fs store w output) e
        ∙ ap (λ (b : Bool). cond b (ran_with_room wall.lines f wall.factor wall.divisor false r fs store w output) (untouched r fs store w output)) room
        ∙ ap (λ (i : List Float). let x = frame_in wall.lines f wall.factor wall.divisor false r fs i store in
        left_by wall.lines f r (frame_finite x) (new_filters x) (record { input = i; reads = x.reads; mixed = x.lines.put; output = x.output.out; rings = x.output.rings }) store w output) front

    module _ (x : Stepped) (store' work' output' : List Float) (ex : x ≡ (ran wall f v false fs store w output).stepped)
        (es : store' ≡ (ran wall f v false fs store w output).store) (ew : work' ≡ (ran wall f v false fs store w output).work)
        (eo : output' ≡ (ran wall f v false fs store w output).output) where
      judged : (b : Bool) → x.ok ≡ b → frame_finite X ≡ b
      unfolding left_by
      judged b q = sym (ap (λ (y : Stepped). y.ok) (ex ∙ ap (λ (l : Left). l.stepped) here)) ∙ q

      pub kept_next : x.ok ≡ true → Leaves (next_frame f ls last fs input store work output) (Ok x) store' work' output'
      unfolding next_frame left_by
      kept_next q =
          rw (let_by, judged true q) (
            (ap Ok (ex ∙ ap (λ (l : Left). l.stepped) here ∙ ap (λ (b : Bool). stepped_on f r b (new_filters X)) (judged true q))),
            (
              es ∙ ap (λ (l : Left). l.store) here ∙ ap (λ (b : Bool). cond b (settled wall.lines f r X.lines.put X.output.rings store) store) (judged true q),
              (
                ew ∙ ap (λ (l : Left). l.work) here ∙ ap (λ (n : ℕ). replicate n +0) long,
                eo ∙ ap (λ (l : Left). l.output) here ∙ ap (λ (b : Bool). cond b X.output.out output) (judged true q),
              ),
            ),
          )

      pub nine : x.ok ≡ false → Leaves (next_frame f ls last fs input store work output) (Err NotFinite) store' work' output'
      unfolding next_frame left_by
      nine q =
          rw (let_by, judged false q) (
            refl,
            (
              es ∙ ap (λ (l : Left). l.store) here ∙ ap (λ (b : Bool). cond b (settled wall.lines f r X.lines.put X.output.rings store) store) (judged false q),
              (
                ew ∙ ap (λ (l : Left). l.work) here ∙ ap (λ (n : ℕ). replicate n +0) long,
                eo ∙ ap (λ (l : Left). l.output) here ∙ ap (λ (b : Bool). cond b X.output.out output) (judged false q),
              ),
            ),
          )

-- ---- the same as an apply of the unit s, whose last frame was `last` and whose count is `count`

module _ (s : State) (t : Times) (coefficients : List Float) (last : Stepped) (count : ℤ) (input store work output : List Float) where
  abbrev u : UnitState
  u = unit_stepped (of_state s) last count

  abbrev w : Memory
  w = record { unit = u; store = store; work = work }

  -- the tail that is to come
  abbrev next : ℤ
  next = pos (tail_count t s.rate s.frame)

  abbrev T : NextLeft
  T = next_frame s.frame (lengths wall (of_state s)) last (filters_of 51 coefficients) input store work output

  -- the ending that it makes: accepted, the unit is that of the frame
  abbrev pub as_ending : NextLeft → Ending
  as_ending x =
      let a = answer_of x.next in
      record {
        answer = a;
        verdict = accept a (verdict_of next) TailComplete;
        memory = record { unit = accept a (unit_stepped (of_state s) (kept_of x.next last) next) u; store = x.store; work = x.work };
        output = x.output;
      }

  pub turn-ends : judged_apply wall u t coefficients input (length store) (length work) (length output) ≡ bad_input (first_bad input)
      → at_once wall w (apply t coefficients input) output ≡ as_ending T
  unfolding next_frame played
  turn-ends e = go due refl
    where
      due : Answer
      due = bad_input (first_bad input)

      x : Frame
      x = frame_in wall.lines s.frame wall.factor wall.divisor false (rings_at (lengths wall (of_state s)) last) (filters_of 51 coefficients) input store

      finite : (b : Bool) → frame_finite x ≡ b → due ≡ Accepted → at_once wall w (apply t coefficients input) output ≡ as_ending T
      finite true f d = rw (e, d, f) refl
      finite false f d = rw (e, d, f) refl

      go : (d : Answer) → due ≡ d → at_once wall w (apply t coefficients input) output ≡ as_ending T
      go (Ok tt) h = finite (frame_finite x) refl h
      go (Err bad) h = rw (e, h) refl

-- ---- on the rings as it leaves them there is room for the next

room_moved : (f : ℕ) (ls : List ℕ) (last : Stepped) (gs : List Filter) (store work output : ℕ) → room_ok wall f (rings_at ls last) store work output ≡ true
    → room_ok wall f (rings_at ls (stepped_on f (rings_at ls last) true gs)) store work output ≡ true
unfolding room_ok
room_moved f ls last gs store work output e =
    let a = split_and (frame_ok f) _ e in
    let b = split_and (rings_hold f ls && passes_are wall wall.pass_lengths) _ a.1 in
    let c = split_and (rings_in (rings_at ls last)) _ b.1 in
    let d = split_and (cursors_in ls last.lines) _ c.0 in
    join_and a.0
    (join_and b.0 (join_and (join_and (cursors_moved f ls last.lines d.0) (cursors_moved f wall.pass_lengths last.passes d.1)) c.1))

kept_same : (a : Answer) (last : Stepped) → kept_of (with_value a last) last ≡ last
kept_same (Ok tt) last = refl
kept_same (Err bad) last = refl

pub room_next : (f : ℕ) (ls : List ℕ) (last : Stepped) (fs : List Filter) (input store work output : List Float) (store_long work_long output_long : ℕ)
    → let x = next_frame f ls last fs input store work output in
    room_ok wall f (rings_at ls last) store_long work_long output_long ≡ true
    → room_ok wall f (rings_at ls (kept_of x.next last)) store_long work_long output_long ≡ true
unfolding next_frame
room_next f ls last fs input store work output store_long work_long output_long room =
    accept_either Fits (bad_input (first_bad input))
    (λ d. cond_either Fits (frame_finite (X f ls last fs input store work output)) (λ q. room_moved f ls last (new_filters (X f ls last fs input store work output)) store_long work_long output_long room) (λ q. room))
    (λ r. rw (kept_same (bad_input (first_bad input)) last) room)
  where
    Fits : NextLeft → Type 0
    Fits x = room_ok wall f (rings_at ls (kept_of x.next last)) store_long work_long output_long ≡ true
