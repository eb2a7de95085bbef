-- Several frames one by one: what those done and those left come to together, a frame done, a frame refused, and none left. Assumes nothing.
use Rattle.std.specs.Prelude.{Result, Ok, Err}
use mathlib.Core.Path.{◌≡◌, refl, sym, ap, ◌∙◌}
use mathlib.Core.Bool.{true, false}
use mathlib.Core.List.{List, ◌++◌, append_assoc}
use Prim.Native.Nat.{ℕ, suc, ◌+◌, ◌-◌, ◌*◌, ◌/◌, ◌≤◌, ◌<◌}
use native.Mathlib.Nat.{zero-add, add-zero, sub-zero, suc-mul, mul-le-mul_right, div-mul-le_self, add-sub_cancel_left}
use native.Mathlib.Omega.{arith}
use lib.Ieee.{Float}
use lib.IntN.{ℤ, pos}
use lib.ListN.{length, take, drop, length-append, length-take, length-drop}
use lib.Seq.{take_at, drop_at, length-take-le}
use borrow.Rule.Slice.PartMut.{put_mid, mid_of}
use Rattle.samples.specs.declared.Refusal.{Refusal}
use Rattle.samples.specs.Answers.{Answer, Accepted, accept, accepted}
use Rattle.samples.proofs.Laws.{accept_yes, accept_no}
use Rattle.samples.proofs.Turns.{more}
use Rattle.search.specs.Search.{first_bad}
use Rattle.audio_buffer.specs.declared.AudioEffectState.TheVariants.{TailComplete}
use Rattle.audio_buffer.specs.Verdict.{verdict_of}
use Rattle.bands.specs.declared.Times.{Times}
use Rattle.bands.specs.Times.{times_ok}
use Rattle.bands.specs.Tail.{tail_count}
use Rattle.unit.specs.declared.State.{State}
use Rattle.unit.specs.declared.FramesOutcome.{FramesOutcome}
use Rattle.unit.specs.UnitState.{UnitState, of_state}
use Rattle.unit.specs.Outcome.{outcome}
use Rattle.unit.specs.Layout.{wall, lengths}
use Rattle.unit.specs.Room.{room_ok}
use Rattle.judges.specs.Judges.{bad_input, judged_apply}
use Rattle.judges.proofs.Fits.{FramesFit, room_told, still_in_range, eight_due}
use Rattle.stages.specs.Lines.{filters_of}
use Rattle.frame.specs.declared.Stepped.{Stepped}
use Rattle.machine.specs.Ending.{Memory, Ending, lend, refused}
use Rattle.machine.specs.Whole.{apply, at_once}
use Rattle.machine.specs.Several.{Several, done_then, stopped_by, singly, frames_outcome_of}
use Rattle.reverb.specs.Workers.{unit_stepped, rings_at, answer_of, kept_of, NextLeft, next_frame, several_by}
use Rattle.reverb.proofs.SeveralParts.{as_ending, turn-ends}

-- k frames are done, whose outputs are `first`, and those left come to x
abbrev pub ahead : ℕ → List Float → Several → Several
ahead k first x = record {
  ending = record { answer = x.ending.answer; verdict = x.ending.verdict; memory = x.ending.memory; output = first ++ x.ending.output };
  done = k + x.done;
}

-- a frame that ended in e is done, which leaves v and gives `out`; or it is refused
module _ (k : ℕ) (before : List Float) (e : Ending) (rest : Memory → Several) (stopped : Several) where
  done_next : (v : Memory) (out : List Float) → e.answer ≡ Accepted → e.memory ≡ v → e.output ≡ out
      → ahead k before (accept e.answer (done_then e (rest e.memory)) stopped) ≡ ahead (k + 1) (before ++ out) (rest v)
  done_next v out a em eo =
      let x = rest v in
      let count : k + suc x.done ≡ k + 1 + x.done = omega arith in
      let outputs = sym (append_assoc before out x.ending.output) in
      rw (a, em, eo)
      (λ i. record { ending = record { answer = x.ending.answer; verdict = x.ending.verdict; memory = x.ending.memory; output = outputs i }; done = count i })

  refused_next : accepted e.answer ≡ false → ahead k before (accept e.answer (done_then e (rest e.memory)) stopped) ≡ ahead k before stopped
  refused_next a = ap (ahead k before) (accept_no e.answer (done_then e (rest e.memory)) stopped a)

module _ (t : Times) (coefficients : List Float) (f : ℕ) where
  -- n frames, from w on
  abbrev pub left : ℕ → Memory → List Float → List Float → Several
  left n w input output = singly wall t coefficients f n w input output

  abbrev pub first : Memory → List Float → List Float → Ending
  first w input output = at_once wall w (apply t coefficients (take f input)) (take f output)

  -- of n frames k are done, and then one more
  module _ (n k : ℕ) (h : k < n) (w : Memory) (input output before : List Float) where
    abbrev all : Several
    all = ahead k before (left (n - k) w input output)

    pub one_done : (v : Memory) (out : List Float) → (first w input output).answer ≡ Accepted → (first w input output).memory ≡ v → (first w input output).output ≡ out
        → all ≡ ahead (k + 1) (before ++ out) (left (n - (k + 1)) v (drop f input) (drop f output))
    unfolding singly
    one_done v out a em eo =
        ap (λ (j : ℕ). ahead k before (left j w input output)) (more n k h)
        ∙ done_next k before (first w input output) (λ u. left (n - (k + 1)) u (drop f input) (drop f output)) (stopped_by (first w input output) (drop f output)) v out a em eo

    -- or it is refused
    pub one_refused : accepted (first w input output).answer ≡ false → all ≡ ahead k before (stopped_by (first w input output) (drop f output))
    unfolding singly
    one_refused a =
        ap (λ (j : ℕ). ahead k before (left j w input output)) (more n k h)
        ∙ refused_next k before (first w input output) (λ u. left (n - (k + 1)) u (drop f input) (drop f output)) (stopped_by (first w input output) (drop f output)) a

-- ---- the next frame, of the input and the output that are left

module _ (s : State) (t : Times) (coefficients : List Float) (n k : ℕ) (h : k < n) (last : Stepped) (count : ℤ) (input output store work before : List Float)
    (due : judged_apply wall (unit_stepped (of_state s) last count) t coefficients (take s.frame input) (length store) (length work) (length (take s.frame output)) ≡ bad_input (first_bad (take s.frame input))) where
  abbrev f : ℕ
  f = s.frame

  abbrev w : Memory
  w = record { unit = unit_stepped (of_state s) last count; store = store; work = work }

  abbrev x : NextLeft
  x = next_frame f (lengths wall (of_state s)) last (filters_of 51 coefficients) (take f input) store work (take f output)

  abbrev next : ℤ
  next = pos (tail_count t s.rate f)

  ends : first t coefficients f w input output ≡ as_ending s t coefficients last count (take f input) store work (take f output) x
  ends = turn-ends s t coefficients last count (take f input) store work (take f output) due

  pub turn-done : (y : Stepped) → x.next ≡ Ok y
      → ahead k before (left t coefficients f (n - k) w input output)
      ≡ ahead (k + 1) (before ++ x.output) (left t coefficients f (n - (k + 1)) (record { unit = unit_stepped (of_state s) y next; store = x.store; work = x.work }) (drop f input) (drop f output))
  turn-done y e =
      one_done t coefficients f n k h w input output before _ _
      (ap (λ (e : Ending). e.answer) ends ∙ ap (answer_of {T = Stepped}) e)
      (ap (λ (e : Ending). e.memory) ends ∙ (λ i. record { unit = accept (answer_of (e i)) (unit_stepped (of_state s) (kept_of (e i) last) next) w.unit; store = x.store; work = x.work }))
      (ap (λ (e : Ending). e.output) ends)

  pub turn_refused : (bad : Refusal) → x.next ≡ Err bad
      → ahead k before (left t coefficients f (n - k) w input output)
      ≡ ahead k before (stopped_by (record { answer = Err bad; verdict = TailComplete; memory = record { unit = w.unit; store = x.store; work = x.work }; output = x.output }) (drop f output))
  turn_refused bad e =
      one_refused t coefficients f n k h w input output before (ap (λ (e : Ending). accepted e.answer) ends ∙ ap (λ (y : Result Stepped Refusal). accepted (answer_of y)) e)
      ∙ ap (λ (e : Ending). ahead k before (stopped_by e (drop f output)))
      (ends ∙ (λ i. record { answer = answer_of (e i); verdict = accept (answer_of (e i)) (verdict_of next) TailComplete; memory = record { unit = accept (answer_of (e i)) (unit_stepped (of_state s) (kept_of (e i) last) next) w.unit; store = x.store; work = x.work }; output = x.output }))

-- ---- a frame of the input, and of the output

pub lent_part : (at f : ℕ) (xs : List Float) → mid_of at (at + f - at) xs ≡ take f (drop at xs)
lent_part at f xs = rw (add-sub_cancel_left at f) refl

-- a frame of the input, judged
pub part_judged : (at f : ℕ) (xs : List Float) {a b : Answer} → a ≡ bad_input (first_bad (mid_of at (at + f - at) xs)) → a ≡ b
    → bad_input (first_bad (take f (drop at xs))) ≡ b
part_judged at f xs e h = sym (ap (λ (l : List Float). bad_input (first_bad l)) (lent_part at f xs)) ∙ sym e ∙ h

pub put_back : (at f : ℕ) (xs ys : List Float) → put_mid at (at + f - at) xs ys ≡ take at xs ++ (ys ++ drop f (drop at xs))
put_back at f xs ys = rw (add-sub_cancel_left at f) refl

-- behind a frame that is put back
pub put_beside : (at f : ℕ) (xs ys : List Float) → length ys ≡ f → at ≤ length xs → let zs = put_mid at (at + f - at) xs ys in
    (take (at + f) zs ≡ take at xs ++ ys) × (drop (at + f) zs ≡ drop f (drop at xs))
put_beside at f xs ys e h =
    let l : length (take at xs ++ ys) ≡ at + f = length-append (take at xs) ys ∙ omega (arith, length-take-le at xs h) in
    let z : put_mid at (at + f - at) xs ys ≡ (take at xs ++ ys) ++ drop f (drop at xs) = put_back at f xs ys ∙ sym (append_assoc (take at xs) ys (drop f (drop at xs))) in
    rw z (take_at (take at xs ++ ys) (drop f (drop at xs)) (at + f) l, drop_at (take at xs ++ ys) (drop f (drop at xs)) (at + f) l)

-- frame k of those that a slice of so many floats holds lies in it
pub frame_fits : (k f long : ℕ) → k < long / f → k * f + f ≤ long
frame_fits k f long h = omega (arith, suc-mul k f, mul-le-mul_right f h, div-mul-le_self long f)

-- before the first of them
pub none_done : (t : Times) (coefficients : List Float) (f n : ℕ) (w : Memory) (input output : List Float)
    → left t coefficients f n w input output ≡ ahead 0 (take 0 output) (left t coefficients f (n - 0) w (drop 0 input) (drop 0 output))
none_done t coefficients f n w input output =
    ap (λ (j : ℕ). left t coefficients f j w input output) (sym (sub-zero n))
    ∙ (λ i. record { ending = (left t coefficients f (n - 0) w input output).ending; done = sym (zero-add (left t coefficients f (n - 0) w input output).done) i })

-- after the last
pub all_done : (t : Times) (coefficients : List Float) (f n k : ℕ) (w : Memory) (input output before : List Float) → n ≤ k
    → ahead k before (left t coefficients f (n - k) w input output)
    ≡ record { ending = record { answer = Accepted; verdict = verdict_of w.unit.count; memory = w; output = before ++ output }; done = k }
unfolding singly
all_done t coefficients f n k w input output before h =
    let z : n - k ≡ 0 = omega arith in
    ap (λ (j : ℕ). ahead k before (left t coefficients f j w input output)) z
    ∙ (λ i. record { ending = record { answer = Accepted; verdict = verdict_of w.unit.count; memory = w; output = before ++ output }; done = add-zero k i })

-- the apply of the next frame is judged by 8 alone: 1 to 7 let all of them by, and no frame takes that back
pub frame_due : (s : State) (t₀ t : Times) (coefficients : List Float) (input_long store_long work_long output_long : ℕ)
    → FramesFit (of_state s) t₀ coefficients input_long store_long work_long output_long → times_ok t ≡ true → (last : Stepped) (count : ℤ) (input output store work : List Float)
    → room_ok wall s.frame (rings_at (lengths wall (of_state s)) last) (length store) (length work) s.frame ≡ true
    → length (take s.frame input) ≡ s.frame → length (take s.frame output) ≡ s.frame
    → judged_apply wall (unit_stepped (of_state s) last count) t coefficients (take s.frame input) (length store) (length work) (length (take s.frame output))
    ≡ bad_input (first_bad (take s.frame input))
frame_due s t₀ t coefficients input_long store_long work_long output_long h times last count input output store work room row row_out =
    let v = unit_stepped (of_state s) last count in
    let k = h.what in
    let r = room_told v (length store) (length work) s.frame room in
    ap (λ (j : ℕ). judged_apply wall v t coefficients (take s.frame input) (length store) (length work) j) row_out
    ∙ eight_due wall v t coefficients (take s.frame input) (length store) (length work) s.frame (still_in_range (of_state s) v refl refl k.range r.0) k.free k.given row times
    k.finite r.1

-- and as long as a frame
pub part_long : (at f : ℕ) (xs : List Float) → at + f ≤ length xs → length (mid_of at (at + f - at) xs) ≡ f
part_long at f xs h = ap length (lent_part at f xs) ∙ simp (length-take, length-drop) (omega arith)

-- ---- what the caller is given

pub refused_outcome : (u : UnitState) (bad : Refusal) (last : Stepped) (count : ℤ) (k : ℕ) (before rest store work output : List Float)
    → several_by u (Err bad) last count k
    ≡ frames_outcome_of (ahead k before (stopped_by (record { answer = Err bad; verdict = TailComplete; memory = record { unit = unit_stepped u last count; store = store; work = work }; output = output }) rest))
refused_outcome u bad last count k before rest store work output =
    λ i. record { outcome = outcome (Err bad) (unit_stepped u last count) TailComplete; done = record { 0 = pos (sym (add-zero k) i) } }

-- judged by 1 to 7: what is left where they are let by
module _ (due : Answer) (new : Several) (s : State) (store work output : List Float) where
  abbrev judged : Several
  judged = accept due new (record { ending = refused due (lend s store work) output; done = 0 })

  abbrev pub Gives : Several → FramesOutcome → List Float → List Float → List Float → Type 0
  Gives x y store' work' output' =
      (y ≡ frames_outcome_of x) × ((store' ≡ x.ending.memory.store) × ((work' ≡ x.ending.memory.work) × (output' ≡ x.ending.output)))

  pub all_let_by : (y : FramesOutcome) (store' work' output' : List Float) → accepted due ≡ true → Gives new y store' work' output' → Gives judged y store' work' output'
  all_let_by y store' work' output' h g = rw (accept_yes due new (record { ending = refused due (lend s store work) output; done = 0 }) h) g
