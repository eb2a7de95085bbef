-- `reverb::several::play_frames` meets its contract. Assumes nothing.
use Rattle.std.specs.Prelude.{Ok, Err}
use borrow.Rule.Slice.PartMut.{put_mid, mid_of}
use native.Mathlib.Omega.{arith}
use Rattle.std.proofs.Common.{rules}
use mathlib.Core.Path.{◌≡◌, sym, ap, ◌∙◌}
use mathlib.Core.Bool.{true}
use mathlib.Core.List.{List, ◌++◌}
use Prim.Native.Nat.{ℕ, ◌+◌, ◌*◌, ◌-◌, ◌/◌, ◌≤◌}
use native.Mathlib.Nat.{zero-mul, suc-mul}
use lib.Ieee.{Float}
use lib.IntN.{pos}
use lib.ListN.{length, take, drop, length-take, length-drop, take-append-drop}
use lib.Seq.{drop-drop}
use Rattle.samples.proofs.Laws.{split_and}
use Rattle.bands.specs.declared.Counted.{Counted}
use Rattle.samples.specs.Sizes.{rate_ok, frame_ok}
use Rattle.bands.specs.declared.Times.{Times}
use Rattle.bands.specs.Times.{times_ok}
use Rattle.unit.specs.UnitState.{of_state}
use Rattle.unit.specs.Layout.{wall, lengths}
use Rattle.unit.specs.Room.{room_ok}
use Rattle.search.specs.Search.{first_bad}
use Rattle.judges.specs.Judges.{bad_input, judged_apply}
use Rattle.judges.proofs.Fits.{FramesFit, frames_fit}
use Rattle.stages.specs.Lines.{filters_of}
use Rattle.machine.specs.Ending.{lend}
use Rattle.machine.specs.Several.{Several, frames_outcome_of}
use Rattle.reverb.specs.Workers.{unit_stepped, rings_at, kept_of, NextLeft, next_frame, several_by}
use Rattle.reverb.proofs.WholeParts.{filters_given}
use Rattle.reverb.proofs.SeveralTurns.{ahead, left, frame_fits, none_done, all_done, lent_part, part_long, put_back, put_beside, frame_due, turn-done, turn_refused, refused_outcome}
use Rattle.reverb.proofs.SeveralParts.{room_next}
use Rattle.reverb.proofs.several.play_frames.Goals.{After-kept_by-last, At-loop-done, In-loop-done, After-next_frame}
use Rattle.reverb.proofs.several.play_frames.Goals as goal

-- what the judgement tells
fits :
    (p : After-kept_by-last)
    → let a = p.args in
    FramesFit (of_state a.s) a.t a.coefficients.now (length a.input.now) (length a.store.now) (length a.work.now) (length a.output.now)
fits p = frames_fit (of_state p.args.s) p.args.t p.args.coefficients.now _ _ _ _ p.requires

lengths_are : (p : After-kept_by-last) → p.lengths-ls.result ≡ lengths wall (of_state p.args.s)
lengths_are p = rw (split_and (rate_ok p.args.s.rate) (frame_ok p.args.s.frame) (fits p).sizes).1 at p.lengths-ls.ensures

pub loop-done-init : goal.loop-done-init
loop-done-init c =
    let a = c.args in (
      rw (lengths_are c, c.kept_by-last.ensures) (fits c).room,
      λ t times count.
          rw (zero-mul a.s.frame, c.kept_by-last.ensures) (none_done t a.coefficients.now a.s.frame c.frame_count-n.result (lend a.s a.store.now a.work.now) a.input.now a.output.now),
    )

-- ---- a frame

-- frame `done` lies in the input and in the output
module _ (c : In-loop-done) where
  abbrev at : ℕ
  at = c.loop-done.done * c.args.s.frame

  told : let a = c.args in
      FramesFit (of_state a.s) a.t a.coefficients.now (length a.input.now) (length a.store.now) (length a.work.now) (length a.output.now)
  told = fits (goal.at.In-loop-done c).After-kept_by-last

  in_input : at + c.args.s.frame ≤ length c.args.input.now
  in_input = frame_fits c.loop-done.done c.args.s.frame (length c.args.input.now) (rw c.frame_count-n.ensures at c.loop-done-test.true)

  in_output : at + c.args.s.frame ≤ length c.loop-done.output
  in_output = omega (arith, in_input, c.loop-done.auto.output, told.what.beside)

pub slice_bounds-next_frame-end : goal.slice_bounds-next_frame-end
slice_bounds-next_frame-end c = in_output (goal.at.slice_bounds-next_frame-end c).In-loop-done

pub next_frame-requires : goal.next_frame-requires
next_frame-requires c =
    let a = c.args in
    let l = c.loop-done in
    let p = (goal.at.next_frame-requires c).In-loop-done in record {
      room = ap (λ (j : ℕ). room_ok wall a.s.frame (rings_at c.lengths-ls.result l.last) (length l.store) (length l.work) j)
          (part_long (at p) a.s.frame l.output (in_output p))
          ∙ l.invariant.0;
      frame_lent = (in_input p, omega (arith, (told p).holds, l.auto.work));
    }

module _ (c : After-next_frame) where
  abbrev p : In-loop-done
  p = (goal.at.After-next_frame c).In-loop-done

  -- it is the next of those left
  abbrev x : NextLeft
  x =
      let a = c.args in
      let l = c.loop-done in
      next_frame a.s.frame (lengths wall (of_state a.s)) l.last (filters_of 51 a.coefficients.now) (take a.s.frame (drop (at p) a.input.now)) l.store l.work (take a.s.frame (drop (at p) l.output))

  as_left :
      let a = c.args in
      let l = c.loop-done in
      next_frame a.s.frame c.lengths-ls.result l.last c.filters_of-fs.result (take a.s.frame (drop (at p) a.input.now)) l.store l.work (mid_of (at p) (at p + a.s.frame - at p) l.output) ≡ x
  as_left =
      let a = c.args in
      let l = c.loop-done in
      let ls = lengths_are (goal.at.After-next_frame c).After-kept_by-last in
      let fs = filters_given a.coefficients.now _ (told p).what.given c.filters_of-fs.ensures in
      let o = lent_part (at p) a.s.frame l.output in
      λ j. next_frame a.s.frame (ls j) l.last (fs j) (take a.s.frame (drop (at p) a.input.now)) l.store l.work (o j)

  gives : c.next_frame.result ≡ x.next
  gives = c.next_frame.ensures.value ∙ ap (λ (y : NextLeft). y.next) as_left

  leaves_store : c.next_frame.new.store ≡ x.store
  leaves_store = c.next_frame.ensures.store_after ∙ ap (λ (y : NextLeft). y.store) as_left

  leaves_work : c.next_frame.new.work ≡ x.work
  leaves_work = c.next_frame.ensures.work_after ∙ ap (λ (y : NextLeft). y.work) as_left

  leaves_output : c.next_frame.new.output ≡ x.output
  leaves_output = c.next_frame.ensures.output_after ∙ ap (λ (y : NextLeft). y.output) as_left

  -- what it is asked
  next_due : (t : Times) → times_ok t ≡ true
      → let a = c.args in
      let l = c.loop-done in
      judged_apply wall (unit_stepped (of_state a.s) l.last l.count.0) t a.coefficients.now (take a.s.frame (drop (at p) a.input.now)) (length l.store) (length l.work) (length (take a.s.frame (drop (at p) l.output)))
      ≡ bad_input (first_bad (take a.s.frame (drop (at p) a.input.now)))
  next_due t times =
      let a = c.args in
      let l = c.loop-done in
      let ls = lengths_are (goal.at.After-next_frame c).After-kept_by-last in
      let e = in_input p in
      let o = in_output p in
      frame_due a.s a.t t a.coefficients.now _ _ _ _ (told p) times l.last l.count.0 (drop (at p) a.input.now) (drop (at p) l.output) l.store l.work
      (ap (λ (ls : List ℕ). room_ok wall a.s.frame (rings_at ls l.last) (length l.store) (length l.work) a.s.frame) (sym ls) ∙ l.invariant.0)
      (simp (length-take, length-drop) (omega (arith, e)))
      (simp (length-take, length-drop) (omega (arith, o)))

-- ---- all of them

-- what all of them come to, by those done and those left
in_all :
    (c : At-loop-done)
    → let a = c.args in
    let l = c.loop-done in
    let n = c.frame_count-n.result in
    let at = l.done * a.s.frame in
    left a.t a.coefficients.now a.s.frame (length a.input.now / a.s.frame) (lend a.s a.store.now a.work.now) a.input.now a.output.now
    ≡ ahead l.done (take at l.output) (left a.t a.coefficients.now a.s.frame (n - l.done) (record { unit = unit_stepped (of_state a.s) l.last l.count.0; store = l.store; work = l.work }) (drop at a.input.now) (drop at l.output))
in_all c =
    let a = c.args in
    let h = fits (goal.at.At-loop-done c).After-kept_by-last in
    ap (λ (j : ℕ). left a.t a.coefficients.now a.s.frame j (lend a.s a.store.now a.work.now) a.input.now a.output.now) (sym c.frame_count-n.ensures)
    ∙ c.loop-done.invariant.1 a.t h.what.times (sym (ap (λ (n : Counted). n.count.0) c.tail_count.ensures ∙ ap pos h.count))

pub several_by-requires : goal.several_by-requires
several_by-requires c =
    let h = fits (goal.at.several_by-requires c).After-kept_by-last in
    omega (arith, c.loop-done-test.true, c.frame_count-n.ensures, h.what.few)

pub several_by-requires-2 : goal.several_by-requires-2
several_by-requires-2 c =
    let h = fits (goal.at.several_by-requires-2 c).After-kept_by-last in
    omega (arith, c.frame_count-n.ensures, h.what.few)

pub returns-in-Err : goal.returns-in-Err
returns-in-Err c =
    let a = c.args in
    let l = c.loop-done in
    let f = a.s.frame in
    let bad = c.in-Err.refusal in
    let y = (goal.at.returns-in-Err c).After-next_frame in
    let at = l.done * f in
    let due = next_due y a.t (told (p y)).what.times in
    let refused : c.next_frame.result ≡ Err bad = search rules in
    let all =
    in_all (goal.at.returns-in-Err c).At-loop-done
    ∙ turn_refused a.s a.t a.coefficients.now c.frame_count-n.result l.done c.loop-done-test.true l.last l.count.0 (drop at a.input.now) (drop at l.output) l.store l.work (take at l.output) due bad (sym (gives y) ∙ refused) in record {
      value = c.several_by.ensures
          ∙ refused_outcome (of_state a.s) bad l.last l.count.0 l.done (take at l.output) (drop f (drop at l.output)) (x y).store (x y).work (x y).output ∙ ap frames_outcome_of (sym all);
      store_after = leaves_store y ∙ ap (λ (y : Several). y.ending.memory.store) (sym all);
      work_after = leaves_work y ∙ ap (λ (y : Several). y.ending.memory.work) (sym all);
      output_after = ap (put_mid at (at + f - at) l.output) (leaves_output y) ∙ put_back at f l.output (x y).output ∙ ap (λ (y : Several). y.ending.output) (sym all);
    }

pub loop-done-preserved : goal.loop-done-preserved
loop-done-preserved c =
    let a = c.args in
    let l = c.loop-done in
    let f = a.s.frame in
    let cs = a.coefficients.now in
    let at = l.done * f in
    let n = c.frame_count-n.result in
    let y = (goal.at.loop-done-preserved c).After-next_frame in
    let kept = c.next_frame.auto in
    let g = c.next_frame.ensures in
    let given : c.next_frame.result ≡ Ok c.in-Ok.frame = search rules in
    let on : (l.done + 1) * f ≡ at + f = omega (arith, suc-mul l.done f) in
    let beside = put_beside at f l.output _ (kept.output ∙ part_long at f l.output (in_output (p y))) (omega (arith, in_output (p y))) in
    let front = ap (λ (o : List Float). take at l.output ++ o) (sym (leaves_output y)) ∙ sym beside.0 in
    let room = room_next f c.lengths-ls.result l.last c.filters_of-fs.result _ l.store l.work _ (length l.store) (length l.work) f l.invariant.0 in (
      (λ i. room_ok wall f (rings_at c.lengths-ls.result (kept_of ((sym given ∙ g.value) i) l.last)) (kept.store i) (kept.work i) f) ∙ room,
      λ t times count.
          rw on
          (l.invariant.1 t times count
          ∙ turn-done a.s t cs n l.done c.loop-done-test.true l.last l.count.0 (drop at a.input.now) (drop at l.output) l.store l.work (take at l.output) (next_due y t times) c.in-Ok.frame (sym (gives y) ∙ given)
          ∙ (λ i.
          ahead (l.done + 1) (front i)
          (left t cs f (n - (l.done + 1)) (record { unit = unit_stepped (of_state a.s) c.in-Ok.frame (count i); store = sym (leaves_store y) i; work = sym (leaves_work y) i }) (drop-drop f at a.input.now i) (sym beside.1 i)))),
    )

pub returns : goal.returns
returns c =
    let l = c.loop-done in
    let a = c.args in
    let n = c.frame_count-n.result in
    let at = l.done * a.s.frame in
    let end : n ≡ l.done = omega (arith, l.auto.done-end, c.loop-done-test.false) in
    let all =
    in_all (goal.at.returns c).At-loop-done
    ∙ all_done a.t a.coefficients.now a.s.frame n l.done (record { unit = unit_stepped (of_state a.s) l.last l.count.0; store = l.store; work = l.work }) (drop at a.input.now) (drop at l.output) (take at l.output) (omega (arith, c.loop-done-test.false)) in record {
      value = c.several_by-2.ensures ∙ ap (several_by (of_state a.s) (Ok tt) l.last l.count.0) end ∙ ap frames_outcome_of (sym all);
      store_after = ap (λ (y : Several). y.ending.memory.store) (sym all);
      work_after = ap (λ (y : Several). y.ending.memory.work) (sym all);
      output_after = sym (take-append-drop at l.output) ∙ ap (λ (y : Several). y.ending.output) (sym all);
    }
