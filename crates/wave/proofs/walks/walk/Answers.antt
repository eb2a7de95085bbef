-- `wave::walks::walk` meets its contract: what the walk gives from the chunk on at which the loop is, is what it gives from byte 12 on. Assumes
-- nothing.
use native.Mathlib.Omega.{arith}
use mathlib.Core.Path.{◌≡◌, sym, ap, ◌∙◌}
use mathlib.Core.Bool.{true, false}
use Prim.Native.Nat.{◌+◌, ◌≤◌}
use lib.ListN.{length, drop, length-drop}
use Rattle.wave.specs.Chunks.{begins, data_name, complete, span_of, let_by}
use Rattle.wave.specs.Reading.{data_read}
use Rattle.wave.proofs.Walking.{complete_room}
use Rattle.wave.proofs.Turning.{chunk_is, none_left, at_the_data, past_the_end, not_supported, next_turn, met_on}
use Rattle.wave.proofs.walks.walk.Goals.{Else-is_data, Else-not-complete, Else-not-let_by, In-loop-at}
use Rattle.wave.proofs.walks.walk.Goals as goal

-- a header is here
header : (c : goal.In-loop-at) → 8 ≤ length (drop c.loop-at.at c.args.file.now)
header c = simp length-drop (omega arith)

pub returns-then-not-complete : goal.returns-then-not-complete
returns-then-not-complete c =
    let l = c.loop-at in
    let end = rw (chunk_is l.at c.args.file.now) at (sym c.complete.ensures) ∙ c.if-not-complete.true in
    sym (past_the_end _ l.met l.at (header (goal.at.returns-then-not-complete c).In-loop-at) end) ∙ l.invariant.same

-- the chunk is all there
whole : (c : goal.Else-not-complete) → complete (drop c.loop-at.at c.args.file.now) ≡ true
whole c = rw (chunk_is c.loop-at.at c.args.file.now) at (sym c.complete.ensures) ∙ c.if-not-complete.false

pub returns-then-is_data : goal.returns-then-is_data
returns-then-is_data c =
    let p = goal.at.returns-then-is_data c in
    let l = c.loop-at in
    let is = chunk_is l.at c.args.file.now in
    let here = rw is at (sym c.is_data.ensures) ∙ c.if-is_data.true in
    let read = c.data_read.ensures ∙ ap (data_read l.met l.at) (rw is at c.size_of.ensures.0) in
    read ∙ sym (at_the_data _ l.met l.at (header p.In-loop-at) (whole p.Else-not-complete) here) ∙ l.invariant.same

-- it isn't the data's
other : (c : goal.Else-is_data) → begins data_name (drop c.loop-at.at c.args.file.now) ≡ false
other c = rw (chunk_is c.loop-at.at c.args.file.now) at (sym c.is_data.ensures) ∙ c.if-is_data.false

pub let_by-requires : goal.let_by-requires
let_by-requires c =
    rw (chunk_is c.loop-at.at c.args.file.now) (complete_room _ (whole (goal.at.let_by-requires c).Else-not-complete))

pub returns-then-not-let_by : goal.returns-then-not-let_by
returns-then-not-let_by c =
    let p = goal.at.returns-then-not-let_by c in
    let l = c.loop-at in
    let bad = rw (chunk_is l.at c.args.file.now) at (sym c.let_by.ensures) ∙ c.if-not-let_by.true in
    sym (not_supported _ l.met l.at (header p.In-loop-at) (whole p.Else-not-complete) (other p.Else-is_data) bad) ∙ l.invariant.same

-- and is let by
right : (c : goal.Else-not-let_by) → let_by c.loop-at.met (drop c.loop-at.at c.args.file.now) ≡ true
right c = rw (chunk_is c.loop-at.at c.args.file.now) at (sym c.let_by.ensures) ∙ c.if-not-let_by.false

pub met_after-met-requires-clause-in_bounds : goal.met_after-met-requires-clause-in_bounds
met_after-met-requires-clause-in_bounds c =
    rw (chunk_is c.loop-at.at c.args.file.now) (complete_room _ (whole (goal.at.met_after-met-requires-clause-in_bounds c).Else-not-complete))

pub loop-at-preserved : goal.loop-at-preserved
loop-at-preserved c =
    let p = goal.at.loop-at-preserved c in
    let l = c.loop-at in
    let file = c.args.file.now in
    let chunk = drop l.at file in
    let is = chunk_is l.at file in
    let after = rw is at c.met_after-met.ensures in
    let on : l.at + (8 + c.padded.result) ≡ l.at + span_of chunk = rw (c.padded.ensures, c.size_of-in-loop-at.ensures.0, is) (omega arith) in
    let room = complete_room chunk (whole p.Else-not-complete) in
    record {
      in_file = omega (arith, on, room, length-drop l.at file);
      met_ok = met_on l.met chunk l.invariant.met_ok (right p.Else-not-let_by) after;
      same
          = next_turn file l.met l.at (header p.In-loop-at) (whole p.Else-not-complete) (other p.Else-is_data) (right p.Else-not-let_by) after on
          ∙ l.invariant.same;
    }

pub returns : goal.returns
returns c =
    let l = c.loop-at in
    sym (none_left _ l.met l.at (simp length-drop (omega arith))) ∙ l.invariant.same
