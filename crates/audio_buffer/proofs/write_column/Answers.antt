-- `audio_buffer::write_column` meets its contract. Assumes nothing.
use native.Mathlib.Omega.{arith}
use mathlib.Core.Path.{sym, ◌∙◌}
use Prim.Native.Nat.{◌*◌}
use lib.ListN.{length, drop}
use lib.Seq.{get_or-drop}
use lib.Ieee.{nan}
use Rattle.samples.proofs.Turns.{copy_more, copy_all}
use Rattle.audio_buffer.specs.Layout.{first_of_each}
use Rattle.audio_buffer.proofs.Laws.{column-length, column_at}
use Rattle.audio_buffer.proofs.write_column.Goals as goal

pub loop-r-preserved : goal.loop-r-preserved
loop-r-preserved c =
    let l = c.loop-r in
    let a = c.args in
    let n = length a.column.now in
    let xs = drop a.t a.source.now in
    let long = column-length a.row n xs in
    let v = sym (column_at a.row n xs l.r (omega arith) ∙ get_or-drop a.t a.source.now (l.r * a.row) nan) in
    rw (l.invariant, v) (copy_more (first_of_each a.row n xs) a.column.now l.r nan (omega arith) (omega arith))

pub returns : goal.returns
returns c =
    let l = c.loop-r in
    let a = c.args in
    let long = column-length a.row (length a.column.now) (drop a.t a.source.now) in
    l.invariant ∙ copy_all _ _ l.r (omega arith) (omega arith)
