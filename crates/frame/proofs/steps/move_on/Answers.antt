-- `frame::steps::move_on` meets its contract. Assumes nothing.
use borrow.Author.Rules.{rules}
use mathlib.Core.Path.{refl, ap}
use mathlib.Core.List.{List}
use native.Mathlib.Omega.{arith}
use native.Mathlib.Nat.{sub-zero}
use Prim.Native.Nat.{ℕ}
use lib.ListN.{length}
use lib.Seq.{take_all}
use Rattle.stages.specs.Settle.{all_moved}
use Rattle.frame.proofs.LineFills.{here, ring_here, move_turn, move_done}
use Rattle.frame.proofs.steps.move_on.Goals as goal

pub loop-i-init : goal.loop-i-init
loop-i-init c =
    let ls = c.args.ls.now in
    let z = sub-zero (length ls) in
    (search rules, refl, rw z c.requires.2, refl, rw z (ap (λ (l : List ℕ). all_moved c.args.f l c.args.cs.now) (take_all (length ls) ls (omega arith))))

pub moved_by-requires : goal.moved_by-requires
moved_by-requires c =
    let l = c.loop-i in
    let r = ring_here (length c.args.ls.now) c.args.f c.args.ls.now c.args.cs.now _ l.i l.cs l.invariant (omega arith) in
    let e = here (length c.args.ls.now) c.args.f c.args.ls.now c.args.cs.now _ l.i l.cs l.invariant in
    rw e (c.requires.0, r.0, r.1, r.2)

pub loop-i-preserved : goal.loop-i-preserved
loop-i-preserved c =
    let l = c.loop-i in
    let e = here (length c.args.ls.now) c.args.f c.args.ls.now c.args.cs.now _ l.i l.cs l.invariant in
    move_turn (length c.args.ls.now) c.args.f c.args.ls.now c.args.cs.now _ l.i l.cs l.invariant _ (omega arith) (search rules) (search rules)
    (rw e at c.moved_by.ensures)

pub returns : goal.returns
returns c =
    let l = c.loop-i in
    move_done (length c.args.ls.now) c.args.f c.args.ls.now c.args.cs.now _ l.i l.cs l.invariant (omega arith)
