-- `delay::fours::read_four` meets its contract. Assumes nothing.
use native.Mathlib.Omega.{arith}
use mathlib.Core.Path.{◌≡◌, refl, sym, ap, ◌∙◌}
use mathlib.Core.List.{append-nil}
use lib.Ieee.{nan}
use lib.Seq.{take_all}
use Prim.Native.Nat.{◌-◌, ◌≤◌}
use lib.ListN.{length, take, length-take, length-drop, length-set}
use Rattle.samples.proofs.Lists.{end_is}
use Rattle.delay.proofs.Straight.{four_straight}
use Rattle.samples.proofs.Turns.{more, stored}
use Rattle.delay.specs.Ring.{read_each, four_of}
use Rattle.delay.proofs.fours.read_four.Goals as goal

pub returns-in-Some : goal.returns-in-Some
returns-in-Some c =
    let ring = c.args.ring.now in
    let at = c.args.at in
    let run = c.in-Some.ensures.cases in
    let four : 4 ≤ length ring - at = omega (arith, simp (length-take, length-drop) at run.enough) in
    let same : c.in-Some.run'.now ≡ read_each ring at 4 =
    run.same ∙ ap (take 4) (end_is at ring) ∙ sym (four_straight ring at c.requires four) in
    c.from.ensures ∙ ap four_of same

pub loop-x-init : goal.loop-x-init
loop-x-init c = record { within = c.requires; long = refl; left = refl }

pub loop-x-preserved : goal.loop-x-preserved
unfolding read_each
loop-x-preserved c =
    let l = c.loop-x in
    let rest = more 4 l.x-index (omega arith) in
    record {
      within = omega (arith, c.next-k.ensures);
      long = simp length-set l.invariant.long;
      left = stored l.x-items l.x-index nan (omega arith) _ (rw (rest, c.next-k.ensures.0) refl) ∙ l.invariant.left;
    }

pub returns : goal.returns
unfolding read_each
returns c =
    let l = c.loop-x in
    let done : l.x-index ≡ 4 = omega arith in
    let all : l.x-items ≡ read_each c.args.ring.now c.args.at 4 =
    sym (take_all 4 l.x-items (omega arith)) ∙ sym (append-nil (take 4 l.x-items)) ∙ rw done at l.invariant.left in
    c.from-2.ensures ∙ ap four_of all
