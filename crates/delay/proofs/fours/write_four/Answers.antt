-- `delay::fours::write_four` meets its contract. Assumes nothing.
use native.Mathlib.Omega.{arith}
use mathlib.Core.Path.{◌≡◌, sym, ap, ◌∙◌}
use mathlib.Core.List.{List, [], ◌++◌}
use Prim.Native.Nat.{ℕ, ◌+◌, ◌<◌, ◌≤◌}
use lib.Ieee.{Float, nan}
use lib.ListN.{length, get_or, set, take, drop, length-set, drop_of_length-le}
use Rattle.samples.proofs.Turns.{back, next}
use Rattle.delay.specs.declared.Four.{Four}
use Rattle.delay.specs.Ring.{wrap, write_each, list_of}
use Rattle.delay.proofs.Straight.{store_straight}
use Rattle.delay.proofs.fours.write_four.Goals as goal

-- once one more sample is stored, what is left to store makes of the ring what it was to make
one_stored : (ring w xs : List Float) (k i : ℕ) → write_each ring k (drop i xs) ≡ w → i < length xs
    → write_each (set ring k (get_or xs i nan)) (wrap (length ring) (k + 1)) (drop (i + 1) xs) ≡ w
unfolding write_each
one_stored ring w xs k i left more = rw (next xs i nan more) at left

-- once all four are, the ring is what was to be made of it
four_stored : (x : Four) (ring w xs : List Float) (k i at : ℕ) → write_each ring k (drop i xs) ≡ write_each w at xs → 4 ≤ i → xs ≡ list_of x
    → ring ≡ write_each w at (list_of x)
unfolding write_each
four_stored x ring w xs k i at left past e =
    let none : drop i xs ≡ [] = drop_of_length-le xs (omega (arith, ap length e)) in
    (rw none at left) ∙ ap (write_each w at) e

pub returns-then-l-at-ge4 : goal.returns-then-l-at-ge4
returns-then-l-at-ge4 c =
    let ring = c.args.ring.now in
    let at = c.args.at in
    let xs = c.copy_from_slice.ensures.after ∙ c.from-xs.ensures in
    back at 4 ring c.copy_from_slice.new.self
    ∙ ap (λ (ys : List Float). take at ring ++ (ys ++ drop (at + 4) ring)) xs
    ∙ store_straight ring at c.requires c.if-l-at-ge4.true c.args.x

pub loop-x-preserved : goal.loop-x-preserved
loop-x-preserved c =
    let l = c.loop-x in
    let four = ap length c.from-xs.ensures in
    let there : c.next-k.result ≡ wrap (length l.ring) (l.k + 1) = c.next-k.ensures.0 ∙ ap (λ (m : ℕ). wrap m (l.k + 1)) (sym l.auto.ring) in
    record {
      within = simp (length-set, l.auto.ring) c.next-k.ensures.1;
      left = rw there (one_stored l.ring _ _ l.k l.x-index l.invariant.left (omega (arith, four)));
    }

pub returns : goal.returns
returns c =
    let l = c.loop-x in
    four_stored c.args.x l.ring c.args.ring.now _ l.k l.x-index c.args.at l.invariant.left (omega (arith, ap length c.from-xs.ensures)) (simp c.from-xs.ensures)
