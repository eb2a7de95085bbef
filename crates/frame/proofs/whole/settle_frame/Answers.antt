-- `frame::whole::settle_frame` meets its contract: what is lent on are the rows, the rings and the output of the work memory. Assumes nothing.
use native.Mathlib.Omega.{arith}
use mathlib.Core.Path.{◌≡◌, sym, ap, ◌∙◌}
use Prim.Native.Nat.{◌+◌, ◌-◌, ◌*◌}
use lib.ListN.{length, take, drop, length-drop}
use Rattle.stages.proofs.RowLaws.{copied_all}
use Rattle.samples.proofs.Turns.{lent}
use Rattle.samples.proofs.Lists.{lent_long, end_is}
use Rattle.unit.specs.Layout.{places_of}
use Rattle.unit.proofs.PlaceLaws.{placed, Placed, each}
use Rattle.stages.specs.Settle.{settled}
use Rattle.rows.specs.Rows.{rows_of}
use Rattle.frame.proofs.whole.settle_frame.Goals.{After-work_places-p, Start}
use Rattle.frame.proofs.whole.settle_frame.Goals as goal

module _ (c : goal.After-work_places-p) where
  abbrev s : goal.Start
  s = c.before.before.before.before.before

  at : c.work_places-p.result ≡ places_of s.args.n s.args.f
  at = placed _ _ s.requires.lines.few s.requires.lines.small c.work_places-p.ensures

  spots : Placed c.work_places-p.result s.args.n s.args.f
  spots = each _ _ at

pub settle-requires : goal.settle-requires
settle-requires c =
    let p = s (goal.at.settle-requires c).After-work_places-p in
    let work = p.args.work.now in
    let m = p.args.n * p.args.f in
    let from = p.args.f + m in
    let e = from + m + p.args.f in
    let l = p.requires.lines in rw (at (goal.at.settle-requires c).After-work_places-p) (record {
      lines_fit = record {
        few = l.few;
        some = l.some;
        small = l.small;
        rows_are = lent_long from work m (omega (arith, p.requires.rows));
        rings = l.rings;
      };
      allpass_fits = omega (arith, p.requires.rings, p.requires.rows, ap length (end_is e work), length-drop e work);
    })

pub returns : goal.returns
unfolding rows_of
returns c =
    let p = s (goal.at.returns c).After-work_places-p in
    let a = p.args in
    let work = a.work.now in
    let m = a.n * a.f in
    let from = a.f + m in
    let e = from + m + a.f in record {
      store_after = rw (at (goal.at.returns c).After-work_places-p) at c.settle.ensures
          ∙ (λ i. settled a.n a.f a.rings (lent from m work i) (end_is e work i) a.store.now);
      output_after = rw (at (goal.at.returns c).After-work_places-p) at c.copy.ensures
          ∙ copied_all (take (e - (from + m)) (drop (from + m) work)) a.output.now (lent_long (from + m) work a.f (omega (arith, p.requires.rows)) ∙ sym p.requires.out)
          ∙ lent (from + m) a.f work;
    }
