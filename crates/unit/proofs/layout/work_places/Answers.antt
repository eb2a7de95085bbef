-- `unit::layout::work_places` meets its contract. Assumes nothing.
use borrow.Author.Tests.{leb-true}
use lib.Dec.{leb}
use Rattle.samples.proofs.Laws.{split_and}
use Rattle.unit.proofs.layout.work_places.Goals as goal

pub returns-then-not-n-f : goal.returns-then-not-n-f
returns-then-not-n-f c =
    rw (c.if-not-n-f.true) c.places_of.ensures

pub places_of-requires-2 : goal.places_of-requires-2
places_of-requires-2 c =
    let a = c.args in
    let p = split_and (leb a.n 16) (leb a.f 65536) (c.if-not-n-f.false) in
    (leb-true a.n 16 p.0, leb-true a.f 65536 p.1)

pub returns : goal.returns
returns c =
    rw (c.if-not-n-f.false) c.places_of-2.ensures
