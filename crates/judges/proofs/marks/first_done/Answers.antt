-- `judges::marks::first_done` meets its contract. Assumes nothing.
use Rattle.std.proofs.Common.{rules, ◌≡◌, true, ◌↔◌, take}
use Rattle.std.specs.List.{All}
use Rattle.samples.proofs.Laws.{every}
use Rattle.judges.proofs.marks.first_done.Goals as goal

pub returns : goal.returns
returns c =
    let xs = take c.args.n c.args.marks.now in
    let e : (c.all.result ≡ true) ↔ All (λ m. m ≡ true) xs = search rules in
    every _ xs c.all.result e
