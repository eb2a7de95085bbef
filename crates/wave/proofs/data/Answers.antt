-- `wave::data` meets its contract: the stretch lies within the file. Assumes nothing.
use native.Mathlib.Omega.{arith}
use mathlib.Core.Path.{◌≡◌, ap, ◌∙◌}
use Rattle.wave.specs.declared.Take.{Take}
use Rattle.wave.specs.Reading.{reading, take_of}
use Rattle.wave.proofs.Readings.{take_room}
use Rattle.wave.proofs.data.Goals as goal
use Rattle.wave.proofs.data.Goals.{After-take_of-t}

-- the take that the code has
own : (c : goal.After-take_of-t) → c.take_of-t.result ≡ take_of (reading c.args.file.now)
own c = c.take_of-t.ensures ∙ ap take_of c.read.ensures

pub overflow_add-result : goal.overflow_add-result
overflow_add-result c = rw (own (goal.at.overflow_add-result c).After-take_of-t) (omega (arith, take_room c.args.file.now))

pub slice_bounds-result-end : goal.slice_bounds-result-end
slice_bounds-result-end c =
    let is = own (goal.at.slice_bounds-result-end c).After-take_of-t in
    omega (arith, take_room c.args.file.now, ap (λ (t : Take). t.first) is, ap (λ (t : Take). t.len) is)
