-- The marks of an open frame: which of its jobs are done (R5.2).
use Rattle.std.specs.Prelude.{ℕ, Bool, false, List, get_or, take}
use Rattle.samples.specs.Lists.{all_from}
use Rattle.unit.specs.UnitState.{UnitState}
use Rattle.unit.specs.Layout.{Model}

-- R5.2: whether the job of mark k is done
abbrev pub marked : UnitState → ℕ → Bool
marked u k = get_or u.held.marks k false

-- R5.20: all jobs are done
abbrev pub all_done : List Bool → Bool
all_done marks = all_from (λ k done. done) 0 marks

-- R5.12, R5.14: all reads are done
abbrev pub all_read : Model → UnitState → Bool
all_read m u = all_done (take m.lines u.held.marks)
