-- What is due of each call of a frame done as jobs, 9 aside. An open has its turn with no frame open, every other call with one (R5.4, R5.5).
use Rattle.std.specs.Prelude.{ℕ, true, not, ◌&&◌, List, ltb, Float, length}
use Rattle.samples.specs.Answers.{Answer, or_else}
use Rattle.bands.specs.declared.Times.{Times}
use Rattle.unit.specs.UnitState.{UnitState}
use Rattle.unit.specs.Layout.{Model, mix_mark, line_mark, output_mark}
use Rattle.unit.specs.Room.{lent_ok}
use Rattle.judges.specs.Judges.{judged, store_ok, work_ok, given_ok, judged_given}
use Rattle.judges.specs.Marks.{marked, all_done, all_read}

-- R2.24: open apply, 1 3 5 6 7 8
abbrev pub judged_open_apply : Model → UnitState → Times → List Float → List Float → ℕ → ℕ → Answer
judged_open_apply m u t coefficients input store work =
    or_else
    (judged m u (given_ok m u (length coefficients) (length input) && (store_ok m u store && work_ok m u work)) true (not u.held.busy))
    (judged_given t coefficients input)

-- R2.25: open tail, 1 3 5
abbrev pub judged_open_tail : Model → UnitState → ℕ → ℕ → Answer
judged_open_tail m u store work = judged m u (store_ok m u store && work_ok m u work) true (not u.held.busy)

-- R2.26, R5.11: read i, 1 3 4 5
abbrev pub judged_read : Model → UnitState → ℕ → ℕ → ℕ → Answer
judged_read m u i store work =
    judged m u (store_ok m u store && work_ok m u work) (ltb i m.lines) (u.held.busy && not (marked u i))

-- R2.27, R5.12: the mix, 1 3 5
abbrev pub judged_mix : Model → UnitState → ℕ → Answer
judged_mix m u work = judged m u (work_ok m u work) true (u.held.busy && (all_read m u && not (marked u (mix_mark m))))

-- R2.28, R5.13: line i, 1 3 4 5
abbrev pub judged_line : Model → UnitState → ℕ → ℕ → Answer
judged_line m u i work =
    judged m u (work_ok m u work) (ltb i m.lines) (u.held.busy && (marked u (mix_mark m) && not (marked u (line_mark m i))))

-- R2.29, R5.14: the output, 1 3 5
abbrev pub judged_output : Model → UnitState → ℕ → Answer
judged_output m u work = judged m u (work_ok m u work) true (u.held.busy && (all_read m u && not (marked u (output_mark m))))

-- R2.30, R5.20: close, 1 3 5
abbrev pub judged_close : Model → UnitState → ℕ → ℕ → ℕ → Answer
judged_close m u store work output = judged m u (lent_ok m u store work output) true (u.held.busy && all_done u.held.marks)

-- R2.31, R5.28: abandon, 1 3 5
abbrev pub judged_abandon : Model → UnitState → ℕ → Answer
judged_abandon m u work = judged m u (work_ok m u work) true u.held.busy
