-- `allpass::pass_row`. The invariant: the fours that are left, from the rings as they are now, make what all of them make. Assumes nothing.
use Rattle.std.proofs.Common.{◌≡◌, ◌-◌, ◌*◌, ◌/◌, ◌++◌, length, take, drop}
use Rattle.allpass.specs.Passes.{pass_out, pass_end}
use Rattle.allpass.specs.Stages.{stage}
use Rattle.allpass.proofs.pass_row.Given as goal

abbrev pub invariant-loop-i : goal.invariant-loop-i
invariant-loop-i l =
    let n = length l.initial.row / 4 in
    let given = stage l.initial.xs l.initial.cx l.initial.ys l.initial.cy in
    let now = stage l.xs l.cx l.ys l.cy in
    let rest = drop (4 * l.i) l.row in
    record {
      made : take (4 * l.i) l.row ++ pass_out (n - l.i) now rest ≡ pass_out n given l.initial.row;
      rings : pass_end (n - l.i) now rest ≡ pass_end n given l.initial.row;
    }
