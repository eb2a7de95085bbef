-- `wire::unpack_whole`. The invariant: in front of the place stand the floats of the groups in front of it. Assumes nothing.
use Rattle.std.proofs.Common.{◌≡◌, map, take}
use Rattle.wire.proofs.unpack_whole.Given as goal

abbrev pub invariant-loop-i : goal.invariant-loop-i
invariant-loop-i g l = take l.i l.out ≡ map g.C.Code.float_of (take l.i l.groups)
