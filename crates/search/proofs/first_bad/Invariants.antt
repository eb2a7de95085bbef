-- `search::first_bad`. The invariant of both loops: nothing is found yet, what is left begins at i, and the search of it finds what the search of
-- all finds. Assumes nothing.
use Rattle.std.proofs.Common.{◌≡◌, ◌+◌, ◌++◌, length, drop}
use Rattle.std.specs.Prelude.{None}
use Rattle.std.specs.Slice.Iter.{chunks_rest}
use Rattle.search.specs.Search.{first_from, first_bad}
use Rattle.search.proofs.first_bad.Given as goal

abbrev pub invariant-loop-x : goal.invariant-loop-x
invariant-loop-x l = let left = drop l.x-index l.part ++ chunks_rest l.part-iterator in record {
  begins : l.i + length left ≡ length l.rows;
  finds : first_from l.i left ≡ first_bad l.rows;
  none_yet : l.found ≡ None;
}

abbrev pub invariant-rows : goal.invariant-rows
invariant-rows l = let left = chunks_rest l.part-iterator in record {
  begins : l.i + length left ≡ length l.rows;
  finds : first_from l.i left ≡ first_bad l.rows;
  none_yet : l.found ≡ None;
}
