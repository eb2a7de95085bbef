-- What is judged of the rows of a frame in the work memory.
use Rattle.std.specs.Prelude.{Bool, ◌&&◌, List}
use Rattle.search.specs.Search.{all_finite}
use Rattle.iir.specs.declared.Filter.{Filter}
use Rattle.stages.specs.Settle.{filters_finite}
use Rattle.rows.specs.Rows.{Rows}

-- R5.21: what 9 judges, as it lies in the work memory
unfoldable pub rows_finite : List Filter → Rows → Bool
rows_finite fs r = filters_finite fs && (all_finite r.mixed && (all_finite r.output && all_finite r.rings))
