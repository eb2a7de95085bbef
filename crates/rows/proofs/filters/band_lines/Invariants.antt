-- `rows::filters::band_lines`. The invariant: the rows filtered so far, then those left by their bands, are the answer, and so of the filters.
-- Assumes nothing.
use Prim.Native.Nat.{◌-◌}
use lib.ListN.{length}
use Rattle.stages.specs.Lines.{band_ends}
use Rattle.stages.proofs.RowLaws.{by_bands}
use Rattle.rows.proofs.BandTurns.{Filtering}
use Rattle.rows.proofs.filters.band_lines.Given as goal

abbrev pub invariant-loop-i : goal.invariant-loop-i
invariant-loop-i l =
    Filtering l.n l.f l.initial.gs (by_bands l.f l.n 0 l.initial.gs l.initial.rows) (band_ends l.f l.n 0 l.initial.gs l.initial.rows) (length l.initial.rows) l.i l.b l.gs l.rows

abbrev pub decreases-loop-i : goal.decreases-loop-i
decreases-loop-i l = l.n - l.i
