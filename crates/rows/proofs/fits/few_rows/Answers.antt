-- `rows::fits::few_rows` meets its contract. Assumes nothing.
use Rattle.std.proofs.Common.{rules}
use Rattle.rows.specs.Fits.{few_rows}
use Rattle.rows.proofs.fits.few_rows.Goals as goal

pub returns : goal.returns
unfolding few_rows
returns c = search rules
