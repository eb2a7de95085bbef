-- `wave::chunks::begins` meets its contract. Assumes nothing.
use mathlib.Core.Path.{◌∙◌}
use Rattle.wave.proofs.Names.{starts_with-begins}
use Rattle.wave.proofs.chunks.begins.Goals as goal

pub returns : goal.returns
returns c = c.starts_with.ensures.value ∙ starts_with-begins c.args.name.now c.args.bytes.now
