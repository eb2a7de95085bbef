-- `unit::layout::lengths` meets its contract. Assumes nothing.
use mathlib.Core.Path.{refl, sym, ◌∙◌}
use Rattle.samples.proofs.Laws.{frame_of}
use Rattle.unit.proofs.layout.lengths.Goals as goal

pub returns-then-not-frame_ok : goal.returns-then-not-frame_ok
returns-then-not-frame_ok c = rw (sym c.frame_ok.ensures ∙ c.if-not-frame_ok.true) refl

pub lengths_of-requires : goal.lengths_of-requires
lengths_of-requires c = (frame_of _ (sym c.frame_ok.ensures ∙ c.if-not-frame_ok.false)).hi

pub returns : goal.returns
returns c =
    rw (sym c.frame_ok.ensures ∙ c.if-not-frame_ok.false) c.lengths_of.ensures
