-- The same of the program's functions on lent memory. Assumes nothing.
use mathlib.Core.Path.{sym, ◌∙◌}
use Rattle.demands.specs.DeterminedProgram.{ProgramDetermined}

pub program_determined : ProgramDetermined
program_determined = record {
  input_frame = λ κs a x y s t p q. (p.0 ∙ sym q.0, p.1.0 ∙ sym q.1.0, p.1.1.0 ∙ sym q.1.1.0, p.1.1.1.0 ∙ sym q.1.1.1.0);
  tail_frame = λ κs a x y s t p q. (p.0 ∙ sym q.0, p.1.0 ∙ sym q.1.0, p.1.1.0 ∙ sym q.1.1.0, p.1.1.1 ∙ sym q.1.1.1);
  times = λ κs a x y s t p q. p ∙ sym q;
  coefficients = λ κs a x y s t p q. p ∙ sym q;
  start = λ κs a x y s t p q. (p.0 ∙ sym q.0, p.1 ∙ sym q.1);
  tail_calls = λ κs a x y s t p q. p ∙ sym q;
}
