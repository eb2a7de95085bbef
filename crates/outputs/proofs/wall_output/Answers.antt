-- `outputs::wall_output` meets its contract. Assumes nothing.
use Rattle.outputs.proofs.wall_output.Goals as goal

pub returns : goal.returns
returns c = record { value = c.output_in.ensures.value; work_after = c.output_in.ensures.work_after }
