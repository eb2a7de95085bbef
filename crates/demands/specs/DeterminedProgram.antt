-- The same of the program's functions on lent memory.
use Rattle.demands.specs.Determined.{Determined, DeterminedWith1, DeterminedWith3}
use Rattle.shell.proofs.input_frame.Kinds as shell-input-frame-kinds
use Rattle.shell.proofs.input_frame.Reads as shell-input-frame-reads
use Rattle.shell.proofs.tail_frame.Kinds as shell-tail-frame-kinds
use Rattle.shell.proofs.tail_frame.Reads as shell-tail-frame-reads
use Rattle.shell.proofs.times.Kinds as shell-times-kinds
use Rattle.shell.proofs.times.Reads as shell-times-reads
use Rattle.shell.proofs.coefficients.Kinds as shell-coefficients-kinds
use Rattle.shell.proofs.coefficients.Reads as shell-coefficients-reads
use Rattle.shell.proofs.start.Kinds as shell-start-kinds
use Rattle.shell.proofs.start.Reads as shell-start-reads
use Rattle.shell.proofs.tail_calls.Kinds as shell-tail-calls-kinds
use Rattle.shell.proofs.tail_calls.Reads as shell-tail-calls-reads

pub record ProgramDetermined : Type 0 where
  pub input_frame : DeterminedWith3 4 shell-input-frame-kinds.ps shell-input-frame-kinds.r shell-input-frame-reads.Post (λ κs s. s.1.1.0.now) (λ κs s. s.1.1.1.0.now) (λ κs s. s.1.1.1.1.0.now)
  pub tail_frame : DeterminedWith3 3 shell-tail-frame-kinds.ps shell-tail-frame-kinds.r shell-tail-frame-reads.Post (λ κs s. s.1.0.now) (λ κs s. s.1.1.0.now) (λ κs s. s.1.1.1.0.now)
  pub times : Determined 0 shell-times-kinds.ps shell-times-kinds.r shell-times-reads.Post
  pub coefficients : Determined 0 shell-coefficients-kinds.ps shell-coefficients-kinds.r shell-coefficients-reads.Post
  pub start : DeterminedWith1 1 shell-start-kinds.ps shell-start-kinds.r shell-start-reads.Post (λ κs s. s.0.now)
  pub tail_calls : Determined 0 shell-tail-calls-kinds.ps shell-tail-calls-kinds.r shell-tail-calls-reads.Post
