-- The unit's thirteen calls, each by its own contract as the prover knows it.
use Rattle.std.specs.Prelude.{◌≡◌, true, []}
use contract.Lifetimes
use borrow.Fn.Kinds as Kinds'
use denote.Triple.Clauses
use Rattle.samples.specs.Answers.{Accepted}
use Rattle.unit.specs.Layout.{wall}
use Rattle.unit.specs.Fresh.{least_unit}
use Rattle.machine.specs.Ending.{lend, refused}
use Rattle.machine.specs.Whole.{apply, tail, begun}
use Rattle.machine.specs.Jobs.{read_job, mix_job, line_job, output_job}
use Rattle.machine.specs.Calls.{reset, whole, frames, start, job, close, abandon}
use Rattle.machine.specs.Requests.{refusal}
use Rattle.demands.specs.Refusals.{given_back}
use Rattle.demands.specs.TheContracts.{leaving, Function, Always, EndsAsCall, RefusedLeaves, FailedGivesBack}
use Rattle.reverb.proofs.fresh.Kinds as fresh-kinds
use Rattle.reverb.proofs.fresh.Reads as fresh-reads
use Rattle.reverb.proofs.reset.Kinds as reset-kinds
use Rattle.reverb.proofs.reset.Reads as reset-reads
use Rattle.reverb.proofs.apply.Kinds as apply-kinds
use Rattle.reverb.proofs.apply.Reads as apply-reads
use Rattle.reverb.proofs.apply_frames.Kinds as apply-frames-kinds
use Rattle.reverb.proofs.apply_frames.Reads as apply-frames-reads
use Rattle.reverb.proofs.tail.Kinds as tail-kinds
use Rattle.reverb.proofs.tail.Reads as tail-reads
use Rattle.opening.proofs.open_apply.Kinds as open-apply-kinds
use Rattle.opening.proofs.open_apply.Reads as open-apply-reads
use Rattle.opening.proofs.open_tail.Kinds as open-tail-kinds
use Rattle.opening.proofs.open_tail.Reads as open-tail-reads
use Rattle.jobs.proofs.job_read.Kinds as job-read-kinds
use Rattle.jobs.proofs.job_read.Reads as job-read-reads
use Rattle.jobs.proofs.job_mix.Kinds as job-mix-kinds
use Rattle.jobs.proofs.job_mix.Reads as job-mix-reads
use Rattle.jobs.proofs.job_line.Kinds as job-line-kinds
use Rattle.jobs.proofs.job_line.Reads as job-line-reads
use Rattle.jobs.proofs.job_output.Kinds as job-output-kinds
use Rattle.jobs.proofs.job_output.Reads as job-output-reads
use Rattle.closing.proofs.close.Kinds as close-kinds
use Rattle.closing.proofs.close.Reads as close-reads
use Rattle.closing.proofs.abandon.Kinds as abandon-kinds
use Rattle.closing.proofs.abandon.Reads as abandon-reads

-- ---- each function as a call of the machine: where its arguments and what it leaves lie

abbrev pub as_reset : Function
as_reset = record {
  lifetimes = 1;
  takes = reset-kinds.ps;
  gives = reset-kinds.r;
  post = reset-reads.Post;
  lent = λ κs a rest. lend a.0 a.1.0.now rest;
  call = λ κs a. reset;
  ended = λ κs a x s rest. leaving x s.1.0.now rest [];
}

abbrev pub as_apply : Function
as_apply = record {
  lifetimes = 5;
  takes = apply-kinds.ps;
  gives = apply-kinds.r;
  post = apply-reads.Post;
  lent = λ κs a rest. lend a.0 a.1.1.1.1.0.now a.1.1.1.1.1.0.now;
  call = λ κs a. whole (apply a.1.0 a.1.1.0.now a.1.1.1.0.now) a.1.1.1.1.1.1.0.now;
  ended = λ κs a x s rest. leaving x s.1.1.1.1.0.now s.1.1.1.1.1.0.now s.1.1.1.1.1.1.0.now;
}

-- beside its ending it says how many frames were done: `reverb::apply_frames`
abbrev pub as_apply_frames : Function
as_apply_frames = record {
  lifetimes = 5;
  takes = apply-frames-kinds.ps;
  gives = apply-frames-kinds.r;
  post = apply-frames-reads.Post;
  lent = λ κs a rest. lend a.0 a.1.1.1.1.0.now a.1.1.1.1.1.0.now;
  call = λ κs a. frames a.1.0 a.1.1.0.now a.1.1.1.0.now a.1.1.1.1.1.1.0.now;
  ended = λ κs a x s rest. leaving x.outcome s.1.1.1.1.0.now s.1.1.1.1.1.0.now s.1.1.1.1.1.1.0.now;
}

abbrev pub as_tail : Function
as_tail = record {
  lifetimes = 3;
  takes = tail-kinds.ps;
  gives = tail-kinds.r;
  post = tail-reads.Post;
  lent = λ κs a rest. lend a.0 a.1.0.now a.1.1.0.now;
  call = λ κs a. whole tail a.1.1.1.0.now;
  ended = λ κs a x s rest. leaving x s.1.0.now s.1.1.0.now s.1.1.1.0.now;
}

abbrev pub as_open_apply : Function
as_open_apply = record {
  lifetimes = 4;
  takes = open-apply-kinds.ps;
  gives = open-apply-kinds.r;
  post = open-apply-reads.Post;
  lent = λ κs a rest. lend a.0 a.1.1.1.1.0.now a.1.1.1.1.1.0.now;
  call = λ κs a. start (apply a.1.0 a.1.1.0.now a.1.1.1.0.now);
  ended = λ κs a x s rest. leaving x a.1.1.1.1.0.now s.1.1.1.1.1.0.now [];
}

abbrev pub as_open_tail : Function
as_open_tail = record {
  lifetimes = 2;
  takes = open-tail-kinds.ps;
  gives = open-tail-kinds.r;
  post = open-tail-reads.Post;
  lent = λ κs a rest. lend a.0 a.1.0.now a.1.1.0.now;
  call = λ κs a. start tail;
  ended = λ κs a x s rest. leaving x a.1.0.now s.1.1.0.now [];
}

abbrev pub as_job_read : Function
as_job_read = record {
  lifetimes = 2;
  takes = job-read-kinds.ps;
  gives = job-read-kinds.r;
  post = job-read-reads.Post;
  lent = λ κs a rest. lend a.0 a.1.1.0.now a.1.1.1.0.now;
  call = λ κs a. job (read_job a.1.0);
  ended = λ κs a x s rest. leaving x a.1.1.0.now s.1.1.1.0.now [];
}

abbrev pub as_job_mix : Function
as_job_mix = record {
  lifetimes = 1;
  takes = job-mix-kinds.ps;
  gives = job-mix-kinds.r;
  post = job-mix-reads.Post;
  lent = λ κs a rest. lend a.0 rest a.1.0.now;
  call = λ κs a. job mix_job;
  ended = λ κs a x s rest. leaving x rest s.1.0.now [];
}

abbrev pub as_job_line : Function
as_job_line = record {
  lifetimes = 1;
  takes = job-line-kinds.ps;
  gives = job-line-kinds.r;
  post = job-line-reads.Post;
  lent = λ κs a rest. lend a.0 rest a.1.1.0.now;
  call = λ κs a. job (line_job a.1.0);
  ended = λ κs a x s rest. leaving x rest s.1.1.0.now [];
}

abbrev pub as_job_output : Function
as_job_output = record {
  lifetimes = 1;
  takes = job-output-kinds.ps;
  gives = job-output-kinds.r;
  post = job-output-reads.Post;
  lent = λ κs a rest. lend a.0 rest a.1.0.now;
  call = λ κs a. job output_job;
  ended = λ κs a x s rest. leaving x rest s.1.0.now [];
}

abbrev pub as_close : Function
as_close = record {
  lifetimes = 3;
  takes = close-kinds.ps;
  gives = close-kinds.r;
  post = close-reads.Post;
  lent = λ κs a rest. lend a.0 a.1.0.now a.1.1.0.now;
  call = λ κs a. close a.1.1.1.0.now;
  ended = λ κs a x s rest. leaving x s.1.0.now s.1.1.0.now s.1.1.1.0.now;
}

abbrev pub as_abandon : Function
as_abandon = record {
  lifetimes = 1;
  takes = abandon-kinds.ps;
  gives = abandon-kinds.r;
  post = abandon-reads.Post;
  lent = λ κs a rest. lend a.0 rest a.1.0.now;
  call = λ κs a. abandon;
  ended = λ κs a x s rest. leaving x rest s.1.0.now [];
}

-- ---- the same said of each of the twelve that are given a state

pub record EachCall (say : Function → Type 0) : Type 0 where
  pub reset : say as_reset
  pub apply : say as_apply
  pub apply_frames : say as_apply_frames
  pub tail : say as_tail
  pub open_apply : say as_open_apply
  pub open_tail : say as_open_tail
  pub job_read : say as_job_read
  pub job_mix : say as_job_mix
  pub job_line : say as_job_line
  pub job_output : say as_job_output
  pub close : say as_close
  pub abandon : say as_abandon

-- R8.16: the code does what the machine says. This is where the contracts and the theorems meet
abbrev pub CallsEnd : Type 0
CallsEnd = EachCall EndsAsCall

-- R8.4: "refusal_changes_nothing" of the contracts
abbrev pub RefusedCalls : Type 0
RefusedCalls = EachCall RefusedLeaves

-- R8.5, R8.6: "failure_gives_back" of the contracts
abbrev pub FailedCalls : Type 0
FailedCalls = EachCall FailedGivesBack

-- and an abandon that is accepted
abbrev pub AbandonedCall : Type 0
AbandonedCall = Always (λ w c e. e.answer ≡ Accepted → e.memory ≡ given_back wall w) as_abandon

-- ---- fresh, which is given none

abbrev pub FreshEnds : Type 0
FreshEnds =
    (κs : Lifetimes.Lfts 1) (a : Kinds'.Dens κs fresh-kinds.ps) (x : (Kinds'.res_t fresh-kinds.r κs).Denot)
    (s : Clauses.AtExit (Kinds'.ended_of 1 fresh-kinds.ps fresh-kinds.r) κs) → fresh-reads.Post κs a x s
    → leaving x s.1.1.0.now [] [] ≡ begun wall a.0 a.1.0 a.1.1.0.now

-- refused, it leaves the store
abbrev pub RefusedFreshCall : Type 0
RefusedFreshCall =
    (κs : Lifetimes.Lfts 1) (a : Kinds'.Dens κs fresh-kinds.ps) (x : (Kinds'.res_t fresh-kinds.r κs).Denot)
    (s : Clauses.AtExit (Kinds'.ended_of 1 fresh-kinds.ps fresh-kinds.r) κs) → fresh-reads.Post κs a x s
    → refusal x.answer ≡ true
    → leaving x s.1.1.0.now [] [] ≡ refused x.answer (record { unit = least_unit wall; store = a.1.1.0.now; work = [] }) []
