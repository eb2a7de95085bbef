-- A call's own contract, and what the theorems say of it: that it ends as the machine's call, and what a refusal leaves.
use Rattle.std.specs.Prelude.{ℕ, ◌≡◌, true, List, Float, Err}
use contract.Lifetimes
use borrow.Fn.Kinds as Kinds'
use denote.Triple.Clauses
use Rattle.samples.specs.declared.Refusal.TheVariants.{NotFinite}
use Rattle.unit.specs.declared.Outcome.{Outcome}
use Rattle.unit.specs.Layout.{wall}
use Rattle.machine.specs.Ending.{Memory, lend, Ending, refused}
use Rattle.machine.specs.Calls.{Call, ending}
use Rattle.machine.specs.Requests.{refusal}
use Rattle.demands.specs.Refusals.{so_far, output_so_far, given_back}

-- how a call ended that gave x, and left these in the store, the work memory and the output
abbrev pub leaving : Outcome → List Float → List Float → List Float → Ending
leaving x store work output = record { answer = x.answer; verdict = x.verdict; memory = lend x.state store work; output = output }

-- a function of the code as a call of the machine. Its contract as the prover knows it: how many lifetimes, what it takes and what it gives, and
-- what it promises of these. Then the unit and the memory that its arguments lend, the call that they make, and how it ended, by its result and by
-- what is left of the slices; a slice lent to be read alone is left as it was, which is what its type says. The last list of `lent` and `ended`
-- stands for a slice that the function isn't lent
pub record Function : Type 3 where
  pub lifetimes : ℕ
  pub takes : List (Kinds'.ParamKind lifetimes)
  pub gives : Kinds'.ResultKind lifetimes
  pub post : Kinds'.Out lifetimes takes gives
  pub lent : (κs : Lifetimes.Lfts lifetimes) → Kinds'.Dens κs takes → List Float → Memory
  pub call : (κs : Lifetimes.Lfts lifetimes) → Kinds'.Dens κs takes → Call
  pub ended : (κs : Lifetimes.Lfts lifetimes) → Kinds'.Dens κs takes → (Kinds'.res_t gives κs).Denot → Clauses.AtExit (Kinds'.ended_of lifetimes takes gives) κs
      → List Float → Ending

-- what holds of all that the contract allows, whatever a slice that isn't lent would hold
abbrev pub Always : (Memory → Call → Ending → Type 0) → Function → Type 0
Always holds f =
    (κs : Lifetimes.Lfts f.lifetimes) (a : Kinds'.Dens κs f.takes) (x : (Kinds'.res_t f.gives κs).Denot)
    (s : Clauses.AtExit (Kinds'.ended_of f.lifetimes f.takes f.gives) κs) → f.post κs a x s
    → (rest : List Float) → holds (f.lent κs a rest) (f.call κs a) (f.ended κs a x s rest)

-- it is how the machine's call ends
abbrev pub EndsAsCall : Function → Type 0
EndsAsCall = Always (λ w c e. e ≡ ending wall w c)

-- answered 1 to 8, the state is the one given, and every slice holds what it held; of several frames, what those left that were done
abbrev pub RefusedLeaves : Function → Type 0
RefusedLeaves = Always (λ w c e. refusal e.answer ≡ true → e ≡ refused e.answer (so_far wall w c) (output_so_far wall w c))

-- answered 9, the state is that from before the frame opened, store and output hold what they held, and the work memory is all +0; of several
-- frames, of what those left that were done
abbrev pub FailedGivesBack : Function → Type 0
FailedGivesBack = Always (λ w c e. e.answer ≡ Err NotFinite → e ≡ refused (Err NotFinite) (given_back wall (so_far wall w c)) (output_so_far wall w c))
