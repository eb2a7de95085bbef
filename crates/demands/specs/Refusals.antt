-- Demand 1: what a refusal leaves (R8.4 to R8.6). The calls' contracts cite the machine, so what holds of its endings holds of what the calls
-- give and leave.
use Rattle.std.specs.Prelude.{ℕ, ◌*◌, ◌≡◌, true, cond, List, [], ◌++◌, Float, take, drop, Err}
use Rattle.samples.specs.declared.Refusal.TheVariants.{NotFinite}
use Rattle.samples.specs.Answers.{Accepted}
use Rattle.unit.specs.Layout.{Model}
use Rattle.unit.specs.Fresh.{least_unit}
use Rattle.machine.specs.Ending.{Memory, refused}
use Rattle.machine.specs.Whole.{begun, wiped}
use Rattle.machine.specs.Jobs.{memory_shut}
use Rattle.machine.specs.Several.{several}
use Rattle.machine.specs.Calls.{Call, reset, whole, frames, start, job, close, abandon, ending, answer}
use Rattle.machine.specs.Requests.{refusal}
use Rattle.demands.specs.Several.{applies_of, after_all, outputs_of}

-- the unit and the memory that a refusal finds: what the call was lent. Several frames at once read frame by frame (R10.11): what those left that
-- were done
abbrev pub so_far : Model → Memory → Call → Memory
so_far m w reset = w
so_far m w (whole p output) = w
so_far m w (frames t coefficients input output) =
    after_all m w (take (several m w t coefficients input output).done (applies_of w t coefficients input output))
so_far m w (start p) = w
so_far m w (job j) = w
so_far m w (close output) = w
so_far m w abandon = w

-- R10.7: and the output, where it is lent one
abbrev pub output_so_far : Model → Memory → Call → List Float
output_so_far m w reset = []
output_so_far m w (whole p output) = output
output_so_far m w (frames t coefficients input output) =
    let done = (several m w t coefficients input output).done in
    outputs_of m w (take done (applies_of w t coefficients input output)) ++ drop (done * w.unit.settings.frame) output
output_so_far m w (start p) = []
output_so_far m w (job j) = []
output_so_far m w (close output) = output
output_so_far m w abandon = []

-- R8.4: answered 1 to 8, a call leaves the unit, the memory and the output as it found them
abbrev pub RefusalChangesNothing : Type 0
RefusalChangesNothing =
    (m : Model) (w : Memory) (c : Call) → refusal (answer m w c) ≡ true → ending m w c ≡ refused (answer m w c) (so_far m w c) (output_so_far m w c)

-- R2.33: fresh is given no state. Refused, it leaves the store
abbrev pub RefusedFresh : Type 0
RefusedFresh =
    (m : Model) (rate frame : ℕ) (store : List Float) → let e = begun m rate frame store in
    refusal e.answer ≡ true → e ≡ refused e.answer (record { unit = least_unit m; store = store; work = [] }) []

-- R8.5, R8.6: the work memory cleared, and where a frame is open the state from before it
abbrev pub given_back : Model → Memory → Memory
given_back m w = cond w.unit.held.busy (memory_shut m w) (wiped w)

-- R8.5, R8.6: answered 9
abbrev pub FailureGivesBack : Type 0
FailureGivesBack =
    (m : Model) (w : Memory) (c : Call) → answer m w c ≡ Err NotFinite → ending m w c ≡ refused (Err NotFinite) (given_back m (so_far m w c)) (output_so_far m w c)

-- R8.5, R8.6: an abandon that is accepted
abbrev pub AbandonGivesBack : Type 0
AbandonGivesBack = (m : Model) (w : Memory) → answer m w abandon ≡ Accepted → (ending m w abandon).memory ≡ given_back m w
