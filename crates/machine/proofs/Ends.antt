-- From what a call's code gives and leaves to how the call ends, refused and let by. Assumes nothing.
use Rattle.std.specs.Prelude.{Err}
use mathlib.Core.Path.{◌≡◌, sym, ◌∙◌}
use mathlib.Core.Bool.{true, cond}
use mathlib.Core.List.{List}
use lib.Ieee.{Float}
use lib.IntN.{ℤ}
use lib.ListN.{length, replicate}
use Rattle.samples.specs.declared.Refusal.TheVariants.{NotFinite}
use Rattle.samples.specs.Answers.{Answer, Accepted, accept, accepted}
use Rattle.samples.specs.Binary32.{+0}
use Rattle.samples.proofs.Laws.{accept_yes}
use Rattle.audio_buffer.specs.declared.AudioEffectState.TheVariants.{TailComplete}
use Rattle.audio_buffer.specs.Verdict.{verdict_of}
use Rattle.unit.specs.declared.Outcome.{Outcome}
use Rattle.unit.specs.Outcome.{outcome}
use Rattle.unit.specs.Layout.{Model}
use Rattle.stages.specs.Frame.{Frame, new_filters}
use Rattle.unit.specs.Room.{unit_rings}
use Rattle.stages.specs.Settle.{frame_finite, settled}
use Rattle.machine.specs.Ending.{Memory, Ending, outcome_of, refused, quietly}
use Rattle.machine.specs.Whole.{moved_on, played}

-- x is what a call gives, and store, work and output are what it leaves, where it ends in e
abbrev pub Ends : Ending → Outcome → List Float → List Float → List Float → Type 0
Ends e x store work output = (x ≡ outcome_of e) × ((store ≡ e.memory.store) × ((work ≡ e.memory.work) × (output ≡ e.output)))

-- ---- a call that is lent an output

pub ends_let_by : (due : Answer) (new old : Ending) (x : Outcome) (store work output : List Float) → accepted due ≡ true → Ends new x store work output
    → Ends (accept due new old) x store work output
ends_let_by due new old x store work output h p = rw (accept_yes due new old h) p

-- ---- a call that leaves no tail to wait for

module _ (due a : Answer) (new old : Memory) (x : Outcome) (e : a ≡ due) where
  pub quiet_let_by : accepted due ≡ true → x ≡ outcome a new.unit TailComplete → (x ≡ outcome_of (quietly due new old)) × (new ≡ (quietly due new old).memory)
  quiet_let_by h q =
      let m = sym (accept_yes due new old h) in
      (q ∙ (λ i. outcome (e i) (m i).unit TailComplete), m)

-- ---- a frame that is played doesn't look at the work memory lent, but for its length

pub played_as_long : (m : Model) (w : Memory) (r : Frame) (count : ℤ) (output work : List Float) → length work ≡ length w.work
    → played m (record { unit = w.unit; store = w.store; work = work }) r count output ≡ played m w r count output
unfolding played
played_as_long m w r count output work e =
    λ i.
    cond (frame_finite r)
    (record {
      answer = Accepted;
      verdict = verdict_of count;
      memory = record { unit = moved_on m w.unit (new_filters r) count; store = settled m.lines w.unit.settings.frame (unit_rings m w.unit) r.lines.put r.output.rings w.store; work = replicate (e i) +0 };
      output = r.output.out;
    })
    (refused (Err NotFinite) (record { unit = w.unit; store = w.store; work = replicate (e i) +0 }) output)
