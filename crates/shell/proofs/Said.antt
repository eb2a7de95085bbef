-- From what a whole call leaves that is lent a silent row to how the program's frame ends, the row written as bytes. Assumes nothing.
use mathlib.Core.Path.{◌≡◌, refl, sym, ap, ◌∙◌}
use mathlib.Core.Bool.{Bool, true, false}
use mathlib.Core.List.{List}
use Prim.Native.Nat.{ℕ, ◌*◌}
use lib.ListN.{length}
use lib.Ieee.{Float}
use Rattle.samples.specs.Answers.{accepted}
use Rattle.samples.proofs.Laws.{accept_yes, accept_no}
use Rattle.wire.specs.Wire.{encoded, written}
use Rattle.wire.proofs.Laws.{encoded_silence, written_all}
use Rattle.unit.specs.declared.Outcome.{Outcome}
use Rattle.unit.specs.UnitState.{UnitState}
use Rattle.machine.specs.Ending.{Ending, outcome_of}
use Rattle.machine.specs.Whole.{Play}
use Rattle.machine.proofs.Ends.{Ends}
use Rattle.shell.specs.Frames.{play_ends, said}
use Rattle.shell.proofs.Left.{left}

-- the row that was lent silent is written as it is left: a refused call leaves it so
row-said : (u : UnitState) (p : Play) (store work : List Float) → encoded (play_ends u p store work).output ≡ said (play_ends u p store work)
unfolding said
row-said u p store work = go (accepted e.answer) refl
  where
    e : Ending
    e = play_ends u p store work

    go : (b : Bool) → accepted e.answer ≡ b → encoded e.output ≡ said e
    go true h = sym (accept_yes e.answer _ _ h)
    go false h =
        ap encoded ((left u p store work).1 ∙ accept_no e.answer _ _ h)
        ∙ encoded_silence 128
        ∙ sym (accept_no e.answer _ _ h)

-- the call was given p, which is q, and the row that it left is encoded over 512 bytes
pub frame_ends_lem : (u : UnitState) {p q : Play} (store work : List Float) (x : Outcome) (store' work' row : List Float) (out₀ out : List ℕ) → p ≡ q
    → length row ≡ 128 → length out₀ ≡ 512 → Ends (play_ends u p store work) x store' work' row → out ≡ written row out₀
    → let e = play_ends u q store work in
    (x ≡ outcome_of e) × ((store' ≡ e.memory.store) × ((work' ≡ e.memory.work) × (out ≡ said e)))
frame_ends_lem u {p} {q} store work x store' work' row out₀ out g n m h o =
    let e : play_ends u p store work ≡ play_ends u q store work = λ j. play_ends u (g j) store work in (
      h.0 ∙ ap outcome_of e,
      (
        h.1.0 ∙ ap (λ (z : Ending). z.memory.store) e,
        (
          h.1.1.0 ∙ ap (λ (z : Ending). z.memory.work) e,
          o ∙ written_all row out₀ (m ∙ ap (λ (k : ℕ). 4 * k) (sym n)) ∙ ap encoded h.1.1.1 ∙ row-said u p store work ∙ ap said e,
        ),
      ),
    )
