-- What a job leaves of the work memory: its own rows anew, and all others as they were. Assumes nothing.
use Rattle.std.specs.Prelude.{Err}
use mathlib.Core.Path.{◌≡◌, refl, sym, ap, ◌∙◌}
use mathlib.Core.Bool.{Bool, true}
use mathlib.Core.List.{List, ◌++◌, append_assoc}
use Prim.Native.Nat.{ℕ, ◌+◌, ◌*◌, ◌-◌, ◌<◌}
use native.Mathlib.Omega.{arith}
use lib.Ieee.{Float}
use lib.ListN.{length, take, drop, length-append}
use lib.Seq.{length-take-le}
use borrow.Rule.Slice.PartMut.{put_mid}
use Rattle.samples.specs.declared.Refusal.TheVariants.{BadState, BadLength, BadIndex, OutOfTurn}
use Rattle.samples.specs.Answers.{Answer, Accepted, accept, need}
use Rattle.samples.specs.Sizes.{rate_ok, frame_ok}
use Rattle.samples.proofs.Laws.{split_and, join_and, needed}
use Rattle.samples.proofs.Turns.{middle}
use Rattle.samples.proofs.Lists.{part_long}
use Rattle.hadamard.specs.Rows.{judged_rows, rows_mixed, mixed_rows}
use Rattle.hadamard.proofs.Laws.{rows_accepted, rows_joined}
use Rattle.iir.specs.declared.Filter.{Filter}
use Rattle.unit.specs.UnitState.{UnitState}
use Rattle.unit.specs.Layout.{wall, lengths, store_len}
use Rattle.unit.specs.Range.{in_range, cursors_in}
use Rattle.unit.specs.Room.{passes_with, unit_rings, rings_hold}
use Rattle.unit.proofs.Ranges.{lengths_long}
use Rattle.judges.specs.Judges.{judged, work_ok}
use Rattle.rows.specs.Rows.{rows_of, joined_rows}
use Rattle.rows.specs.Fits.{work_for}
use Rattle.rows.specs.Workers.{WorkFits}
use Rattle.rows.specs.Parts.{line_laid, line_ends}
use Rattle.rows.proofs.RowsOf.{all_rows}
use Rattle.outputs.specs.Steps.{output_laid, output_ends}
use Rattle.rows.specs.Reads.{read_laid}
use Rattle.rows.proofs.ReadLaid.{read_given}
use Rattle.judges.proofs.Fits.{Due}
use Rattle.machine.specs.Jobs.{read_work, mix_laid}

-- an accepted job's work memory is one of its unit's frames
pub work_for_lem : (u : UnitState) (work : ℕ) → Due u (work_ok wall u work) → work_for wall u.settings.frame work ≡ true
work_for_lem u work d = join_and (split_and (rate_ok u.settings.rate) (frame_ok u.settings.frame) d.sizes).1 d.lent

module _ (f : ℕ) (w : List Float) (h : WorkFits wall f (length w)) where
  abbrev k : ℕ
  k = 16 * f

  abbrev reads : List Float
  reads = take k (drop f w)

  abbrev mixed : List Float
  mixed = take k (drop (f + k) w)

  abbrev rest : List Float
  rest = take f (drop (f + k + k) w) ++ drop (f + k + k + f) w

  length_reads : length reads ≡ k
  length_reads = part_long f w k (omega (arith, h.work_is))

  length-mixed : length mixed ≡ k
  length-mixed = part_long (f + k) w k (omega (arith, h.work_is))

  -- the mix is lent the rows read and mixed
  pub mix_laid_lem : (b e : ℕ) (x : List Float) (a : Answer) → b ≡ f → e ≡ f + k + k
      → let v = take (e - b) (drop b w) in
      (a ≡ judged_rows 16 (length v)) × (x ≡ accept a (rows_mixed 16 wall.factor v) v) → put_mid b (e - b) w x ≡ mix_laid wall f w
  unfolding mix_laid rows_of joined_rows
  mix_laid_lem b e x a eb ee q =
      let all : w ≡ take f w ++ ((reads ++ mixed) ++ rest) = all_rows 16 f w ∙ ap (λ (l : List Float). take f w ++ l) (sym (append_assoc reads mixed rest)) in
      let both : length (reads ++ mixed) ≡ k + k = length-append reads mixed ∙ (λ i. length_reads i + length-mixed i) in
      let m = middle b e (take f w) (reads ++ mixed) rest w all (length-take-le f w (omega (arith, h.work_is)) ∙ sym eb) (omega (arith, both)) in
      let ok : a ≡ Accepted = q.0 ∙ rw m.0 (rows_accepted 16 f (length (reads ++ mixed)) (omega (arith, both))) in
      let new : x ≡ reads ++ mixed_rows 16 f wall.factor reads =
      q.1 ∙ rw (ok, m.0, rows_joined 16 f wall.factor reads mixed (omega arith) length_reads length-mixed) refl in
      m.1 x ∙ rw (new, append_assoc) refl

-- ---- a job that was let by found room

module _ (u : UnitState) (work : List Float) (room : Bool) (e : room ≡ true) where
  pub output_work : (work' : List Float) → work' ≡ output_laid 16 u.settings.frame wall.divisor (passes_with wall u.cursors.passes) u.filters room work
      → work' ≡ output_laid 16 u.settings.frame wall.divisor (passes_with wall u.cursors.passes) u.filters true work
  output_work work' q = q ∙ rw e refl

  pub output_ends_lem : (gs : List Filter) → gs ≡ output_ends 16 u.settings.frame wall.divisor (passes_with wall u.cursors.passes) u.filters room work
      → gs ≡ output_ends 16 u.settings.frame wall.divisor (passes_with wall u.cursors.passes) u.filters true work
  output_ends_lem gs q = q ∙ rw e refl

  module _ (i : ℕ) where
    pub line_work : (work' : List Float) → work' ≡ line_laid wall u.settings.frame i u.held.tail u.filters room work
        → work' ≡ line_laid wall u.settings.frame i u.held.tail u.filters true work
    line_work work' q = q ∙ rw e refl

    pub line_ends_lem : (gs : List Filter) → gs ≡ line_ends wall u.settings.frame i u.filters room work
        → gs ≡ line_ends wall u.settings.frame i u.filters true work
    line_ends_lem gs q = q ∙ rw e refl

    -- the ring of line i gives a whole row
    pub read_work_lem : (store work' : List Float) → i < 16 → rings_hold u.settings.frame (lengths wall u) ≡ true → length store ≡ store_len wall (lengths wall u)
        → WorkFits wall u.settings.frame (length work) → cursors_in (lengths wall u) u.cursors.lines ≡ true
        → work' ≡ read_laid wall u.settings.frame (unit_rings wall u) i room store work → work' ≡ read_work wall u i store work
    unfolding read_laid read_work
    read_work_lem store work' h hold long fits all q =
        q ∙ rw (e, read_given u.settings.frame (unit_rings wall u) i store work h (lengths_long wall u.settings 16 0) hold long fits all) refl

-- a job is let by for a line of the unit's alone
pub line_of : (u : UnitState) (lent line turn : Bool) → judged wall u lent line turn ≡ Accepted → line ≡ true
unfolding judged
line_of u lent line turn e =
    let p = needed (in_range wall u) (Err BadState) (need lent (Err BadLength) (need line (Err BadIndex) (need turn (Err OutOfTurn) Accepted))) refl e in
    let q = needed lent (Err BadLength) (need line (Err BadIndex) (need turn (Err OutOfTurn) Accepted)) refl p.1 in
    (needed line (Err BadIndex) (need turn (Err OutOfTurn) Accepted) refl q.1).0
