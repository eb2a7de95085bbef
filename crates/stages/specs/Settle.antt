-- What a frame leaves: which numbers 9 judges, what is put where, and how the cursors move.
use Rattle.std.specs.Prelude.{ℕ, zero, suc, ◌+◌, ◌*◌, ◌%◌, ◌≡◌, Bool, ◌&&◌, List, [], ◌∷◌, ◌++◌, Float, length, get_or, take, drop, Err}
use Rattle.samples.specs.declared.Refusal.TheVariants.{NotFinite}
use Rattle.samples.specs.Answers.{Answer, Accepted, need}
use Rattle.samples.specs.Lists.{all_from}
use Rattle.search.specs.Search.{all_finite}
use Rattle.delay.specs.declared.Cursors.{Cursors}
use Rattle.delay.specs.Calls.{both, judged_ring}
use Rattle.delay.specs.Ring.{write}
use Rattle.allpass.specs.Passes.{Stage, pass_end}
use Rattle.iir.specs.declared.Filter.{Filter}
use Rattle.iir.specs.Nine.{finite_filter}
use Rattle.unit.specs.declared.Rings.{Rings}
use Rattle.unit.specs.UnitState.{RingCursors, UnitState}
use Rattle.unit.specs.Layout.{Model, lengths}
use Rattle.stages.specs.Frame.{Frame, new_filters}

unfoldable pub filters_finite : List Filter → Bool
filters_finite fs = all_from (λ k f. finite_filter f) 0 fs

-- R4.14: what 9 judges of a frame
unfoldable pub frame_finite : Frame → Bool
frame_finite r =
    filters_finite (new_filters r) && (all_finite r.lines.put && (all_finite r.output.out && all_finite r.output.rings))

-- R2.19: 9 unless all of it is finite
abbrev pub nine_of : Frame → Answer
nine_of r = need (frame_finite r) (Err NotFinite) Accepted

-- R4.17, R4.18: the store after each row is put into its line, from line i on, with other allpass rings after the lines
unfoldable pub put_rows : ℕ → ℕ → ℕ → List ℕ → List Cursors → List Float → List Float → List Float → List Float
put_rows f zero i ls cs rows rings store = rings
put_rows f (suc n) i ls cs rows rings store =
    write (take (get_or ls i 0) store) (get_or cs i (both 0)).write.0 (take f rows)
    ++ put_rows f n (i + 1) ls cs (drop f rows) rings (drop (get_or ls i 0) store)

-- R4.17, R4.18: the store after a frame of n lines on the rings r, its rows put and its allpass rings copied
abbrev pub settled : ℕ → ℕ → Rings → List Float → List Float → List Float → List Float
settled n f r rows allpass store = put_rows f n 0 r.lines.lengths r.lines.cursors rows allpass store

-- R4.20: cursors of a ring of length l, f samples on. They go round a ring that is shorter than a frame more than once
abbrev pub moved_by : ℕ → ℕ → Cursors → Cursors
moved_by f l c = record { read = record { 0 = (c.read.0 + f) % l }; write = record { 0 = (c.write.0 + f) % l } }

-- a stage whose rings and cursors are in range moves both by as many samples as it goes over
abbrev pub PassMoved : Type 0
PassMoved =
    (n : ℕ) (s : Stage) (row : List Float) → judged_ring (length s.x) s.xs ≡ Accepted → judged_ring (length s.y) s.ys ≡ Accepted
    → ((pass_end n s row).xs ≡ moved_by (4 * n) (length s.x) s.xs) × ((pass_end n s row).ys ≡ moved_by (4 * n) (length s.y) s.ys)

unfoldable pub all_moved : ℕ → List ℕ → List Cursors → List Cursors
all_moved f [] cs = cs
all_moved f (l ∷ ls) [] = []
all_moved f (l ∷ ls) (c ∷ cs) = moved_by f l c ∷ all_moved f ls cs

-- R4.20: a unit's cursors after a frame
abbrev pub moved : Model → UnitState → RingCursors
moved m u = record {
  lines = all_moved u.settings.frame (lengths m u) u.cursors.lines;
  passes = all_moved u.settings.frame m.pass_lengths u.cursors.passes;
}
