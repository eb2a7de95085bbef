-- Both cursors of every ring begin at 0, and every call moves both by one rule or leaves them. Assumes nothing.
use Prim.Native.Nat.{ℕ, zero, suc, ◌+◌, ◌%◌}
use mathlib.Core.Path.{◌≡◌, refl, ap}
use mathlib.Core.List.{List, [], ◌∷◌}
use lib.Ieee.{Float}
use lib.ListN.{length, get_or, replicate}
use Rattle.samples.specs.declared.Samples.{Samples}
use Rattle.delay.specs.declared.Cursors.{Cursors}
use Rattle.delay.specs.Calls.{both}
use Rattle.delay.proofs.Laws.{accept_either}
use Rattle.unit.specs.UnitState.{UnitState}
use Rattle.unit.specs.Layout.{Model, lengths}
use Rattle.unit.specs.Fresh.{fresh_unit}
use Rattle.judges.specs.Judges.{judged_fresh}
use Rattle.stages.specs.Settle.{all_moved}
use Rattle.machine.specs.Ending.{Memory, Ending}
use Rattle.machine.specs.Whole.{Play, at_once}
use Rattle.machine.proofs.Cases.{whole_either, close-either}
use Rattle.machine.proofs.SeveralCases.{several_keeps}
use Rattle.machine.specs.Calls.{ending, Call, reset, whole, frames, start, job, close, abandon, answer, after}
use Rattle.machine.specs.Requests.{Request, fresh, ask, seen, request}
use Rattle.machine.specs.Runs.{Event, anew, asked, afresh, run}
use Rattle.demands.specs.LineLaw.{Together, CursorsTogether}

-- ---- cursors

abbrev Equal : List Cursors → Type 0
Equal cs = (i : ℕ) → (get_or cs i (both 0)).read ≡ (get_or cs i (both 0)).write

equal_fresh : (n : ℕ) → Equal (replicate n (both 0))
equal_fresh zero i = refl
equal_fresh (suc n) zero = refl
equal_fresh (suc n) (suc i) = equal_fresh n i

equal_moved : (f : ℕ) (ls : List ℕ) (cs : List Cursors) → Equal cs → Equal (all_moved f ls cs)
unfolding all_moved
equal_moved f [] cs h i = h i
equal_moved f (l ∷ ls) [] h i = h i
equal_moved f (l ∷ ls) (c ∷ cs) h zero = ap (λ (k : Samples). record { 0 = (k.0 + f) % l }) (h 0)
equal_moved f (l ∷ ls) (c ∷ cs) h (suc i) = equal_moved f ls cs (λ j. h (suc j)) i

-- ---- calls

fresh_together : (m : Model) (w : Memory) (rate frame : ℕ) → Together (afresh m w rate frame).unit
fresh_together m w rate frame = accept_either (λ (v : Memory). Together v.unit) (judged_fresh m rate frame (length w.store)) (λ e. first rate frame) (λ n. first 8000 4)
  where
    first : (rate frame : ℕ) → Together (fresh_unit m rate frame)
    first rate frame = record { lines = equal_fresh m.lines; passes = equal_fresh (length m.pass_lengths) }

module _ (m : Model) where
  -- a unit with the cursors of u, or with those moved
  same : (u v : UnitState) → v.cursors.lines ≡ u.cursors.lines → v.cursors.passes ≡ u.cursors.passes → Together u → Together v
  same u v l p h = record { lines = rw l h.lines; passes = rw p h.passes }

  moved : (u v : UnitState) → v.cursors.lines ≡ all_moved u.settings.frame (lengths m u) u.cursors.lines → v.cursors.passes ≡ all_moved u.settings.frame m.pass_lengths u.cursors.passes
      → Together u → Together v
  moved u v l p h = record {
    lines = rw l (equal_moved u.settings.frame (lengths m u) u.cursors.lines h.lines);
    passes = rw p (equal_moved u.settings.frame m.pass_lengths u.cursors.passes h.passes);
  }

  abbrev Of : Memory → Type 0
  Of v = Together v.unit

  whole_together : (w : Memory) (p : Play) (output : List Float) → Of w → Of (at_once m w p output).memory
  whole_together w p output h =
      whole_either m w output (λ (x : Ending). Of x.memory) p (λ d q. moved w.unit _ refl refl h) (λ d q. h) (λ n. h)

  call_together : (w : Memory) (c : Call) → Of w → Of (after m w c)
  unfolding ending
  call_together w reset h = accept_either Of (answer m w reset) (λ e. same w.unit _ refl refl h) (λ n. h)
  call_together w (whole p output) h = whole_together w p output h
  call_together w (frames t coefficients input output) h = several_keeps m Of whole_together t coefficients w input output h
  call_together w (start p) h = accept_either Of (answer m w (start p)) (λ e. same w.unit _ refl refl h) (λ n. h)
  call_together w (job j) h = accept_either Of (answer m w (job j)) (λ e. same w.unit _ refl refl h) (λ n. h)
  call_together w (close output) h =
      close-either m w output (λ (x : Ending). Of x.memory) (λ d q. moved w.unit _ refl refl h) (λ d q. same w.unit _ refl refl h) (λ n. h)
  call_together w abandon h = accept_either Of (answer m w abandon) (λ e. same w.unit _ refl refl h) (λ n. h)

  request_together : (w : Memory) (r : Request) → Of w → Of (request m w r)
  unfolding request
  request_together w (fresh rate frame s) h = h
  request_together w (ask c s k) h = call_together (seen w s k) c h

  run_together : (w : Memory) (es : List Event) → Of w → Of (run m w es)
  unfolding run
  run_together w [] h = h
  run_together w (anew rate frame ∷ es) h = run_together (afresh m w rate frame) es (fresh_together m w rate frame)
  run_together w (asked r ∷ es) h = run_together (request m w r) es (request_together w r h)

pub cursors_together : CursorsTogether
cursors_together m w rate frame e es = run_together m (afresh m w rate frame) es (fresh_together m w rate frame)
