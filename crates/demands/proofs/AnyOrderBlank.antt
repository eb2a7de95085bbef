-- What is held for an open frame is blank while none is open: of a unit in range, exactly what a closed or shut unit has there. Assumes nothing.
use Prim.Native.Nat.{ℕ, zero, suc}
use mathlib.Core.Path.{◌≡◌, refl, sym, ap, ◌∙◌}
use mathlib.Core.Bool.{Bool, true, false, not, ◌&&◌}
use mathlib.Core.List.{List, [], ◌∷◌}
use lib.Ieee.{Float, nan, inf, fin, of_bits}
use lib.IntN.{ℤ, pos, negsuc}
use lib.ListN.{length, replicate}
use Rattle.samples.specs.Binary32.{+0, plus_zero}
use Rattle.samples.specs.Lists.{all_from}
use Rattle.samples.specs.Sizes.{rate_ok, frame_ok}
use Rattle.samples.proofs.Laws.{split_and}
use Rattle.iir.specs.declared.Filter.{Filter}
use Rattle.iir.specs.Nine.{blank_filter}
use Rattle.iir.proofs.Laws.{nine_each}
use Rattle.unit.specs.UnitState.{UnitState}
use Rattle.unit.specs.Layout.{Model, lengths, Sized}
use Rattle.unit.specs.Fresh.{blank, no_frame}
use Rattle.unit.specs.Range.{in_range, cursors_in, is_zero, unmarked, blank_filters, blank_open}
use Rattle.demands.proofs.Lent.{not_is}
use Rattle.demands.proofs.AnyOrderMarks.{true≢false}

zero_is : (x : Float) → plus_zero x ≡ true → x ≡ +0
unfolding plus_zero of_bits
zero_is nan p = absurd (true≢false (sym p))
zero_is (inf s) p = absurd (true≢false (sym p))
zero_is (fin s (suc m) e) p = absurd (true≢false (sym p))
zero_is (fin true zero e) p = absurd (true≢false (sym p))
zero_is (fin false zero (pos zero)) p = refl
zero_is (fin false zero (pos (suc k))) p = absurd (true≢false (sym p))
zero_is (fin false zero (negsuc k)) p = absurd (true≢false (sym p))

blank_is : (f : Filter) → blank_filter f ≡ true → f ≡ blank
blank_is f p =
    let z = nine_each plus_zero f p in
    λ i. record {
      a1 = zero_is f.a1 z.a1 i;
      a2 = zero_is f.a2 z.a2 i;
      b0 = zero_is f.b0 z.b0 i;
      b1 = zero_is f.b1 z.b1 i;
      b2 = zero_is f.b2 z.b2 i;
      x1 = zero_is f.x1 z.x1 i;
      x2 = zero_is f.x2 z.x2 i;
      y1 = zero_is f.y1 z.y1 i;
      y2 = zero_is f.y2 z.y2 i;
    }

-- ---- filters, marks and the count

blank_filters_lem : (k : ℕ) (fs : List Filter) → all_from (λ i f. blank_filter f) k fs ≡ true → fs ≡ replicate (length fs) blank
blank_filters_lem k [] p = refl
blank_filters_lem k (f ∷ fs) p =
    let b = split_and (blank_filter f) _ p in
    λ i. blank_is f b.0 i ∷ blank_filters_lem (suc k) fs b.1 i

no_marks : (k : ℕ) (marks : List Bool) → all_from (λ i done. not done) k marks ≡ true → marks ≡ replicate (length marks) false
no_marks k [] e = refl
no_marks k (d ∷ ds) e =
    let p = split_and (not d) _ e in
    λ i. not_is d p.0 i ∷ no_marks (suc k) ds p.1 i

no_count : (z : ℤ) → is_zero z ≡ true → z ≡ pos 0
no_count (pos zero) e = refl
no_count (pos (suc n)) e = absurd (true≢false (sym e))
no_count (negsuc n) e = absurd (true≢false (sym e))

-- ---- a unit in range with no frame open

pub idle : (m : Model) (u : UnitState) → Sized m u → in_range m u ≡ true → u.held.busy ≡ false → u.held ≡ no_frame m
unfolding in_range blank_open unmarked blank_filters
idle m u b r shut =
    let p = split_and (rate_ok u.settings.rate && frame_ok u.settings.frame) _ r in
    let q = split_and (cursors_in (lengths m u) u.cursors.lines && cursors_in m.pass_lengths u.cursors.passes) _ p.1 in
    let open-blank : blank_open u ≡ true = rw shut at q.1 in
    let s = split_and (not u.held.tail) _ open-blank in
    let t = split_and (is_zero u.held.next) _ s.1 in
    let v = split_and (unmarked u.held.marks) _ t.1 in
    let kind = not_is u.held.tail s.0 in
    let marks = no_marks 0 u.held.marks v.0 ∙ ap (λ (k : ℕ). replicate k false) b.marks in
    let next = no_count u.held.next t.0 in
    let before = blank_filters_lem 0 u.held.before v.1 ∙ ap (λ (k : ℕ). replicate k blank) b.before in
    λ i. record { busy = shut i; tail = kind i; marks = marks i; next = next i; before = before i }
