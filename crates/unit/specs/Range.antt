-- When a state is in range (R1.27 to R1.31).
use Rattle.std.specs.Prelude.{ℕ, zero, suc, Bool, true, false, not, ◌&&◌, ◌||◌, List, ltb, ℤ, pos, negsuc, get_or}
use Rattle.samples.specs.Lists.{all_from}
use Rattle.samples.specs.Sizes.{rate_ok, frame_ok}
use Rattle.delay.specs.declared.Cursors.{Cursors}
use Rattle.iir.specs.declared.Filter.{Filter}
use Rattle.iir.specs.Nine.{blank_filter}
use Rattle.unit.specs.UnitState.{UnitState}
use Rattle.unit.specs.Layout.{Model, lengths}

-- R1.29: the cursors of one ring, and of rings of the lengths ls
unfoldable pub below : ℕ → Cursors → Bool
below l c = ltb c.read.0 l && ltb c.write.0 l

unfoldable pub cursors_in : List ℕ → List Cursors → Bool
cursors_in ls cs = all_from (λ i c. below (get_or ls i 0) c) 0 cs

abbrev pub is_zero : ℤ → Bool
is_zero (pos zero) = true
is_zero (pos (suc n)) = false
is_zero (negsuc n) = false

unfoldable pub unmarked : List Bool → Bool
unmarked ms = all_from (λ k done. not done) 0 ms

unfoldable pub blank_filters : List Filter → Bool
blank_filters fs = all_from (λ k f. blank_filter f) 0 fs

-- R1.30: what is held is blank
unfoldable pub blank_open : UnitState → Bool
blank_open u = not u.held.tail && (is_zero u.held.next && (unmarked u.held.marks && blank_filters u.held.before))

-- R1.27: rate and frame, the cursors, and what is held unless a frame is open
unfoldable pub in_range : Model → UnitState → Bool
in_range m u =
    (rate_ok u.settings.rate && frame_ok u.settings.frame)
    && ((cursors_in (lengths m u) u.cursors.lines && cursors_in m.pass_lengths u.cursors.passes)
    && (u.held.busy || blank_open u))
