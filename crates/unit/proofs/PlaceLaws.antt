-- Where there is such a work memory, its places are those of the layout. Assumes nothing.
use borrow.Author.Tests.{le-leb}
use mathlib.Core.Path.{◌≡◌, refl, ap, ◌∙◌}
use mathlib.Core.Bool.{◌&&◌, cond}
use Prim.Native.Nat.{ℕ, ◌+◌, ◌*◌, ◌≤◌}
use lib.Dec.{leb}
use Rattle.delay.specs.Calls.{longest_ring}
use Rattle.unit.specs.declared.layout.Places.{Places}
use Rattle.unit.specs.Layout.{wall, places_of}

pub placed : (n f : ℕ) {p : Places} → n ≤ wall.lines → f ≤ longest_ring → p ≡ cond (leb n wall.lines && leb f longest_ring) (places_of n f) (places_of 0 0)
    → p ≡ places_of n f
placed n f few small e = e ∙ rw (le-leb n 16 few, le-leb f 65536 small) refl

-- each of them
pub record Placed (p : Places) (n f : ℕ) : Type 0 where
  pub reads : p.reads ≡ f
  pub mixed : p.mixed ≡ f + n * f
  pub output : p.output ≡ f + n * f + n * f
  pub rings : p.rings ≡ f + n * f + n * f + f

pub each : (n f : ℕ) {p : Places} → p ≡ places_of n f → Placed p n f
each n f e =
    record {
      reads = ap (λ (p : Places). p.reads) e;
      mixed = ap (λ (p : Places). p.mixed) e;
      output = ap (λ (p : Places). p.output) e;
      rings = ap (λ (p : Places). p.rings) e;
    }
