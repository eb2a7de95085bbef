-- What a frame asks of the rings and of the memory lent (R3.37).
use Rattle.std.specs.Prelude.{ℕ, Bool, ◌&&◌, List, leb, eqb, get_or}
use Rattle.samples.specs.Lists.{all_from}
use Rattle.samples.specs.Sizes.{frame_ok}
use Rattle.delay.specs.declared.Cursors.{Cursors}
use Rattle.delay.specs.Calls.{longest_ring}
use Rattle.unit.specs.declared.RingsOf.{RingsOf}
use Rattle.unit.specs.declared.Rings.{Rings}
use Rattle.unit.specs.UnitState.{UnitState}
use Rattle.unit.specs.Layout.{Model, lengths, store_len, work_len}
use Rattle.unit.specs.Range.{cursors_in}

-- the allpass rings, of which there are four
abbrev pub AllpassRings : Type 0
AllpassRings = RingsOf 4

-- the model's allpass rings at the cursors cs
abbrev pub passes_with : Model → List Cursors → AllpassRings
passes_with m cs = record { lengths = m.pass_lengths; cursors = cs }

-- the rings of a unit, where those of its lines have the lengths ls; and as they are
abbrev pub rings_with : Model → UnitState → List ℕ → Rings
rings_with m u ls = record {
  lines = record { lengths = ls; cursors = u.cursors.lines };
  passes = passes_with m u.cursors.passes;
}

abbrev pub unit_rings : Model → UnitState → Rings
unit_rings m u = rings_with m u (lengths m u)

-- every ring of the lengths ls holds a frame of f samples, and is no longer than a ring may be (R1.4)
unfoldable pub rings_hold : ℕ → List ℕ → Bool
rings_hold f ls = all_from (λ i l. leb f l && leb l longest_ring) 0 ls

-- allpass rings of the lengths ls are the model's
unfoldable pub passes_are : Model → List ℕ → Bool
passes_are m ls = all_from (λ i l. eqb l (get_or m.pass_lengths i 0)) 0 ls

-- every cursor is within its ring
abbrev pub rings_in : Rings → Bool
rings_in r = cursors_in r.lines.lengths r.lines.cursors && cursors_in r.passes.lengths r.passes.cursors

-- R1.19, R1.21, R1.25: the lengths of the memory lent, of a store of lines' rings of the lengths ls, of the work memory and of the output
abbrev pub lent_for : Model → ℕ → List ℕ → ℕ → ℕ → ℕ → Bool
lent_for m f ls store work output = eqb store (store_len m ls) && (eqb work (work_len m f) && eqb output f)

-- R2.23, R2.30: what a whole call and a close of a unit are lent
abbrev pub lent_ok : Model → UnitState → ℕ → ℕ → ℕ → Bool
lent_ok m u store work output = lent_for m u.settings.frame (lengths m u) store work output

-- all that is asked: f itself, lines' rings that hold it, the model's allpass rings, every cursor within its ring, and the memory lent
unfoldable pub room_ok : Model → ℕ → Rings → ℕ → ℕ → ℕ → Bool
room_ok m f r store work output =
    frame_ok f && ((rings_hold f r.lines.lengths && passes_are m r.passes.lengths) && (rings_in r && lent_for m f r.lines.lengths store work output))
