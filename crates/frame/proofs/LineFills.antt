-- The turns of the loops that move cursors, from the front. Assumes nothing.
use mathlib.Core.Path.{◌≡◌, refl, sym, ap, ◌∙◌}
use mathlib.Core.List.{List, ◌∷◌, ◌++◌}
use Prim.Native.Nat.{ℕ, suc, ◌+◌, ◌-◌, ◌<◌, ◌≤◌}
use native.Mathlib.Omega.{arith}
use native.Mathlib.Nat.{add-zero}
use lib.ListN.{length, get_or, take, drop, set, length-set, take-append-drop}
use lib.Seq.{drop-drop, drop-set-lt, get_or-drop}
use Rattle.samples.proofs.Turns.{more, next, stored}
use Rattle.delay.specs.declared.Cursors.{Cursors}
use Rattle.delay.specs.Calls.{both}
use Rattle.stages.specs.Settle.{moved_by, all_moved}
use Rattle.frame.specs.Workers.{Within}

-- ---- the cursors moved: those of the rings from i on are as they were

abbrev pub Moving : ℕ → ℕ → List ℕ → List Cursors → List Cursors → ℕ → List Cursors → Type 0
Moving n f ls cs X i ds =
    (i ≤ n) × (length ds ≡ length cs) × Within (n - i) i ls cs × (drop i ds ≡ drop i cs)
    × (take i ds ++ all_moved f (take (n - i) (drop i ls)) (drop i cs) ≡ X)

module _ (n f : ℕ) (ls : List ℕ) (cs X : List Cursors) (i : ℕ) (ds : List Cursors) (v : Moving n f ls cs X i ds) where
  -- the cursors of ring i are as they were
  pub here : get_or ds i (both 0) ≡ get_or cs i (both 0)
  here = rw add-zero at (sym (get_or-drop i ds 0 (both 0)) ∙ ap (λ (l : List Cursors). get_or l 0 (both 0)) v.3 ∙ get_or-drop i cs 0 (both 0))

  -- the rings left are ring i and those after it
  pub ring_here : i < n → Within (suc (n - (i + 1))) i ls cs
  ring_here h = rw (more n i h) at v.2

  pub move_turn : (d : Cursors) → i < n → i < length ls → i < length cs → d ≡ moved_by f (get_or ls i 0) (get_or cs i (both 0))
      → Moving n f ls cs X (i + 1) (set ds i d)
  unfolding all_moved
  move_turn d h hl hc e =
      let left : all_moved f (take (n - i) (drop i ls)) (drop i cs) ≡ d ∷ all_moved f (take (n - (i + 1)) (drop (i + 1) ls)) (drop (i + 1) cs) =
      rw (more n i h, next ls i 0 hl, next cs i (both 0) hc, e) refl in (
        omega arith,
        length-set ds i d ∙ v.1,
        (ring_here h).3,
        drop-set-lt (i + 1) ds i d (omega arith) ∙ (rw (drop-drop 1 i ds, drop-drop 1 i cs) at (ap (drop 1) v.3)),
        stored ds i (both 0) (omega (arith, v.1)) d left ∙ v.4,
      )

  pub move_done : n ≤ i → ds ≡ X
  unfolding all_moved
  move_done h =
      let z : n - i ≡ 0 = omega arith in
      sym (take-append-drop i ds) ∙ rw v.3 (rw z at v.4)
