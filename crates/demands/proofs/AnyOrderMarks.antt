-- Marks: what a new mark changes, and what it says that all are set. Assumes nothing.
use Prim.Native.Nat.{ℕ, ◌<◌, ◌≤◌}
use mathlib.Core.Path.{◌≡◌, refl, sym, subst, ◌∙◌}
use mathlib.Core.Bool.{Bool, true, false}
use mathlib.Core.List.{List}
use native.Mathlib.Decide.{ℕ_discrete}
use native.Mathlib.Omega.{arith}
use lib.ListN.{length, get_or, set, take, replicate, length-set, length-take, length-replicate, get_or-replicate}
use lib.Seq.{get_or-set_same, get_or-set_other, get_or-take}
use Rattle.samples.proofs.Laws.{all_at}
use Rattle.unit.specs.Layout.{Model, jobs_len, mix_mark, line_mark, output_mark}
use Rattle.judges.specs.Marks.{all_done}

abbrev pub at : List Bool → ℕ → Bool
at marks k = get_or marks k false

pub true≢false : true ≡ false → ⊥
true≢false e = let z : ◌≡◌ {A = ℕ} 0 1 = cc in omega arith

pub false_of : (b : Bool) → (b ≡ true → ⊥) → b ≡ false
false_of true h = absurd (h refl)
false_of false h = refl

-- ---- one mark

pub set_here : (marks : List Bool) (k : ℕ) → k < length marks → at (set marks k true) k ≡ true
set_here marks k h = get_or-set_same marks k true false h

pub set_there : (marks : List Bool) (k j : ℕ) → (j ≡ k → ⊥) → at (set marks k true) j ≡ at marks j
set_there marks k j h = get_or-set_other marks k j true false h

-- ---- all marks

pub done_at : (marks : List Bool) (k : ℕ) → all_done marks ≡ true → k < length marks → at marks k ≡ true
done_at marks k e h = all_at (λ i done. done) marks 0 k false h e

pub read_at_lem : (marks : List Bool) (n k : ℕ) → all_done (take n marks) ≡ true → k < n → n ≤ length marks → at marks k ≡ true
read_at_lem marks n k e h l = sym (get_or-take n marks k false h) ∙ done_at (take n marks) k e (simp length-take (omega arith))

-- ---- marks that jobs can lead to: those of a frame of m, a line's only after the mix

pub record Legal (m : Model) (marks : List Bool) : Type 0 where
  pub long : length marks ≡ jobs_len m
  pub after_mix : (i : ℕ) → i < m.lines → at marks (line_mark m i) ≡ true → at marks (mix_mark m) ≡ true

-- none is set
pub legal_none : (m : Model) → Legal m (replicate (jobs_len m) false)
legal_none m = record {
  long = length-replicate (jobs_len m) false;
  after_mix = λ i h e. absurd (true≢false (sym e ∙ get_or-replicate (jobs_len m) (line_mark m i) false false (omega arith)));
}

-- a new mark keeps the marks legal, if it is no line's or the mix is marked
mix_kept : (m : Model) (marks : List Bool) (k i : ℕ) → Legal m marks → k < jobs_len m → (mix_mark m < k → k < output_mark m → at marks (mix_mark m) ≡ true)
    → i < m.lines → at (set marks k true) (line_mark m i) ≡ true → Dec (k ≡ mix_mark m) → Dec (k ≡ line_mark m i) → at (set marks k true) (mix_mark m) ≡ true
mix_kept m marks k i g h c b e (yes p) d = subst (λ (j : ℕ). at (set marks k true) j ≡ true) p (set_here marks k (omega (arith, g.long)))
mix_kept m marks k i g h c b e (no p) (yes q) = set_there marks k (mix_mark m) (λ r. p (sym r)) ∙ c (omega arith) (omega arith)
mix_kept m marks k i g h c b e (no p) (no q) =
    set_there marks k (mix_mark m) (λ r. p (sym r)) ∙ g.after_mix i b (sym (set_there marks k (line_mark m i) (λ r. q (sym r))) ∙ e)

pub legal_set : (m : Model) (marks : List Bool) (k : ℕ) → Legal m marks → k < jobs_len m
    → (mix_mark m < k → k < output_mark m → at marks (mix_mark m) ≡ true) → Legal m (set marks k true)
legal_set m marks k g h c = record {
  long = length-set marks k true ∙ g.long;
  after_mix = λ i b e. mix_kept m marks k i g h c b e (ℕ_discrete k (mix_mark m)) (ℕ_discrete k (line_mark m i));
}
