-- The turns of the loop that adds one row to another. Assumes nothing.
use mathlib.Core.Path.{◌≡◌, refl, sym, ap, ◌∙◌}
use mathlib.Core.List.{List, [], ◌∷◌, ◌++◌, zip_with}
use Prim.Native.Nat.{ℕ, ◌+◌, ◌<◌, ◌≤◌}
use native.Mathlib.Omega.{arith}
use lib.Ieee.{Float, nan}
use lib.ListN.{length, get_or, take, drop, set, length-drop, drop_of_length-le}
use lib.Seq.{take-take}
use Rattle.samples.specs.Binary32.{◌⊕◌}
use Rattle.samples.proofs.Turns.{next, front, stored, all_done}
use Rattle.stages.specs.Lines.{plus}

-- a turn adds the sample t of ys to that of xs
pub add_turn : (t : ℕ) (xs ys : List Float) → t < length xs → t < length ys
    → take (t + 1) (set xs t (get_or xs t nan ⊕ get_or ys t nan)) ++ plus (drop (t + 1) (set xs t (get_or xs t nan ⊕ get_or ys t nan))) (drop (t + 1) ys)
    ≡ take t xs ++ plus (drop t xs) (drop t ys)
unfolding zip_with
add_turn t xs ys h l =
    let v = get_or xs t nan ⊕ get_or ys t nan in
    let r : plus (drop t xs) (drop t ys) ≡ v ∷ plus (drop (t + 1) (set xs t v)) (drop (t + 1) ys) = rw (front xs t nan h v, next ys t nan l) refl in
    stored xs t nan h v r

pub add_end : (t : ℕ) (xs ys : List Float) → length xs ≤ t → take t xs ++ plus (drop t xs) (drop t ys) ≡ xs
unfolding zip_with
add_end t xs ys h = rw (drop_of_length-le xs h) (sym (all_done xs t h))

-- of ys no more is added than xs is long
plus_take : (xs ys : List Float) → plus xs ys ≡ plus xs (take (length xs) ys)
unfolding zip_with
plus_take [] ys = refl
plus_take (x ∷ xs) [] = refl
plus_take (x ∷ xs) (y ∷ ys) = ap (λ (l : List Float). (x ⊕ y) ∷ l) (plus_take xs ys)

-- the first f samples on the last f, from `at` on
pub plus_front : (f at : ℕ) (rows : List Float) → f ≤ at → at + f ≡ length rows → plus (drop at rows) (take at rows) ≡ plus (drop at rows) (take f rows)
plus_front f at rows h e =
    let l : length (drop at rows) ≡ f = simp length-drop (omega arith) in
    plus_take (drop at rows) (take at rows) ∙ rw l (ap (plus (drop at rows)) (take-take f at rows h))
