-- `mixer::mix_two` meets its contract. Assumes nothing.
use mathlib.Core.Path.{refl, ◌∙◌}
use Prim.Native.Nat.{◌+◌}
use Rattle.std.proofs.lemmas.List.{map-append}
use Rattle.mixer.proofs.Passes.{sum_scaled}
use Rattle.mixer.proofs.mix_two.Goals as goal

pub returns : goal.returns
returns c =
    let a = c.args in
    let f = c.split_at_mut-low.ensures.front_len in
    let low = sum_scaled a.n a.f a.r a.k a.reads.now _ _ (rw f at c.sum_two.ensures.low_after) refl in
    let high = sum_scaled a.n a.f (a.r + 1) a.k a.reads.now _ _ (rw f at c.sum_two.ensures.high_after) refl in
    c.scale_row.ensures ∙ rw (map-append, low, high) refl
