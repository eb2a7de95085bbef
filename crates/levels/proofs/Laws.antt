-- What the judgement of a downmix tells. Assumes nothing.
use Rattle.std.specs.Prelude.{Err}
use mathlib.Core.Path.{◌≡◌, refl}
use Prim.Native.Nat.{ℕ, ◌*◌, ◌≤◌}
use lib.Dec.{eqb}
use borrow.Author.Tests.{eqb-true}
use Rattle.samples.specs.declared.Refusal.TheVariants.{BadLength, BadIndex}
use Rattle.samples.specs.Answers.{Accepted}
use Rattle.samples.proofs.Laws.{needed}
use Rattle.audio_buffer.specs.Judges.{samples_ok}
use Rattle.audio_buffer.proofs.Laws.{judged_of_lem}
use Rattle.levels.specs.Judges.{judged_downmix}

pub downmix_of : (channels samples len output : ℕ) → judged_downmix channels samples len output ≡ Accepted
    → (channels ≤ 16) × (len ≡ channels * samples) × (output ≡ samples)
unfolding judged_downmix
downmix_of channels samples len output e =
    let p = needed (samples_ok samples) (Err BadIndex) _ refl e in
    let q = needed (eqb output samples) (Err BadLength) _ refl p.1 in
    let r = judged_of_lem channels samples len Accepted q.1 in
    (r.0.few, r.1, eqb-true _ _ q.0)
