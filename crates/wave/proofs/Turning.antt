-- One turn of the walk's loop over a file: what the walk gives at a chunk, and where fewer than 8 bytes are left. Assumes nothing.
use Rattle.std.specs.Prelude.{Option, Some, Err}
use Rattle.wave.specs.declared.WaveFormat.{WaveFormat}
use mathlib.Core.Path.{◌≡◌, refl, sym, ◌∙◌, subst}
use mathlib.Core.Bool.{Bool, true, false, cond}
use mathlib.Core.List.{List}
use Prim.Native.Nat.{ℕ, ◌+◌, ◌-◌, ◌≤◌, ◌<◌}
use native.Mathlib.Omega.{arith}
use lib.ListN.{length, take, drop, length-drop}
use lib.Seq.{take_all}
use borrow.Author.Tests.{le-leb, lt-leb}
use Rattle.wave.specs.declared.ReadRefusal.TheVariants.{NoData, PastEnd, Unsupported}
use Rattle.wave.specs.Chunks.{begins, data_name, size_of, complete, span_of, format_of, supported, is_first, let_by, met_after}
use Rattle.wave.specs.Reading.{data_read, walk}
use Rattle.wave.specs.Workers.{MetOk}
use Rattle.wave.proofs.Walking.{turn, supported_has}

-- the code's chunk, from its place to the file's end
pub chunk_is : (at : ℕ) (file : List ℕ) → take (length file - at) (drop at file) ≡ drop at file
chunk_is at file = take_all (length file - at) (drop at file) (omega (arith, length-drop at file))

module _ (file : List ℕ) (met : Option WaveFormat) (at : ℕ) where
  -- fewer than 8 bytes are left
  pub none_left : length (drop at file) < 8 → walk 0 met at (drop at file) ≡ (Err NoData)
  none_left h = turn file met at ∙ rw (lt-leb 8 (length (drop at file)) h) refl

  -- a header is here: the four ways on from it
  module _ (h : 8 ≤ length (drop at file)) where
    pub past_the_end : complete (drop at file) ≡ false → walk 0 met at (drop at file) ≡ Err (PastEnd at)
    past_the_end e = turn file met at ∙ rw (le-leb 8 (length (drop at file)) h, e) refl

    module _ (whole : complete (drop at file) ≡ true) where
      pub at_the_data : begins data_name (drop at file) ≡ true → walk 0 met at (drop at file) ≡ data_read met at (size_of (drop at file))
      at_the_data e = turn file met at ∙ rw (le-leb 8 (length (drop at file)) h, whole, e) refl

      module _ (other : begins data_name (drop at file) ≡ false) where
        pub not_supported : let_by met (drop at file) ≡ false → walk 0 met at (drop at file) ≡ Err (Unsupported at)
        not_supported e = turn file met at ∙ rw (le-leb 8 (length (drop at file)) h, whole, other, e) refl

        pub next_turn : {after : Option WaveFormat} {next : ℕ} → let_by met (drop at file) ≡ true → after ≡ met_after met (drop at file)
            → next ≡ at + span_of (drop at file) → walk 0 after next (drop next file) ≡ walk 0 met at (drop at file)
        next_turn e m n =
            (λ j. walk 0 (m j) (n j) (drop (n j) file))
            ∙ sym (turn file met at ∙ rw (le-leb 8 (length (drop at file)) h, whole, other, e) refl)

-- a format that was met has channels, since it was let by
pub met_on : (met : Option WaveFormat) (chunk : List ℕ) {after : Option WaveFormat} → MetOk met → let_by met chunk ≡ true → after ≡ met_after met chunk → MetOk after
met_on met chunk ok r e = subst MetOk (sym e) (go (is_first met chunk) r)
  where
    go : (t : Bool) → cond t (supported chunk) true ≡ true → MetOk (cond t (Some (format_of chunk)) met)
    go true r = (supported_has chunk r).channels
    go false r = ok
