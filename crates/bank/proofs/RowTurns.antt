-- The turns of the loop that sends four rows through their bands, tile by tile: what holds of each line as sample t is reached, why it holds
-- a tile further on, and what it says at the end. Assumes nothing.
use mathlib.Core.Path.{◌≡◌, refl, sym, ap, ◌∙◌}
use mathlib.Core.List.{List, [], ◌∷◌, ◌++◌, append_assoc}
use Prim.Native.Nat.{ℕ, zero, suc, ◌+◌, ◌*◌, ◌<◌, ◌≤◌}
use native.Mathlib.Nat.{zero-mul}
use native.Mathlib.Omega.{arith}
use lib.Ieee.{Float}
use lib.ListN.{length, take, drop, take-append-drop, drop_of_length-le}
use lib.Seq.{drop-drop}
use Rattle.samples.specs.Lists.{row}
use Rattle.samples.proofs.Turns.{all_done}
use Rattle.samples.proofs.Lists.{cut, part_long, over_done, over-left}
use Rattle.samples.proofs.Rows.{next_row, row_long}
use Rattle.iir.specs.declared.Bands.{Bands}
use Rattle.iir.specs.Runs.{bands_out, bands_end}
use Rattle.iir.proofs.Laws.{bands_length, bands_append, bands_end_append}
use Rattle.lanes.specs.declared.band_lanes.BandLanes.{BandLanes}
use Rattle.lanes.specs.BandLanes.{bands_at}
use Rattle.bank.specs.Lines.{lines_out, lines_end}
use Rattle.bank.specs.Tile.{lined, Turned}

-- ---- n rows, each the answer of its line, are the answer

-- b 0, b 1, and so on to b (n - 1)
abbrev listed : ℕ → (ℕ → Bands) → List Bands
listed zero b = []
listed (suc n) b = b 0 ∷ listed n (λ k. b (suc k))

module _ (f : ℕ) where
  lines_made : (n : ℕ) (b : ℕ → Bands) (rows rows₀ : List Float)
      → ((k : ℕ) → k < n → row f k rows ≡ bands_out (b k) (row f k rows₀))
      → drop (n * f) rows ≡ drop (n * f) rows₀ → rows ≡ lines_out f (listed n b) rows₀
  unfolding lines_out
  lines_made zero b rows rows₀ h e = rw zero-mul at e
  lines_made (suc n) b rows rows₀ h e =
      let d : drop (n * f) (drop f rows) ≡ drop (n * f) (drop f rows₀) = rw (drop-drop (n * f) f rows, drop-drop (n * f) f rows₀, ← next_row n f) e in
      let rest = lines_made n (λ k. b (suc k)) (drop f rows) (drop f rows₀) (λ k g. h (suc k) (omega arith)) d in
      sym (take-append-drop f rows) ∙ rw (h 0 (omega arith), rest) refl

  lines_left : (n : ℕ) (b b' : ℕ → Bands) (rows₀ : List Float) → ((k : ℕ) → k < n → b' k ≡ bands_end (b k) (row f k rows₀))
      → listed n b' ≡ lines_end f (listed n b) rows₀
  unfolding lines_end
  lines_left zero b b' rows₀ h = refl
  lines_left (suc n) b b' rows₀ h =
      rw (h 0 (omega arith), lines_left n (λ k. b (suc k)) (λ k. b' (suc k)) (drop f rows₀) (λ k g. h (suc k) (omega arith))) refl

-- ---- four rows, by the bands b

module _ (f : ℕ) (b : BandLanes) (rows₀ : List Float) where
  -- line k: its samples before t have gone through, and its bands with those from t on give the answer
  abbrev Line : ℕ → ℕ → BandLanes → List Float → Type 0
  Line k t g rows =
      (take t (row f k rows) ++ bands_out (bands_at k g) (drop t (row f k rows)) ≡ bands_out (bands_at k b) (row f k rows₀))
      × (bands_end (bands_at k g) (drop t (row f k rows)) ≡ bands_end (bands_at k b) (row f k rows₀))

  abbrev pub Running : ℕ → BandLanes → List Float → Type 0
  Running t g rows =
      (t ≤ f) × (length rows ≡ length rows₀) × (4 * f ≤ length rows₀) × (drop (4 * f) rows ≡ drop (4 * f) rows₀)
      × ((k : ℕ) → k < 4 → Line k t g rows)

  pub none-run : 4 * f ≤ length rows₀ → Running 0 b rows₀
  none-run h = (omega arith, refl, h, refl, λ k g. (refl, refl))

  module _ (t : ℕ) (g : BandLanes) (rows : List Float) (v : Running t g rows) where
    pub some_run : (m : ℕ) (h : BandLanes) (last : List Float) → t + m ≤ f → Turned f t m g h rows last → Running (t + m) h last
    some_run m h last room e = (room, e.2 ∙ v.1, v.2, e.1 ∙ v.3, line)
      where
        line : (k : ℕ) → k < 4 → Line k (t + m) h last
        line k hk =
            let r = row f k rows in
            let xs = take m (drop t r) in
            let rest = drop (t + m) r in
            let bands = bands_at k g in
            let fits : t + m ≤ length r = omega (arith, row_long f 4 k rows hk (omega (arith, v.1, v.2))) in
            let lx : length xs ≡ m = part_long t r m fits in
            let lo : length (bands_out bands xs) ≡ m = bands_length bands xs ∙ lx in
            let out = ap (bands_out bands) (cut t r m) ∙ bands_append bands xs rest in
            let end = ap (bands_end bands) (cut t r m) ∙ bands_end_append bands xs rest in
            let left = over-left t r m (bands_out bands xs) lo fits in
            rw ((e.0 k hk).0, (e.0 k hk).1) (
              rw (over_done t r m (bands_out bands xs) lo fits, left, append_assoc, ← out) (v.4 k hk).0,
              rw (left, ← end) (v.4 k hk).1,
            )

    pub all-run : f ≤ t
        → (lined (λ k. bands_at k g) ≡ lines_end f (lined (λ k. bands_at k b)) rows₀) × (rows ≡ lines_out f (lined (λ k. bands_at k b)) rows₀)
    unfolding bands_out bands_end
    all-run h =
        (lines_left f 4 (λ k. bands_at k b) (λ k. bands_at k g) rows₀ ends, lines_made f 4 (λ k. bands_at k b) rows rows₀ outs v.3)
      where
        past : (k : ℕ) → k < 4 → length (row f k rows) ≤ t
        past k hk = omega (arith, row_long f 4 k rows hk (omega (arith, v.1, v.2)))

        ends : (k : ℕ) → k < 4 → bands_at k g ≡ bands_end (bands_at k b) (row f k rows₀)
        ends k hk = rw (drop_of_length-le (row f k rows) (past k hk)) at (v.4 k hk).1

        outs : (k : ℕ) → k < 4 → row f k rows ≡ bands_out (bands_at k b) (row f k rows₀)
        outs k hk = all_done (row f k rows) t (past k hk) ∙ (rw (drop_of_length-le (row f k rows) (past k hk)) at (v.4 k hk).0)
