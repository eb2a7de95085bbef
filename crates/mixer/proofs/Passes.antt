-- Passes over a row: a turn of a loop that writes one sample after another, the sum of rows with one row more or two, all times k, and the
-- mixed rows one after the other. Assumes nothing.
use mathlib.Core.Path.{◌≡◌, refl, sym, ap, ◌∙◌}
use mathlib.Core.Bool.{Bool}
use mathlib.Core.List.{List, [], ◌∷◌, ◌++◌, append-nil, append_assoc, map}
use Prim.Native.Nat.{ℕ, zero, suc, ◌+◌, ◌-◌, ◌*◌, ◌/◌, ◌%◌, ◌≤◌, ◌<◌}
use native.Mathlib.Nat.{suc-mul}
use native.Mathlib.Numerals.{add-one}
use native.Mathlib.Omega.{arith}
use lib.ListN.{length, get_or, set, take, drop, length-append, drop_of_length-le}
use lib.Seq.{drop-cons, set_at, append_snoc, get_or_at, get_or-take, get_or-drop, ext_get_or}
use lib.Ieee.{Float, nan}
use borrow.Rule.Slice.PartMut.{put_mid}
use Rattle.std.proofs.lemmas.List.{map-append}
use Rattle.samples.specs.Binary32.{◌⊗◌}
use Rattle.samples.specs.Lists.{over}
use Rattle.samples.proofs.Lists.{come_back, over_done}
use Rattle.samples.proofs.Rows.{row_ends}
use Rattle.hadamard.specs.Mix.{minus, plus_minus, sum_of, mix_at, joined, each}
use Rattle.hadamard.specs.Rows.{column, mixed_row}
use Rattle.hadamard.proofs.Joined.{joined_ext, each_length, each_at}
use Rattle.hadamard.proofs.Columns.{sum_more, column-length, column_more}
use Rattle.mixer.specs.Passes.{signed, signed_twice, row_sum}

-- ---- a loop that writes g 0, g 1, and so on over a row w

module _ (t : ℕ) (g : ℕ → Float) (w : List Float) where
  pub turn : {v : Float} → t < length w → v ≡ g t → set (each t g ++ drop t w) t v ≡ each (t + 1) g ++ drop (t + 1) w
  turn {v} h e =
      let long : length (each t g) ≡ t = each_length t g in
      rw (e, drop-cons w t nan, set_at, add-one, append_snoc)

  -- the sample at t is still the row's
  pub left : t < length w → get_or (each t g ++ drop t w) t nan ≡ get_or w t nan
  left h = rw (drop-cons w t nan) (get_or_at (each t g) (get_or w t nan) (drop (suc t) w) nan t (each_length t g))

  pub written : length w ≤ t → t ≤ length w → each t g ++ drop t w ≡ each (length w) g
  written h k =
      let e : t ≡ length w = omega arith in
      rw (drop_of_length-le w h, append-nil, e)

-- ---- rows by their samples

module _ (f : ℕ) (g : ℕ → Float) where
  pub is_each : (w : List Float) → length w ≡ f → ((t : ℕ) → t < f → get_or w t nan ≡ g t) → w ≡ each f g
  is_each w long same =
      ext_get_or nan w (each f g) (long ∙ sym (each_length f g)) (λ i h. same i (omega arith) ∙ sym (each_at f g i nan (omega arith)))

  each_same : (h : ℕ → Float) → ((t : ℕ) → t < f → g t ≡ h t) → each f g ≡ each f h
  each_same h e = joined_ext f _ _ (λ t l. ap (λ (x : Float). x ∷ []) (e t l))

map-each : (k : Float) (n : ℕ) (g : ℕ → Float) → map (λ x. x ⊗ k) (each n g) ≡ each n (λ t. g t ⊗ k)
map-each k zero g = refl
map-each k (suc n) g = rw (map-append, map-each k n g) refl

-- sample t of row c
row_at : (f c t : ℕ) (reads : List Float) → t < f → get_or (take f (drop (c * f) reads)) t nan ≡ get_or reads (c * f + t) nan
row_at f c t reads h = get_or-take f (drop (c * f) reads) t nan h ∙ get_or-drop (c * f) reads t nan

-- ---- the sum of rows

-- of one
pub first_row : (r f : ℕ) (reads : List Float) → length (take f reads) ≡ f → take f reads ≡ each f (row_sum r 1 f reads)
unfolding row_sum
first_row r f reads long = is_each f _ (take f reads) long (λ t h. get_or-take f reads t nan h)

-- of one more
one_more : (r c : ℕ) (xs : List Float) (x : Float) → length xs ≡ c → 0 < c → sum_of r (xs ++ (x ∷ [])) ≡ plus_minus (minus r c) (sum_of r xs) x
one_more r c [] x e h = absurd (omega arith)
one_more r c (y ∷ ys) x e h = sum_more r 1 c y x ys (omega arith)

row_more : (r c f t : ℕ) (reads : List Float) → 0 < c
    → plus_minus (minus r c) (row_sum r c f reads t) (get_or reads (c * f + t) nan) ≡ row_sum r (suc c) f reads t
unfolding row_sum
row_more r c f t reads h =
    sym (ap (sum_of r) (column_more f t c reads) ∙ one_more r c (column c f t reads) _ (column-length f t c reads) h)

module _ (r c f : ℕ) (reads sum sum' : List Float) (some : 0 < c) (e : sum ≡ each f (row_sum r c f reads)) where
  long : length sum ≡ f
  long = ap length e ∙ each_length f (row_sum r c f reads)

  held : (t : ℕ) → t < f → get_or sum t nan ≡ row_sum r c f reads t
  held t h = rw e (each_at f (row_sum r c f reads) t nan h)

  pub summed_more : {m : Bool} → m ≡ minus r c → sum' ≡ signed m (take f (drop (c * f) reads)) sum → sum' ≡ each f (row_sum r (c + 1) f reads)
  unfolding signed
  summed_more {m} q e' =
      e' ∙ rw (long, q, add-one) (each_same f _ _ (λ t h. (λ i. plus_minus (minus r c) (held t h i) (row_at f c t reads h i)) ∙ row_more r c f t reads some))

  pub summed_two : {m m' : Bool} → m ≡ minus r c → m' ≡ minus r (c + 1)
      → sum' ≡ signed_twice m m' (take f (drop (c * f) reads)) (take f (drop (c * f + f) reads)) sum → sum' ≡ each f (row_sum r (c + 2) f reads)
  unfolding signed_twice
  summed_two {m} {m'} q q' e' =
      let next : c * f + f ≡ suc c * f = omega (arith, suc-mul c f) in
      let two : c + 2 ≡ suc (suc c) = omega arith in
      e' ∙ rw (long, q, q', add-one, next, two) (each_same f _ _ (λ t h.
      (λ i. plus_minus (minus r (suc c)) (plus_minus (minus r c) (held t h i) (row_at f c t reads h i)) (row_at f (suc c) t reads h i))
      ∙ ap (λ (x : Float). plus_minus (minus r (suc c)) x (get_or reads (suc c * f + t) nan)) (row_more r c f t reads some)
      ∙ row_more r (suc c) f t reads (omega arith)))

-- ---- a mixed row: the sum, and all times k

pub sum_scaled : (n f r : ℕ) (k : Float) (reads sum row : List Float)
    → sum ≡ each f (row_sum r n f reads) → row ≡ map (λ x. x ⊗ k) sum → row ≡ mixed_row n f k reads r
unfolding mixed_row mix_at row_sum
sum_scaled n f r k reads sum row e q = q ∙ ap (map (λ x. x ⊗ k)) e ∙ map-each k f (λ t. sum_of r (column n f t reads))

-- ---- the mixed rows: after the first r one more, or two

module _ (f r : ℕ) (g : ℕ → List Float) (w w' : List Float) (e : take (r * f) w ≡ joined r g) where
  pub row_done : {row : List Float} → length row ≡ f → r * f + f ≤ length w → row ≡ g r
      → w' ≡ put_mid (r * f) (r * f + f - r * f) w row → take ((r + 1) * f) w' ≡ joined (r + 1) g
  row_done {row} long fits q p =
      let put : w' ≡ over (r * f) row w = p ∙ come_back (r * f) w f row long in
      let next : suc r * f ≡ r * f + f = omega (arith, suc-mul r f) in
      rw (add-one, put, next, over_done (r * f) w f row long fits, e, q) refl

  pub two_done : {two : List Float} → length (g r) ≡ f → length (g (r + 1)) ≡ f → r * f + f + f ≤ length w → two ≡ g r ++ g (r + 1)
      → w' ≡ put_mid (r * f) (r * f + f + f - r * f) w two → take ((r + 2) * f) w' ≡ joined (r + 2) g
  two_done {two} ll lh fits q p =
      let wide : r * f + f + f ≡ r * f + (f + f) = omega arith in
      let long : length two ≡ f + f = rw (q, length-append) (omega arith) in
      let put : w' ≡ over (r * f) two w = rw wide at p ∙ come_back (r * f) w (f + f) two long in
      let k : r + 2 ≡ suc (suc r) = omega arith in
      let next : suc (suc r) * f ≡ r * f + (f + f) = omega (arith, suc-mul (suc r) f, suc-mul r f) in
      rw (k, put, next, over_done (r * f) w (f + f) two long (omega arith), e, q, add-one) (sym (append_assoc (joined r g) (g r) (g (suc r))))

-- two of n rows, both even
pub two_end : (i n f : ℕ) → i < n / 2 → n % 2 ≡ 0 → 2 * i * f + f + f ≤ n * f
two_end i n f h e = omega (arith, row_ends (suc (2 * i)) n f (omega arith), suc-mul (2 * i) f)
