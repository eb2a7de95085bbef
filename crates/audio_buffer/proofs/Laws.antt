-- What the judgements tell, how long the lists are, and where each sample lies: interleaving and back is nothing. Assumes nothing.
use Rattle.std.specs.Prelude.{Err}
use mathlib.Core.Path.{◌≡◌, refl, sym, ap, ◌∙◌}
use mathlib.Core.Bool.{true, ◌&&◌}
use mathlib.Core.List.{List}
use Prim.Native.Nat.{ℕ, zero, suc, ◌+◌, ◌*◌, ◌/◌, ◌%◌, ◌≤◌, ◌<◌}
use native.Mathlib.Nat.{zero-mul, suc-mul, mul-zero, mul_comm, mul-le-mul, div-lt_iff_lt-mul, mod-lt, div-add-mod', not-suc-le-zero, le_of_suc-le-suc}
use native.Mathlib.Omega.{arith}
use lib.Dec.{eqb, ltb}
use lib.ListN.{length, get_or, drop, length-append, get_or-append}
use lib.Seq.{get_or-drop, get_or-append-add, ext_get_or}
use lib.Ieee.{Float, nan}
use borrow.Author.Tests.{leb-true, ltb-true, eqb-true}
use Rattle.samples.specs.Answers.{Answer, Accepted}
use Rattle.samples.specs.declared.Refusal.TheVariants.{BadLength, BadIndex}
use Rattle.samples.proofs.Laws.{needed, split_and}
use Rattle.samples.proofs.Rows.{row_ends}
use Rattle.audio_buffer.specs.Judges.{channels_ok, samples_ok, judged_buffer_then, judged_two, judged_channel}
use Rattle.audio_buffer.specs.Layout.{first_of_each, columns, InterleavedAt, DeinterleavedAt, DeinterleavedInterleaved, InterleavedDeinterleaved}

-- ---- what a judgement tells

pub record Counts (channels samples : ℕ) : Type 0 where
  pub some : 1 ≤ channels
  pub few : channels ≤ 16
  pub short : samples ≤ 65536
  pub all : channels * samples ≤ 1048576

pub counts_of : (channels samples : ℕ) → (channels_ok channels && samples_ok samples) ≡ true → Counts channels samples
unfolding channels_ok
counts_of channels samples e =
    let p = split_and _ _ e in
    let q = split_and _ _ p.0 in
    let few = leb-true _ _ q.1 in
    let short = leb-true _ _ p.1 in
    record { some = leb-true _ _ q.0; few = few; short = short; all = mul-le-mul few short }

pub judged_of_lem : (channels samples len : ℕ) (rest : Answer) → judged_buffer_then channels samples len rest ≡ Accepted
    → Counts channels samples × (len ≡ channels * samples) × (rest ≡ Accepted)
unfolding judged_buffer_then
judged_of_lem channels samples len rest e =
    let p = needed (channels_ok channels && samples_ok samples) (Err BadIndex) _ refl e in
    let q = needed (eqb len (channels * samples)) (Err BadLength) rest refl p.1 in
    (counts_of channels samples p.0, eqb-true _ _ q.0, q.1)

pub two_of : (channels samples len other : ℕ) → judged_two channels samples len other ≡ Accepted
    → (len ≡ channels * samples) × (other ≡ channels * samples)
two_of channels samples len other e =
    let p = judged_of_lem channels samples len _ e in
    let q = judged_of_lem channels samples other Accepted p.2 in
    (p.1, q.1)

-- the channel lies within the buffer
pub channel_of : (channels samples channel len : ℕ) → judged_channel channels samples channel len ≡ Accepted
    → channel * samples + samples ≤ len
channel_of channels samples channel len e =
    let p = judged_of_lem channels samples len _ e in
    let q = needed (ltb channel channels) (Err BadIndex) Accepted refl p.2 in
    omega (arith, row_ends channel channels samples (ltb-true _ _ q.0))

-- ---- layouts

pub column-length : (row n : ℕ) (xs : List Float) → length (first_of_each row n xs) ≡ n
column-length row zero xs = refl
column-length row (suc n) xs = ap suc (column-length row n (drop row xs))

columns-length : (row n k : ℕ) (xs : List Float) → length (columns row n k xs) ≡ k * n
columns-length row n zero xs = sym (zero-mul n)
columns-length row n (suc k) xs =
    rw (length-append, column-length, columns-length row n k (drop 1 xs)) (omega (arith, suc-mul k n))

module _ (xs : List Float) where
  nth : {i j : ℕ} → i ≡ j → get_or xs i nan ≡ get_or xs j nan
  nth e = ap (λ (k : ℕ). get_or xs k nan) e

pub column_at : (row n : ℕ) (xs : List Float) (r : ℕ) → r < n → get_or (first_of_each row n xs) r nan ≡ get_or xs (r * row) nan
column_at row zero xs r h = absurd (not-suc-le-zero h)
column_at row (suc n) xs zero h = rw zero-mul
column_at row (suc n) xs (suc r) h =
    column_at row n (drop row xs) r (le_of_suc-le-suc h) ∙ get_or-drop row xs (r * row) nan ∙ nth xs (omega (arith, suc-mul r row))

-- sample r of column t is sample t of row r
columns_at : (row n k : ℕ) (xs : List Float) (t r : ℕ) → t < k → r < n → get_or (columns row n k xs) (t * n + r) nan ≡ get_or xs (r * row + t) nan
columns_at row n zero xs t r ht hr = absurd (not-suc-le-zero ht)
columns_at row n (suc k) xs zero r ht hr =
    let h : r < length (first_of_each row n xs) = rw column-length hr in
    nth (columns row n (suc k) xs) (omega (arith, zero-mul n))
    ∙ get_or-append (first_of_each row n xs) (columns row n k (drop 1 xs)) nan r h
    ∙ column_at row n xs r hr
    ∙ nth xs (omega arith)
columns_at row n (suc k) xs (suc t) r ht hr =
    nth (columns row n (suc k) xs) (omega (arith, suc-mul t n, column-length row n xs))
    ∙ get_or-append-add (first_of_each row n xs) (columns row n k (drop 1 xs)) (t * n + r) nan
    ∙ columns_at row n k (drop 1 xs) t r (le_of_suc-le-suc ht) hr
    ∙ get_or-drop 1 xs (r * row + t) nan
    ∙ nth xs (omega arith)

-- every place is a place in a row
in_row : (row n i : ℕ) → i < n * row → (i / row < n) × (i % row < row) × (i / row * row + i % row ≡ i)
in_row zero n i h = absurd (not-suc-le-zero (rw mul-zero at h))
in_row (suc row) n i h = let p : 0 < suc row = omega arith in ((div-lt_iff_lt-mul p).1 h, mod-lt i p, div-add-mod' i (suc row))

-- the columns of the columns are the rows
columns-back : (row n : ℕ) (xs : List Float) → length xs ≡ n * row → columns n row n (columns row n row xs) ≡ xs
columns-back row n xs e = ext_get_or nan _ xs (long ∙ sym e) same
  where
    long : length (columns n row n (columns row n row xs)) ≡ n * row
    long = columns-length n row n (columns row n row xs)

    same : (i : ℕ) → i < length (columns n row n (columns row n row xs)) → get_or (columns n row n (columns row n row xs)) i nan ≡ get_or xs i nan
    same i h =
        let p = in_row row n i (rw long at h) in
        nth (columns n row n (columns row n row xs)) (sym p.2)
        ∙ columns_at n row n (columns row n row xs) (i / row) (i % row) p.0 p.1
        ∙ columns_at row n row xs (i % row) (i / row) p.1 p.0
        ∙ nth xs p.2

-- ---- interleaving and back

pub interleaved_at : InterleavedAt
interleaved_at channels samples xs c t hc ht = columns_at samples channels samples xs t c ht hc

pub deinterleaved_at : DeinterleavedAt
deinterleaved_at channels samples xs c t hc ht = columns_at channels samples channels xs c t hc ht

pub deinterleaved-interleaved : DeinterleavedInterleaved
deinterleaved-interleaved channels samples xs e = columns-back samples channels xs e

pub interleaved-deinterleaved : InterleavedDeinterleaved
interleaved-deinterleaved channels samples xs e = columns-back channels samples xs (e ∙ mul_comm channels samples)
