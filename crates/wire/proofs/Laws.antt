-- NaN, bytes, and the numbers and floats that they stand for: lengths, one more float, and what decoding gives of what encoding gave. Assumes
-- nothing.
use mathlib.Core.Path.{◌≡◌, refl, ap, ◌∙◌}
use mathlib.Core.List.{List, [], ◌∷◌, ◌++◌, append-nil, append_assoc}
use Prim.Native.Nat.{ℕ, zero, suc, ◌+◌, ◌-◌, ◌*◌, ◌/◌, ◌%◌, ◌<◌, min}
use native.Mathlib.Numerals.{add-one}
use native.Mathlib.Omega.{arith}
use lib.Dec.{T}
use lib.ListN.{length, get_or, take, drop, replicate, drop_of_length-le}
use lib.Seq.{drop-drop, take-suc, take_at, drop_at, take-length, length-take-le}
use lib.Ieee.{Float, nan, inf, fin, is_nan, binary32, fits, of_bits, to_bits}
use mathlib.Core.Bool.{true}
use lib.Ieee.Bits.{of_bits-to_bits, to_bits-lt}
use Rattle.samples.specs.Binary32.{+0}
use Rattle.samples.proofs.Turns.{back}
use borrow.Rule.Slice.PartMut.{put_mid}
use Rattle.std.specs.Int.{w32, to_le_bytes}
use Rattle.wire.proofs.Unpacking.{first_whole}
use Rattle.wire.specs.Wire.{value_of, bytes_of, decoded, encoded, DecodedEncoded, written}

-- ---- NaN

-- a float of which the test for NaN says yes
pub only_nan : (x : Float) → is_nan x ≡ true → x ≡ nan
unfolding is_nan
only_nan nan h = refl
only_nan (inf s) h = cc
only_nan (fin s m e) h = cc

-- ---- encoding

-- the four bytes that std writes
pub to_le_bytes-bytes_of : (n : ℕ) → to_le_bytes w32 n ≡ bytes_of 4 n
to_le_bytes-bytes_of n =
    let third : n / 65536 % 256 ≡ n / 256 / 256 % 256 = omega arith in
    let fourth : n / 16777216 % 256 ≡ n / 256 / 256 / 256 % 256 = omega arith in
    λ j. n % 256 ∷ n / 256 % 256 ∷ third j ∷ fourth j ∷ []

pub encoded-length : (xs : List Float) → length (encoded xs) ≡ 4 * length xs
encoded-length [] = refl
encoded-length (x ∷ xs) = rw (encoded-length xs) (omega arith)

pub encoded-append : (xs ys : List Float) → encoded (xs ++ ys) ≡ encoded xs ++ encoded ys
encoded-append [] ys = refl
encoded-append (x ∷ xs) ys = ap (λ (bytes : List ℕ). bytes_of 4 (to_bits binary32 x) ++ bytes) (encoded-append xs ys)

-- the next float's four bytes are written behind those of the floats before it
pub encoded_more : (xs : List Float) (out : List ℕ) (i : ℕ) → i < length xs
    → put_mid (4 * i) (4 * i + 4 - 4 * i) (encoded (take i xs) ++ drop (4 * i) out) (bytes_of 4 (to_bits binary32 (get_or xs i nan)))
    ≡ encoded (take (i + 1) xs) ++ drop (4 * (i + 1)) out
encoded_more xs out i h =
    let front = encoded (take i xs) in
    let four = bytes_of 4 (to_bits binary32 (get_or xs i nan)) in
    let rest = drop (4 * i) out in
    let long : length front ≡ 4 * i = encoded-length (take i xs) ∙ ap (λ (n : ℕ). 4 * n) (length-take-le i xs (omega arith)) in
    let next : 4 * i + 4 ≡ 4 * (i + 1) = omega arith in
    let put : put_mid (4 * i) (4 * i + 4 - 4 * i) (front ++ rest) four ≡ front ++ (four ++ drop (4 * (i + 1)) out)
    = back (4 * i) 4 (front ++ rest) four
    ∙ rw (take_at front rest (4 * i) long, ← drop-drop 4 (4 * i) (front ++ rest), drop_at front rest (4 * i) long, drop-drop, next) refl in
    let more : encoded (take (i + 1) xs) ≡ front ++ four = rw (add-one, take-suc xs i nan h) (encoded-append (take i xs) (get_or xs i nan ∷ [])) in
    put ∙ rw (more, append_assoc)

-- where the floats just fit, nothing of what is written over is left
pub written_all : (xs : List Float) (out : List ℕ) → length out ≡ 4 * length xs → written xs out ≡ encoded xs
unfolding written
written_all xs out e =
    let all : min (length xs) (length out / 4) ≡ length xs = omega arith in
    let none : drop (4 * length xs) out ≡ [] = drop_of_length-le out {i = 4 * length xs} (omega arith) in
    rw (all, take-length, none, append-nil)

-- ---- both

value_back : (n : ℕ) → n < 4294967296 → value_of (bytes_of 4 n) ≡ n
value_back n h = omega arith

-- floats of binary32, NaN among them, come back from their bytes, whatever follows those
pub decoded_front : (xs : List Float) (rest : List ℕ) → ((i : ℕ) → T (fits binary32 (get_or xs i nan))) → decoded (length xs) (encoded xs ++ rest) ≡ xs
decoded_front [] rest f = refl
decoded_front (x ∷ xs) rest f =
    let whole = first_whole 4 (of_bits binary32) (bytes_of 4 (to_bits binary32 x) ++ (encoded xs ++ rest)) (omega arith) in
    let value = ap (of_bits binary32) (value_back (to_bits binary32 x) (to_bits-lt binary32 x (f 0))) ∙ of_bits-to_bits binary32 x (f 0) in
    λ j. (whole ∙ value) j ∷ decoded_front xs rest (λ i. f (suc i)) j

pub decoded-encoded : DecodedEncoded
decoded-encoded xs f = rw append-nil at (decoded_front xs [] f)

pub encoded_silence : (n : ℕ) → encoded (replicate n +0) ≡ replicate (4 * n) 0
unfolding of_bits to_bits
encoded_silence zero = refl
encoded_silence (suc n) =
    let e : 4 * suc n ≡ suc (suc (suc (suc (4 * n)))) = omega arith in
    rw (e, encoded_silence n)
