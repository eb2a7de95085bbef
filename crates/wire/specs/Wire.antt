-- R9.4: how floats lie in bytes, the lowest byte first: of any number of bytes each, and of four.
use Rattle.std.specs.Prelude.{◌≡◌, cond, List, [], ◌∷◌, ◌++◌, ℕ, zero, suc, ◌+◌, ◌-◌, ◌*◌, ◌/◌, ◌%◌, min, T, leb, length, get_or, take, drop, map, replicate, Float}
use Rattle.std.specs.Float.{nan, binary32}
use Rattle.std.specs.Float.Ieee.{fits, of_bits, to_bits}
use Rattle.samples.specs.Binary32.{+0}

-- the number that bytes stand for, the lowest first
abbrev pub value_of : List ℕ → ℕ
value_of [] = 0
value_of (b ∷ bytes) = b + 256 * value_of bytes

-- k bytes of a number, the lowest first
abbrev pub bytes_of : ℕ → ℕ → List ℕ
bytes_of zero n = []
bytes_of (suc k) n = n % 256 ∷ bytes_of k (n / 256)

-- R9.16: the float that f makes of the first k bytes, and +0 where there are not so many
unfoldable pub first_of : ℕ → (ℕ → Float) → List ℕ → Float
first_of k f bytes = cond (leb k (length bytes)) (f (value_of (take k bytes))) +0

-- n floats, k bytes each
abbrev pub unpacked : ℕ → (ℕ → Float) → ℕ → List ℕ → List Float
unpacked k f zero bytes = []
unpacked k f (suc n) bytes = first_of k f bytes ∷ unpacked k f n (drop k bytes)

-- R9.16: n floats, what f makes of each group of bytes, and +0 past the last
abbrev pub filled : {G : Type 0} → (G → Float) → ℕ → List G → List Float
filled f n groups = map f (take n groups) ++ replicate (n - length groups) +0

-- R9.16: n floats, four bytes each
abbrev pub decoded : ℕ → List ℕ → List Float
decoded n bytes = unpacked 4 (of_bits binary32) n bytes

-- R9.17, R9.18: four bytes for each float. NaN's are those of the quiet NaN 7fc00000
abbrev pub encoded : List Float → List ℕ
encoded [] = []
encoded (x ∷ xs) = bytes_of 4 (to_bits binary32 x) ++ encoded xs

-- floats of binary32, NaN among them, come back from their bytes
abbrev pub DecodedEncoded : Type 0
DecodedEncoded = (xs : List Float) → ((i : ℕ) → T (fits binary32 (get_or xs i nan))) → decoded (length xs) (encoded xs) ≡ xs

-- R9.17: bytes that were written over, by as many floats as they have room for, and the rest as it was
unfoldable pub written : List Float → List ℕ → List ℕ
written xs out =
    let k = min (length xs) (length out / 4) in
    encoded (take k xs) ++ drop (4 * k) out
