-- Numbers in bytes, little-endian: the lowest byte first.
use Rattle.std.specs.Prelude.{ℕ, ◌+◌, ◌*◌, ◌/◌, ◌%◌, List, [], ◌∷◌, ◌++◌, get_or, take, drop}

-- ---- the number that stands at a place

abbrev pub byte : List ℕ → ℕ → ℕ
byte b i = get_or b i 0

abbrev pub word16 : List ℕ → ℕ → ℕ
word16 b i = byte b i + 256 * byte b (i + 1)

abbrev pub word32 : List ℕ → ℕ → ℕ
word32 b i = word16 b i + 65536 * word16 b (i + 2)

-- ---- the bytes of a number

abbrev pub le2 : ℕ → List ℕ
le2 x = (x % 256) ∷ (x / 256 % 256) ∷ []

abbrev pub le4 : ℕ → List ℕ
le4 x = (x % 256) ∷ (x / 256 % 256) ∷ (x / 65536 % 256) ∷ (x / 16777216 % 256) ∷ []

-- bytes with a number written over them from a place on
abbrev pub with16 : List ℕ → ℕ → ℕ → List ℕ
with16 b at x = take at b ++ le2 x ++ drop (at + 2) b

abbrev pub with32 : List ℕ → ℕ → ℕ → List ℕ
with32 b at x = take at b ++ le4 x ++ drop (at + 4) b
