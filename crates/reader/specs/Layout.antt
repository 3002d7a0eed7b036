-- The layout of a plan file: sizes first, then the ends of the links, then their values.
use Rattle.std.specs.Prelude.{ℕ, ◌+◌, ◌*◌, List}
use Rattle.words.specs.Words.{byte, word16, word32}

-- n and m, the sizes
abbrev pub size_n : List ℕ → ℕ
size_n b = word16 b 0

abbrev pub size_m : List ℕ → ℕ
size_m b = word16 b 2

-- the two ends of link i, and its value as it stands in the file
abbrev pub first_end : List ℕ → ℕ → ℕ
first_end b i = byte b (4 + 2 * i)

abbrev pub second_end : List ℕ → ℕ → ℕ
second_end b i = byte b (5 + 2 * i)

abbrev pub file_value : List ℕ → ℕ → ℕ
file_value b i = word32 b (4 + 2 * size_m b + 4 * i)
