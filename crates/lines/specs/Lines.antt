-- Text made of lines, in ASCII: words, numbers in decimal, and the form of a line.
use Rattle.std.specs.Prelude.{ℕ, zero, suc, ◌+◌, ◌-◌, ◌/◌, ◌%◌, ◌≡◌, List, [], ◌∷◌, ◌++◌, Bool, true, false, ◌&&◌, leb, ltb, length, get_or}
use Prim.Native.Char.{code}
use Prim.Native.String.{String, [] as nothing, ◌∷◌ as ◌then◌}
use Rattle.std.proofs.lemmas.List.Edits.{sets}

-- a part of a text written from a place on: what the text is then, and the place behind the part
abbrev pub Puts : List ℕ → ℕ → List ℕ → List ℕ → ℕ → Type 0
Puts before at part after behind = (after ≡ sets before at part) × (behind ≡ at + length part)

-- ---- words and numbers

-- the codes of the characters
abbrev pub text : String → List ℕ
text nothing = []
text (c then s) = code c ∷ text s

-- the character of a digit: 48 is that of 0
abbrev pub digit : ℕ → ℕ
digit d = 48 + d

-- a number of at most k digits in decimal, without zeros in front (decimal-spells in proofs/Theorems.antt: its digits spell it)
unfoldable pub decimal_of : ℕ → ℕ → List ℕ
decimal_of zero x = []
decimal_of (suc k) x = elim (ltb x 10) [ true ↦ digit x ∷ [] | false ↦ decimal_of k (x / 10) ++ digit (x % 10) ∷ [] ]

-- a number of 32 bits has at most ten
abbrev pub decimal : ℕ → List ℕ
decimal x = decimal_of 10 x

-- ---- lines

-- 0 to 9
abbrev pub is_digit : ℕ → Bool
is_digit c = leb 48 c && leb c 57

-- in a line's form, the digit d stands for the number at place d, and every other character for itself
unfoldable pub meant : List ℕ → ℕ → List ℕ
meant xs c = elim (is_digit c) [ true ↦ decimal (get_or xs (c - 48) 0) | false ↦ c ∷ [] ]

-- a line of some form
unfoldable pub filled : List ℕ → List ℕ → List ℕ
filled xs [] = []
filled xs (c ∷ form) = meant xs c ++ filled xs form
