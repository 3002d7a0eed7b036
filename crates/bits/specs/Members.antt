-- A set of places as a list of Bools, lowest place first, and what the operations do to that list.
use Rattle.std.specs.Prelude.{ℕ, zero, suc, ◌-◌, ◌/◌, ◌%◌, Bool, true, false, not, ◌&&◌, ◌||◌, replicate}
use mathlib.Core.List.{List, [], ◌∷◌, ◌++◌, zip_with}

-- a binary digit
abbrev pub bit_of : ℕ → Bool
bit_of zero = false
bit_of (suc d) = true

-- the k lowest binary digits of n
unfoldable pub digits : ℕ → ℕ → List Bool
digits zero n = []
digits (suc k) n = bit_of (n % 2) ∷ digits k (n / 2)

-- the places 0 to 63: whether each is in the set s
abbrev pub members : ℕ → List Bool
members s = digits 64 s

-- the first place that is set; the length where none is
abbrev pub first_of : List Bool → ℕ
first_of [] = zero
first_of (true ∷ bs) = zero
first_of (false ∷ bs) = suc (first_of bs)

-- how many places are set
abbrev pub how_many : List Bool → ℕ
how_many [] = zero
how_many (true ∷ bs) = suc (how_many bs)
how_many (false ∷ bs) = how_many bs

-- what is in both sets
abbrev pub both : List Bool → List Bool → List Bool
both = zip_with ◌&&◌

-- what is in at least one of two sets
abbrev pub either : List Bool → List Bool → List Bool
either = zip_with ◌||◌

-- what is in the first set and not in the second
abbrev pub difference : List Bool → List Bool → List Bool
difference = zip_with (λ b c. b && not c)

-- the places below n, where n is at most 64
abbrev pub below : ℕ → List Bool
below n = replicate n true ++ replicate (64 - n) false
