-- Open splits as numbers in a row, three for each: what the engine reads and writes.
use Rattle.std.specs.Prelude.{ℕ, zero, suc, ◌+◌, ◌*◌, ◌≤◌, List, [], ◌∷◌, true, false, leb, get_or}
use Rattle.rounding.specs.Rounding.{S}
use Rattle.rounding.specs.declared.Direction.{Direction}
use Rattle.rounding.specs.declared.Direction.TheVariants.{Down, Up}
use Rattle.reliability.specs.declared.Figure.{Figure}
use Rattle.sittings.specs.Sittings.{Open, running, known, sides}

-- the place and the pair of figures, or low 1 and high 0 while the sound branch runs
abbrev pub entry : Open → List ℕ
entry (running i) = i ∷ 1 ∷ 0 ∷ []
entry (known i k) = i ∷ k Down ∷ k Up ∷ []

unfoldable pub entries : List Open → List ℕ
entries [] = []
entries (running i ∷ os) = i ∷ 1 ∷ 0 ∷ entries os
entries (known i k ∷ os) = i ∷ k Down ∷ k Up ∷ entries os

abbrev pub pair : ℕ → ℕ → Direction → ℕ
pair low high Down = low
pair low high Up = high

-- three numbers as an open split: low above high marks a sound branch that runs
unfoldable pub entered : ℕ → ℕ → ℕ → Open
entered i low high = elim (leb low high) [ true ↦ known i (pair low high) | false ↦ running i ]

-- the open split at place k of a row, and c of them from there on
abbrev pub open_at : List ℕ → ℕ → Open
open_at row k = entered (get_or row (3 * k) 0) (get_or row (3 * k + 1) 0) (get_or row (3 * k + 2) 0)

unfoldable pub opens_in : List ℕ → ℕ → ℕ → List Open
opens_in row k zero = []
opens_in row k (suc c) = open_at row k ∷ opens_in row (suc k) c

-- of all known figures Q holds
abbrev pub Known : ((Direction → ℕ) → Type 0) → List Open → Type 0
Known Q [] = Unit {0}
Known Q (running i ∷ os) = Known Q os
Known Q (known i k ∷ os) = Q k × Known Q os

abbrev pub InRange : (Direction → ℕ) → Type 0
InRange k = (d : Direction) → k d ≤ S

abbrev pub InOrder : (Direction → ℕ) → Type 0
InOrder k = k Down ≤ k Up

-- ---- what a split sets aside, once its branches are worked to the figures s and b

-- its own entry, at place i: none where both are finished
unfoldable pub own_entry : ℕ → Figure → Figure → List ℕ
own_entry i s b = elim s.finished [ true ↦ elim b.finished [ true ↦ [] | false ↦ entry (known i (sides s)) ] | false ↦ entry (running i) ]

-- how many open splits, itself among them, where the branches set aside m and n
unfoldable pub own_count : Figure → Figure → ℕ → ℕ → ℕ
own_count s b m n = elim s.finished [ true ↦ elim b.finished [ true ↦ 0 | false ↦ suc n ] | false ↦ suc m ]
