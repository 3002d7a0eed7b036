-- Saved work as bytes, little-endian: its sizes, then the open splits in two parallel arrays, or the answer.
use Rattle.std.specs.Prelude.{ℕ, zero, suc, ◌+◌, ◌*◌, List, [], ◌∷◌, ◌++◌, Bool, true, ◌&&◌, ◌||◌, eqb, leb, length, drop, get_or}
use Rattle.words.specs.Words.{word16, word32, le2, le4}
use Rattle.rounding.specs.Rounding.{S}
use Rattle.rounding.specs.declared.Direction.TheVariants.{Down, Up}
use Rattle.answers.specs.Answers.{answer_bytes}
use Rattle.sittings.specs.Sittings.{Open, running, known, Saved, begun, complete, most}
use Rattle.sittings.specs.Entries.{entered}

-- ---- reading

-- the count c of open splits, the state (0 begun, 1 complete) and the steps so far
abbrev pub count_in : List ℕ → ℕ
count_in b = word16 b 0

abbrev pub state_in : List ℕ → ℕ
state_in b = word16 b 2

abbrev pub taken_in : List ℕ → ℕ
taken_in b = word32 b 4

-- c places, then c pairs of figures
abbrev pub place_in : List ℕ → ℕ → ℕ
place_in b i = word32 b (8 + 4 * i)

abbrev pub pair_low : List ℕ → ℕ → ℕ
pair_low b i = word32 b (8 + 4 * count_in b + 8 * i)

abbrev pub pair_high : List ℕ → ℕ → ℕ
pair_high b i = word32 b (8 + 4 * count_in b + 8 * i + 4)

-- k open splits from number i on
unfoldable pub opens_from : List ℕ → ℕ → ℕ → List Open
opens_from b i zero = []
opens_from b i (suc k) = entered (place_in b i) (pair_low b i) (pair_high b i) ∷ opens_from b (suc i) k

abbrev pub opens_of : List ℕ → List Open
opens_of b = opens_from b 0 (count_in b)

-- ---- check 10

-- a pair in order and at most S, or the running mark
unfoldable pub pair_allowed : ℕ → ℕ → Bool
pair_allowed low high = (leb low high && leb high S) || (eqb low 1 && eqb high 0)

unfoldable pub pairs_allowed : List ℕ → ℕ → ℕ → Bool
pairs_allowed b i zero = true
pairs_allowed b i (suc k) = pair_allowed (pair_low b i) (pair_high b i) && pairs_allowed b (suc i) k

unfoldable pub begun_well : List ℕ → Bool
begun_well b = eqb (state_in b) 0 && leb (count_in b) 64 && eqb (length b) (8 + 12 * count_in b) && pairs_allowed b 0 (count_in b)

unfoldable pub complete_well : List ℕ → Bool
complete_well b = eqb (state_in b) 1 && eqb (count_in b) 0 && eqb (length b) 24

unfoldable pub well_formed : List ℕ → Bool
well_formed b = leb 8 (length b) && leb (taken_in b) most && (begun_well b || complete_well b)

-- ---- writing

-- each number in four bytes
unfoldable pub words : List ℕ → List ℕ
words [] = []
words (x ∷ xs) = le4 x ++ words xs

unfoldable pub places : List Open → List ℕ
places [] = []
places (running i ∷ os) = i ∷ places os
places (known i k ∷ os) = i ∷ places os

-- low 1 and high 0 while the sound branch runs
unfoldable pub pairs : List Open → List ℕ
pairs [] = []
pairs (running i ∷ os) = 1 ∷ 0 ∷ pairs os
pairs (known i k ∷ os) = k Down ∷ k Up ∷ pairs os

unfoldable pub saved_bytes : Saved → List ℕ
saved_bytes (begun os n) = le2 (length os) ++ le2 0 ++ le4 n ++ words (places os) ++ words (pairs os)
saved_bytes (complete f) = le2 0 ++ le2 1 ++ le4 f.steps ++ answer_bytes f

-- bytes written over the first of b; those behind them stay
abbrev pub over : List ℕ → List ℕ → List ℕ
over bytes b = bytes ++ drop (length bytes) b

-- the same bytes of c open splits from a row of three numbers for each
unfoldable pub row_places : List ℕ → ℕ → ℕ → List ℕ
row_places row i zero = []
row_places row i (suc k) = get_or row (3 * i) 0 ∷ row_places row (suc i) k

unfoldable pub row_pairs : List ℕ → ℕ → ℕ → List ℕ
row_pairs row i zero = []
row_pairs row i (suc k) = get_or row (3 * i + 1) 0 ∷ get_or row (3 * i + 2) 0 ∷ row_pairs row (suc i) k

abbrev pub begun_bytes : List ℕ → ℕ → ℕ → List ℕ
begun_bytes row c n = le2 c ++ le2 0 ++ le4 n ++ words (row_places row 0 c) ++ words (row_pairs row 0 c)
