-- A buyer's own table: a rating by length in place of T, 512 values of 32 bits, little-endian; and what one has to be.
use Rattle.std.specs.Prelude.{ℕ, zero, suc, ◌*◌, ◌≤◌, ◌≡◌, List, [], ◌∷◌, ◌⊎◌, Bool, true, cond, ◌&&◌, ◌||◌, eqb, leb, length, Result, Ok, Err}
use Rattle.words.specs.Words.{word32}
use Rattle.rounding.specs.Rounding.{S}
use Rattle.ratings.specs.Ratings.{T}
use Rattle.tables.specs.declared.Cause.{Cause}
use Rattle.tables.specs.declared.Cause.TheVariants.{Size, Values}

-- value k
unfoldable pub value_in : List ℕ → ℕ → ℕ
value_in table k = word32 table (4 * k)

-- the rating of k hundred metres: with a table of no bytes the built-in one serves
unfoldable pub rating : List ℕ → ℕ → ℕ
rating [] k = T k
rating (x ∷ bytes) k = value_in (x ∷ bytes) k

-- ---- tests of a table

-- 0 or 2,048 bytes
unfoldable pub sized : List ℕ → Bool
sized table = eqb (length table) 0 || eqb (length table) 2048

-- none of the k values behind value i is above the one before it
unfoldable pub never_rises : List ℕ → ℕ → ℕ → Bool
never_rises table i zero = true
never_rises table i (suc k) = leb (value_in table (suc i)) (value_in table i) && never_rises table (suc i) k

-- the first value is S, and none of the 511 others is above the one before; of a table of no bytes nothing is asked
unfoldable pub well_rated : List ℕ → Bool
well_rated table = eqb (length table) 0 || (eqb (value_in table 0) S && never_rises table 0 511)

-- the size first, then the values
unfoldable pub verdict : List ℕ → Result (Unit {0}) Cause
verdict table = cond (sized table) (cond (well_rated table) (Ok tt) (Err Values)) (Err Size)

-- ---- what a table has to be

-- 512 values that begin with S and never rise
pub record BuyersTable (table : List ℕ) : Type 0 where
  pub size : length table ≡ 2048
  pub first : value_in table 0 ≡ S
  pub falls : (k : ℕ) → suc k ≤ 511 → value_in table (suc k) ≤ value_in table k

-- it passes the tests exactly if it is the built-in one or such values (accepted-table in proofs/Theorems.antt)
abbrev pub AcceptedTable : List ℕ → Type 0
AcceptedTable table = (table ≡ []) ⊎ BuyersTable table
