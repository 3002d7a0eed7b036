-- An accepted table is the built-in one or 512 values that begin with S and never rise, so every rating is at most S.
use Prim.Native.Nat.{ℕ, zero, suc, ◌+◌, ◌-◌, ◌≤◌, ◌<◌}
use mathlib.Core.Path.{◌≡◌, refl, ap, ◌∙◌, subst}
use mathlib.Core.List.{List, [], ◌∷◌}
use mathlib.Core.Logic.{inl, inr, ◌↔◌, by_cases}
use mathlib.Core.Bool.{Bool, true, false, ◌&&◌, ◌||◌, and-eq-true_iff, false≢true}
use native.Mathlib.Nat.{le_refl, le_trans}
use native.Mathlib.Decide.{dec_lt}
use native.Mathlib.Numerals.{add-one}
use native.Mathlib.Omega.{arith}
use lib.Dec.{eqb, leb}
use lib.ListN.{length}
use borrow.Author.Tests.{le-leb, lt-leb, leb-true, eqb-true}
use Rattle.rounding.specs.Rounding.{S}
use Rattle.ratings.specs.Ratings.{AtMostS}
use Rattle.ratings.proofs.Laws.{built-in-range}
use Rattle.tables.specs.Tables.{value_in, rating, sized, never_rises, well_rated, BuyersTable, AcceptedTable}

-- ---- the pass over the values

module _ (table : List ℕ) (i n : ℕ) where
  module _ (more : i < n) where
    left : n - i ≡ suc (n - (i + 1))
    left = omega arith

    -- a rise behind value i
    pub rises : value_in table i < value_in table (i + 1) → never_rises table i (n - i) ≡ false
    unfolding never_rises
    rises h = ap (never_rises table i) left ∙ simp (lt-leb (value_in table (suc i)) (value_in table i) (rw add-one at h))

    -- none there: by the values behind it
    pub onward : value_in table (i + 1) ≤ value_in table i → never_rises table i (n - i) ≡ never_rises table (i + 1) (n - (i + 1))
    unfolding never_rises
    onward h = ap (never_rises table i) left ∙ simp (le-leb (value_in table (suc i)) (value_in table i) (rw add-one at h), add-one)

  pub none_left : n ≤ i → never_rises table i (n - i) ≡ true
  unfolding never_rises
  none_left h = let left : n - i ≡ zero = omega arith in ap (never_rises table i) left

-- ---- what passes the tests

pub no_bytes : (table : List ℕ) → length table ≡ 0 → table ≡ []
no_bytes [] e = refl
no_bytes (x ∷ bytes) e = absurd (omega arith)

-- values that never rise, one by one
abbrev Falls : List ℕ → ℕ → ℕ → Type 0
Falls table i n = (k : ℕ) → i ≤ k → k < i + n → value_in table (suc k) ≤ value_in table k

falling : (table : List ℕ) (i n : ℕ) → never_rises table i n ≡ true → Falls table i n
unfolding never_rises
falling table i zero e k l h = absurd (omega arith)
falling table i (suc n) e k l h =
    let (here, later) = (and-eq-true_iff (leb (value_in table (suc i)) (value_in table i)) (never_rises table (suc i) n)).0 e in
    by_cases (dec_lt i k) (λ m. falling table (suc i) n later k m (omega arith)) (λ m. subst (λ k. value_in table (suc k) ≤ value_in table k) (omega arith) (leb-true (value_in table (suc i)) (value_in table i) here))

passing : (table : List ℕ) (i n : ℕ) → Falls table i n → never_rises table i n ≡ true
unfolding never_rises
passing table i zero f = refl
passing table i (suc n) f =
    (and-eq-true_iff (leb (value_in table (suc i)) (value_in table i)) (never_rises table (suc i) n)).1
    (le-leb (value_in table (suc i)) (value_in table i) (f i (le_refl i) (omega arith)), passing table (suc i) n (λ k l h. f k (omega arith) (omega arith)))

module _ (table : List ℕ) where
  built-in-passes : table ≡ [] → (sized table ≡ true) × (well_rated table ≡ true)
  unfolding sized well_rated
  built-in-passes e = rw e (refl, refl)

  buyers-passes : BuyersTable table → (sized table ≡ true) × (well_rated table ≡ true)
  unfolding sized well_rated
  buyers-passes b =
      let fall = passing table 0 511 (λ k l h. b.falls k (omega arith)) in
      rw (b.size, b.first, fall) (refl, refl)

  by_length : (s t : Bool) → (s ≡ true → length table ≡ 0) → (t ≡ true → length table ≡ 2048) → s || t ≡ true → s || (eqb (value_in table 0) S && never_rises table 0 511) ≡ true → AcceptedTable table
  by_length true t none all e f = inl (no_bytes table (none refl))
  by_length false true none all e f =
      let (first, falls) = (and-eq-true_iff (eqb (value_in table 0) S) (never_rises table 0 511)).0 f in
      inr (record { size = all refl; first = eqb-true (value_in table 0) S first; falls = λ k h. falling table 0 511 falls k (omega arith) (omega arith) })
  by_length false false none all e f = absurd (false≢true e)

  -- it passes both tests exactly if it is the built-in one or 512 values that begin with S and never rise
  pub accepted-table : (sized table ≡ true) × (well_rated table ≡ true) ↔ AcceptedTable table
  unfolding sized well_rated
  accepted-table = (
    λ h. by_length (eqb (length table) 0) (eqb (length table) 2048) (eqb-true (length table) 0) (eqb-true (length table) 2048) h.0 h.1,
    by_kind,
  )
    where
      by_kind : AcceptedTable table → (sized table ≡ true) × (well_rated table ≡ true)
      by_kind (inl e) = built-in-passes e
      by_kind (inr b) = buyers-passes b

-- ---- ratings

-- so every value is at most S
value-range : (table : List ℕ) → BuyersTable table → (k : ℕ) → k ≤ 511 → value_in table k ≤ S
value-range table b zero h = omega (arith, b.first)
value-range table b (suc k) h = le_trans (b.falls k h) (value-range table b k (omega arith))

pub buyers-rating : (table : List ℕ) → BuyersTable table → (k : ℕ) → value_in table k ≡ rating table k
unfolding rating
buyers-rating [] b k = absurd (omega (arith, b.size))
buyers-rating (x ∷ bytes) b k = refl

pub rating-range : (table : List ℕ) → AcceptedTable table → AtMostS (rating table)
unfolding rating
rating-range table (inl e) k h = rw e (built-in-range k h)
rating-range table (inr b) k h = rw (← buyers-rating table b k) (value-range table b k h)
