-- One test, computed over a whole table, shows that it is T and that it falls; `carried` takes it to each entry.
use Prim.Native.Nat.{ℕ, zero, suc, ◌+◌, ◌*◌, ◌/◌, ◌≤◌, ◌<◌, zero-le}
use mathlib.Core.Path.{◌≡◌, sym, ap, ◌∙◌}
use mathlib.Core.Bool.{Bool, true, false, ◌&&◌}
use mathlib.Core.List.{List, [], ◌∷◌}
use native.Mathlib.Nat.{zero-add, add-zero, add-suc, suc-add, le_refl, le_trans, lt_of_le_of_lt, le_of_suc-le-suc, not-suc-le-zero}
use lib.Dec.{T as Holds, eqb, eqb→eq, leb, leb→le}
use lib.ListN.{length, get_or}
use Rattle.rounding.specs.Rounding.{S}
use Rattle.ratings.specs.Ratings.{T}

parts : (a b : Bool) → Holds (a && b) → Holds a × Holds b
parts true b t = (tt, t)
parts false b t = absurd t

abbrev next : ℕ → ℕ
next x = x * 999700000 / S

-- each entry is what the rule makes of the one before, and no larger
abbrev chain : ℕ → List ℕ → Bool
chain x [] = true
chain x (y ∷ ys) = eqb y (next x) && leb y x && chain y ys

abbrev pub is_table : List ℕ → Bool
is_table [] = true
is_table (x ∷ xs) = eqb x S && chain x xs

module _ (x y : ℕ) (ys : List ℕ) (t : Holds (chain x (y ∷ ys))) where
  here : Holds (eqb y (next x)) × Holds (leb y x)
  here = parts (eqb y (next x)) (leb y x) (parts (eqb y (next x) && leb y x) (chain y ys) t).0

  rule : y ≡ next x
  rule = eqb→eq y (next x) here.0

  no-larger : y ≤ x
  no-larger = leb→le y x here.1

  onward : Holds (chain y ys)
  onward = (parts (eqb y (next x) && leb y x) (chain y ys) t).1

from : (i x : ℕ) (xs : List ℕ) → x ≡ T i → Holds (chain x xs) → (k : ℕ) → k < length (x ∷ xs) → get_or (x ∷ xs) k 0 ≡ T (i + k)
unfolding T
from i x xs e t zero h = e ∙ ap T (sym (add-zero i))
from i x [] e t (suc k) h = absurd (not-suc-le-zero (le_of_suc-le-suc h))
from i x (y ∷ ys) e t (suc k) h =
    from (suc i) y ys (rule x y ys t ∙ ap next e) (onward x y ys t) k (le_of_suc-le-suc h)
    ∙ ap T (suc-add i k ∙ sym (add-suc i k))

descends : (x : ℕ) (xs : List ℕ) → Holds (chain x xs) → (j k : ℕ) → j ≤ k → k < length (x ∷ xs) → get_or (x ∷ xs) k 0 ≤ get_or (x ∷ xs) j 0
descends x xs t zero zero l h = le_refl x
descends x [] t j (suc k) l h = absurd (not-suc-le-zero (le_of_suc-le-suc h))
descends x (y ∷ ys) t zero (suc k) l h =
    le_trans (descends y ys (onward x y ys t) 0 k zero-le (le_of_suc-le-suc h)) (no-larger x y ys t)
descends x xs t (suc j) zero l h = absurd (not-suc-le-zero l)
descends x (y ∷ ys) t (suc j) (suc k) l h =
    descends y ys (onward x y ys t) j k (le_of_suc-le-suc l) (le_of_suc-le-suc h)

entry : (x : ℕ) (xs : List ℕ) → Holds (is_table (x ∷ xs)) → (k : ℕ) → k < length (x ∷ xs) → get_or (x ∷ xs) k 0 ≡ T k
unfolding T
entry x xs t k h =
    let p = parts (eqb x S) (chain x xs) t in
    from 0 x xs (eqb→eq x S p.0) p.1 k h ∙ ap T (zero-add k)

-- in a table that passes the test each entry is T's, and no larger than those before it
pub carried : (xs : List ℕ) → Holds (is_table xs) → (k : ℕ) → k < length xs → (get_or xs k 0 ≡ T k) × ((j : ℕ) → j ≤ k → get_or xs k 0 ≤ T j)
carried [] t k h = absurd (not-suc-le-zero h)
carried (x ∷ xs) t k h = (
  entry x xs t k h,
  λ j l. rw (sym (entry x xs t j (lt_of_le_of_lt l h))) (descends x xs (parts (eqb x S) (chain x xs) t).1 j k l h),
)
