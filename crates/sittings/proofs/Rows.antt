-- What is written to a row is read again, where all known pairs are in order.
use Prim.Native.Nat.{ℕ, zero, suc, ◌+◌, ◌*◌, ◌≤◌, ◌<◌}
use mathlib.Core.Path.{◌≡◌, refl, sym, ap, ap₂, ◌∙◌}
use mathlib.Core.List.{List, [], ◌∷◌}
use mathlib.Core.Bool.{true, false}
use native.Mathlib.Nat.{add-zero}
use native.Mathlib.Numerals.{add-one, add-two}
use native.Mathlib.Omega.{arith}
use lib.ListN.{length, get_or, set, length-set}
use lib.Seq.{sets, get_or-set_same, get_or-set_other}
use borrow.Author.Tests.{le-leb}
use Rattle.rounding.specs.declared.Direction.{Direction}
use Rattle.rounding.specs.declared.Direction.TheVariants.{Down, Up}
use Rattle.sittings.specs.Sittings.{Open, running, known}
use Rattle.sittings.specs.Entries.{entries, pair, entered, open_at, opens_in, Known, InOrder}

-- ---- one entry

pair_of : (k : Direction → ℕ) → pair (k Down) (k Up) ≡ k
pair_of k = λ i d. same d i
  where
    same : (d : Direction) → pair (k Down) (k Up) d ≡ k d
    same Down = refl
    same Up = refl

pub running-again : (i : ℕ) → entered i 1 0 ≡ running i
unfolding entered
running-again i = refl

pub known-again : (i : ℕ) (k : Direction → ℕ) → InOrder k → entered i (k Down) (k Up) ≡ known i k
unfolding entered
known-again i k h =
    ap (λ t. elim t as (λ x. Open) [ true ↦ known i (pair (k Down) (k Up)) | false ↦ running i ]) (le-leb (k Down) (k Up) h) ∙ ap (known i) (pair_of k)

-- what is written from place i on leaves what is before
pub get_or-sets-before : (vs l : List ℕ) (i j : ℕ) → j < i → get_or (sets l i vs) j 0 ≡ get_or l j 0
get_or-sets-before [] l i j h = refl
get_or-sets-before (a ∷ vs) l i j h = get_or-sets-before vs (set l i a) (suc i) j (omega arith) ∙ get_or-set_other l i j a 0 (λ e. absurd (omega arith))

module _ (row : List ℕ) (k a b c : ℕ) (h : 3 * k + 3 ≤ length row) where
  abbrev j : ℕ
  j = 3 * k

  abbrev first : List ℕ
  first = set row j a

  abbrev second : List ℕ
  second = set first (suc j) b

  abbrev entire : List ℕ
  entire = set second (suc (suc j)) c

  pub length-entire : length entire ≡ length row
  length-entire = length-set second (suc (suc j)) c ∙ length-set first (suc j) b ∙ length-set row j a

  -- the three numbers at a place, with others behind them
  pub entry-again : (xs : List ℕ) → open_at (sets row (3 * k) (a ∷ b ∷ c ∷ xs)) k ≡ entered a b c
  entry-again xs =
      let all = sets entire (suc (suc (suc j))) xs in
      let x : get_or all j 0 ≡ a =
      get_or-sets-before xs entire (suc (suc (suc j))) j (omega arith) ∙ get_or-set_other second (suc (suc j)) j c 0 (λ e. absurd (omega arith))
      ∙ get_or-set_other first (suc j) j b 0 (λ e. absurd (omega arith)) ∙ get_or-set_same row j a 0 (omega arith) in
      let y : get_or all (suc j) 0 ≡ b =
      get_or-sets-before xs entire (suc (suc (suc j))) (suc j) (omega arith) ∙ get_or-set_other second (suc (suc j)) (suc j) c 0 (λ e. absurd (omega arith))
      ∙ get_or-set_same first (suc j) b 0 (omega (arith, length-set row j a)) in
      let z : get_or all (suc (suc j)) 0 ≡ c =
      get_or-sets-before xs entire (suc (suc (suc j))) (suc (suc j)) (omega arith)
      ∙ get_or-set_same second (suc (suc j)) c 0 (omega (arith, length-set first (suc j) b, length-set row j a)) in
      ap₂ (λ m n. entered (get_or all j 0) (get_or all m 0) (get_or all n 0)) (add-one j) (add-two j)
      ∙ ap (λ n. entered n (get_or all (suc j) 0) (get_or all (suc (suc j)) 0)) x ∙ ap₂ (entered a) y z

-- ---- all entries

pub opens-in-length : (row : List ℕ) (k c : ℕ) → length (opens_in row k c) ≡ c
unfolding opens_in
opens-in-length row k zero = refl
opens-in-length row k (suc c) = ap suc (opens-in-length row (suc k) c)

-- rows that are alike at the entries' places
pub opens-in-alike : (row row' : List ℕ) (k c : ℕ) → ((j : ℕ) → j < 3 * c → get_or row (3 * k + j) 0 ≡ get_or row' (3 * k + j) 0) → opens_in row k c ≡ opens_in row' k c
unfolding opens_in
opens-in-alike row row' k zero h = refl
opens-in-alike row row' k (suc c) h =
    let first : get_or row (3 * k) 0 ≡ get_or row' (3 * k) 0 = ap (λ n. get_or row n 0) (sym (add-zero (3 * k))) ∙ h 0 (omega arith) ∙ ap (λ n. get_or row' n 0) (add-zero (3 * k)) in
    ap₂ ◌∷◌
    (ap (λ n. entered n (get_or row (3 * k + 1) 0) (get_or row (3 * k + 2) 0)) first ∙ ap₂ (entered (get_or row' (3 * k) 0)) (h 1 (omega arith)) (h 2 (omega arith)))
    (opens-in-alike row row' (suc k) c (λ j less.
    let same : 3 * suc k + j ≡ 3 * k + (3 + j) = omega arith in
    ap (λ n. get_or row n 0) same ∙ h (3 + j) (omega arith) ∙ ap (λ n. get_or row' n 0) (sym same)))

read-entry : (row : List ℕ) (k a b c : ℕ) (os : List Open) (o : Open) → 3 * (k + suc (length os)) ≤ length row → entered a b c ≡ o
    → ((r : List ℕ) → 3 * (suc k + length os) ≤ length r → opens_in (sets r (3 * suc k) (entries os)) (suc k) (length os) ≡ os)
    → opens_in (sets row (3 * k) (a ∷ b ∷ c ∷ entries os)) k (suc (length os)) ≡ o ∷ os
unfolding opens_in
read-entry row k a b c os o h e next =
    let fits : 3 * k + 3 ≤ length row = omega arith in
    let r = entire row k a b c fits in
    let at : suc (suc (suc (3 * k))) ≡ 3 * suc k = omega arith in
    ap₂ ◌∷◌ (entry-again row k a b c fits (entries os) ∙ e)
    (ap (λ n. opens_in (sets r n (entries os)) (suc k) (length os)) at ∙ next r (omega (arith, length-entire row k a b c fits)))

pub read_back : (os : List Open) (row : List ℕ) (k : ℕ) → 3 * (k + length os) ≤ length row → Known InOrder os → opens_in (sets row (3 * k) (entries os)) k (length os) ≡ os
unfolding opens_in entries
read_back [] row k h q = refl
read_back (running i ∷ os) row k h q = read-entry row k i 1 0 os (running i) h (running-again i) (λ r s. read_back os r (suc k) s q)
read_back (known i p ∷ os) row k h q = read-entry row k i (p Down) (p Up) os (known i p) h (known-again i p q.0) (λ r s. read_back os r (suc k) s q.1)
