-- Check 10, test by test, and open splits read into a row.
use Prim.Native.Nat.{ℕ, zero, suc, ◌+◌, ◌*◌, ◌-◌, ◌≤◌, ◌<◌}
use mathlib.Core.Path.{◌≡◌, refl, sym, ap, ◌∙◌}
use mathlib.Core.List.{List, ◌∷◌}
use mathlib.Core.Bool.{Bool, true, false, ◌&&◌, ◌||◌}
use native.Mathlib.Numerals.{add-one}
use native.Mathlib.Omega.{arith}
use lib.Dec.{eqb, leb}
use lib.ListN.{length, get_or, set, length-set}
use lib.Seq.{get_or-set_same, get_or-set_other}
use borrow.Author.Count.{below_more}
use borrow.Author.Tests.{le-leb, eq-eqb, eqb-true}
use Rattle.rounding.specs.Rounding.{S}
use Rattle.words.specs.Words.{word32}
use Rattle.sittings.specs.Sittings.{most}
use Rattle.sittings.specs.Entries.{entered, opens_in}
use Rattle.saved.specs.Format.{count_in, state_in, taken_in, place_in, pair_low, pair_high, opens_from, pair_allowed, pairs_allowed, begun_well, well_formed}

-- ---- a pair

-- a pair in order is no running mark
ordered : (low high : ℕ) → low ≤ high → eqb low 1 && eqb high 0 ≡ false
ordered low high h = go (eqb low 1) (eqb high 0) refl refl
  where
    go : (s t : Bool) → eqb low 1 ≡ s → eqb high 0 ≡ t → s && t ≡ false
    go true true p q = absurd (omega (arith, eqb-true low 1 p, eqb-true high 0 q))
    go true false p q = refl
    go false t p q = refl

or-false : (t : Bool) → t || false ≡ t
or-false true = refl
or-false false = refl

pub allowed-ordered : (low high : ℕ) → low ≤ high → leb high S ≡ pair_allowed low high
unfolding pair_allowed
allowed-ordered low high h = rw (le-leb low high h, ordered low high h) (sym (or-false (leb high S)))

-- ---- pairs

-- pair i, read at its place, and the pairs behind it
module _ (b : List ℕ) (c i low high : ℕ) (t : Bool) (count : c ≡ count_in b) (below : i < c) (low_read : low ≡ word32 b (8 + 4 * c + 8 * i)) (high_read : high ≡ word32 b (8 + 4 * c + 8 * i + 4)) (test : t ≡ pair_allowed low high) where
  next : pairs_allowed b i (c - i) ≡ t && pairs_allowed b (i + 1) (c - (i + 1))
  unfolding pairs_allowed
  next =
      let one : pair_allowed (pair_low b i) (pair_high b i) ≡ t = ap (λ n. pair_allowed (word32 b (8 + 4 * n + 8 * i)) (word32 b (8 + 4 * n + 8 * i + 4))) (sym count) ∙ cc in
      let more : c - i ≡ suc (c - (i + 1)) = omega arith in
      ap (pairs_allowed b i) more ∙ rw (one, add-one) refl

  pub pair-refused : t ≡ false → false ≡ pairs_allowed b i (c - i)
  pair-refused e = sym (next ∙ ap (λ u. u && pairs_allowed b (i + 1) (c - (i + 1))) e)

  pub pair-passed : t ≡ true → pairs_allowed b i (c - i) ≡ pairs_allowed b (i + 1) (c - (i + 1))
  pair-passed e = next ∙ ap (λ u. u && pairs_allowed b (i + 1) (c - (i + 1))) e

pub pairs-passed : (b : List ℕ) (i k : ℕ) → k ≡ 0 → pairs_allowed b i k ≡ true
unfolding pairs_allowed
pairs-passed b i k e = ap (pairs_allowed b i) e

-- ---- the whole

pub begun-pairs : (b : List ℕ) → state_in b ≡ 0 → count_in b ≤ 64 → length b ≡ 8 + 12 * count_in b → pairs_allowed b 0 (count_in b) ≡ begun_well b
unfolding begun_well
begun-pairs b state few size = rw (eq-eqb (state_in b) 0 state, le-leb (count_in b) 64 few, eq-eqb (length b) (8 + 12 * count_in b) size) refl

pub formed-begun : (b : List ℕ) → 8 ≤ length b → taken_in b ≤ most → begun_well b ≡ true → true ≡ well_formed b
unfolding well_formed
formed-begun b size h e = rw (le-leb 8 (length b) size, le-leb (taken_in b) most h, e) refl

-- ---- open splits into a row

-- place j of the row holds open split j
abbrev pub Held : List ℕ → List ℕ → ℕ → Type 0
Held b row j = (get_or row (3 * j) 0 ≡ place_in b j) × (get_or row (3 * j + 1) 0 ≡ pair_low b j) × (get_or row (3 * j + 2) 0 ≡ pair_high b j)

pub row_opens : (b row : List ℕ) (i k : ℕ) → ((j : ℕ) → j < i + k → Held b row j) → opens_in row i k ≡ opens_from b i k
unfolding opens_in opens_from
row_opens b row i zero h = refl
row_opens b row i (suc k) h =
    let (place, low, high) = h i (omega arith) in
    rw (place, low, high) (ap (λ os. entered (place_in b i) (pair_low b i) (pair_high b i) ∷ os) (row_opens b row (suc i) k (λ j l. h j (omega arith))))

-- three numbers stored at place i
module _ (b row : List ℕ) (c i x y z : ℕ) (size : length row ≡ 192) (below : i < 64) (count : c ≡ count_in b) (place : x ≡ word32 b (8 + 4 * i)) (low : y ≡ word32 b (8 + 4 * c + 8 * i)) (high : z ≡ word32 b (8 + 4 * c + 8 * i + 4)) where
  abbrev stored : List ℕ
  stored = set (set (set row (3 * i) x) (3 * i + 1) y) (3 * i + 2) z

  kept : (n : ℕ) → n < 3 * i → get_or stored n 0 ≡ get_or row n 0
  kept n h =
      get_or-set_other (set (set row (3 * i) x) (3 * i + 1) y) (3 * i + 2) n z 0 (λ e. omega arith)
      ∙ get_or-set_other (set row (3 * i) x) (3 * i + 1) n y 0 (λ e. omega arith)
      ∙ get_or-set_other row (3 * i) n x 0 (λ e. omega arith)

  own : Held b stored i
  own = (
    get_or-set_other (set (set row (3 * i) x) (3 * i + 1) y) (3 * i + 2) (3 * i) z 0 (λ e. omega arith) ∙ get_or-set_other (set row (3 * i) x) (3 * i + 1) (3 * i) y 0 (λ e. omega arith) ∙ get_or-set_same row (3 * i) x 0 (omega arith) ∙ place,
    get_or-set_other (set (set row (3 * i) x) (3 * i + 1) y) (3 * i + 2) (3 * i + 1) z 0 (λ e. omega arith) ∙ get_or-set_same (set row (3 * i) x) (3 * i + 1) y 0 (simp length-set (omega arith)) ∙ low ∙ ap (λ n. word32 b (8 + 4 * n + 8 * i)) count,
    get_or-set_same (set (set row (3 * i) x) (3 * i + 1) y) (3 * i + 2) z 0 (simp length-set (omega arith)) ∙ high ∙ ap (λ n. word32 b (8 + 4 * n + 8 * i + 4)) count,
  )

  pub held_more : ((j : ℕ) → j < i → Held b row j) → (j : ℕ) → j < i + 1 → Held b stored j
  held_more h = below_more (Held b stored) i (λ j l. (kept (3 * j) (omega arith) ∙ (h j l).0, kept (3 * j + 1) (omega arith) ∙ (h j l).1, kept (3 * j + 2) (omega arith) ∙ (h j l).2)) own
