-- Saved work: what check 10 shows of it, its size, and that what is written is read again.
use Prim.Native.Nat.{ℕ, zero, suc, ◌+◌, ◌*◌, ◌^◌, ◌≤◌, ◌<◌}
use mathlib.Core.Path.{◌≡◌, refl, sym, ap, ap₂, ◌∙◌}
use mathlib.Core.List.{List, [], ◌∷◌, ◌++◌, append-nil}
use mathlib.Core.Logic.{◌⊎◌, inl, inr, ⊎_elim}
use mathlib.Core.Bool.{Bool, true, false, ◌&&◌, ◌||◌}
use native.Mathlib.Nat.{add-zero}
use native.Mathlib.Omega.{arith}
use lib.Dec.{eqb, leb}
use lib.ListN.{length, take, drop, get_or, replicate, length-append}
use lib.Seq.{sets, sets-eq}
use borrow.Author.Tests.{le-leb, eqb-true, leb-true}
use Rattle.rounding.specs.Rounding.{S}
use Rattle.rounding.specs.declared.Direction.{Direction}
use Rattle.rounding.specs.declared.Direction.TheVariants.{Down, Up}
use Rattle.words.specs.Words.{word32, le2, le4}
use Rattle.words.specs.ReadBack.{whole32, behind32}
use Rattle.reliability.specs.declared.Figure.{Figure}
use Rattle.answers.specs.Answers.{answer_bytes}
use Rattle.sittings.specs.Sittings.{Open, running, known, begun, complete, nothing, most}
use Rattle.sittings.specs.Entries.{entries, pair, entered, Known, InRange, InOrder}
use Rattle.sittings.proofs.Asides.{entries-length}
use Rattle.sittings.proofs.Rows.{running-again, known-again}
use Rattle.saved.specs.Format.{count_in, state_in, taken_in, place_in, pair_low, pair_high, opens_from, opens_of, pair_allowed, pairs_allowed, begun_well, complete_well, well_formed, words, places, pairs, saved_bytes, row_places, row_pairs, begun_bytes}
use Rattle.saved.proofs.Reading.{allowed-ordered, begun-pairs, formed-begun}

-- ---- what check 10 shows

and-true : (s t : Bool) → s && t ≡ true → (s ≡ true) × (t ≡ true)
and-true true t e = (refl, e)
and-true false t e = let z : ◌≡◌ {A = ℕ} 0 1 = cc in absurd (omega arith)

or-true : (s t : Bool) → s || t ≡ true → (s ≡ true) ⊎ (t ≡ true)
or-true true t e = inl refl
or-true false t e = inr e

pub record BegunWork (b : List ℕ) : Type 0 where
  pub few : count_in b ≤ 64
  pub size : length b ≡ 8 + 12 * count_in b
  pub steps : taken_in b ≤ most
  pub range : Known InRange (opens_of b)
  pub order : Known InOrder (opens_of b)

pub record CompleteWork (b : List ℕ) : Type 0 where
  pub state : state_in b ≡ 1
  pub none : count_in b ≡ 0
  pub size : length b ≡ 24
  pub steps : taken_in b ≤ most

-- an open split is known exactly where its low is at most its high
known-entered : (Q : (Direction → ℕ) → Type 0) (i low high : ℕ) (os : List Open) → (low ≤ high → Q (pair low high)) → Known Q os → Known Q (entered i low high ∷ os)
unfolding entered
known-entered Q i low high os q rest = go (leb low high) (leb-true low high)
  where
    go : (t : Bool) → (t ≡ true → low ≤ high) → Known Q (elim t [ true ↦ known i (pair low high) | false ↦ running i ] ∷ os)
    go true h = (q (h refl), rest)
    go false h = rest

in_range : (low high : ℕ) → pair_allowed low high ≡ true → low ≤ high → InRange (pair low high)
in_range low high e h Down = omega (arith, leb-true high S (allowed-ordered low high h ∙ e))
in_range low high e h Up = leb-true high S (allowed-ordered low high h ∙ e)

pairs-range : (b : List ℕ) (i k : ℕ) → pairs_allowed b i k ≡ true → Known InRange (opens_from b i k)
unfolding pairs_allowed opens_from
pairs-range b i zero e = tt
pairs-range b i (suc k) e =
    let (one, rest) = and-true (pair_allowed (pair_low b i) (pair_high b i)) (pairs_allowed b (suc i) k) e in
    known-entered InRange (place_in b i) (pair_low b i) (pair_high b i) (opens_from b (suc i) k) (in_range (pair_low b i) (pair_high b i) one) (pairs-range b (suc i) k rest)

pairs-order : (b : List ℕ) (i k : ℕ) → Known InOrder (opens_from b i k)
unfolding opens_from
pairs-order b i zero = tt
pairs-order b i (suc k) = known-entered InOrder (place_in b i) (pair_low b i) (pair_high b i) (opens_from b (suc i) k) (λ h. h) (pairs-order b (suc i) k)

-- the parts of check 10: the steps, and begun or complete
parts : (b : List ℕ) → well_formed b ≡ true → (taken_in b ≤ most) × ((begun_well b ≡ true) ⊎ (complete_well b ≡ true))
unfolding well_formed
parts b e =
    let (front, which) = and-true (leb 8 (length b) && leb (taken_in b) most) (begun_well b || complete_well b) e in
    (leb-true (taken_in b) most (and-true (leb 8 (length b)) (leb (taken_in b) most) front).1, or-true (begun_well b) (complete_well b) which)

begun-parts : (b : List ℕ) → begun_well b ≡ true → (state_in b ≡ 0) × (taken_in b ≤ most → BegunWork b)
unfolding begun_well
begun-parts b e =
    let (front, allowed) = and-true (eqb (state_in b) 0 && leb (count_in b) 64 && eqb (length b) (8 + 12 * count_in b)) (pairs_allowed b 0 (count_in b)) e in
    let (first, long) = and-true (eqb (state_in b) 0 && leb (count_in b) 64) (eqb (length b) (8 + 12 * count_in b)) front in
    let (zeros, few) = and-true (eqb (state_in b) 0) (leb (count_in b) 64) first in (
      eqb-true (state_in b) 0 zeros,
      λ steps. record { few = leb-true (count_in b) 64 few; size = eqb-true (length b) (8 + 12 * count_in b) long; steps = steps; range = pairs-range b 0 (count_in b) allowed; order = pairs-order b 0 (count_in b) },
    )

complete-parts : (b : List ℕ) → complete_well b ≡ true → taken_in b ≤ most → CompleteWork b
unfolding complete_well
complete-parts b e steps =
    let (front, long) = and-true (eqb (state_in b) 1 && eqb (count_in b) 0) (eqb (length b) 24) e in
    let (one, none) = and-true (eqb (state_in b) 1) (eqb (count_in b) 0) front in
    record { state = eqb-true (state_in b) 1 one; none = eqb-true (count_in b) 0 none; size = eqb-true (length b) 24 long; steps = steps }

pub begun-means : (b : List ℕ) → well_formed b ≡ true → state_in b ≡ 0 → BegunWork b
begun-means b e z = ⊎_elim (λ w. (begun-parts b w).1 steps) (λ w. let f = complete-parts b w steps in absurd (omega arith)) (parts b e).1
  where
    steps : taken_in b ≤ most
    steps = (parts b e).0

pub complete-means : (b : List ℕ) → well_formed b ≡ true → (state_in b ≡ 0 → ⊥) → CompleteWork b
complete-means b e h = ⊎_elim (λ w. absurd (h (begun-parts b w).0)) (λ w. complete-parts b w (parts b e).0) (parts b e).1

-- eight bytes at least, and begun where it is not complete
pub formed-size : (b : List ℕ) → well_formed b ≡ true → 8 ≤ length b
unfolding well_formed
formed-size b e =
    let front = (and-true (leb 8 (length b) && leb (taken_in b) most) (begun_well b || complete_well b) e).0 in
    leb-true 8 (length b) (and-true (leb 8 (length b)) (leb (taken_in b) most) front).0

pub begun-else : (b : List ℕ) → well_formed b ≡ true → (state_in b ≡ 1 → ⊥) → state_in b ≡ 0
begun-else b e h = ⊎_elim (λ w. (begun-parts b w).0) (λ w. absurd (h (complete-parts b w (parts b e).0).state)) (parts b e).1

-- ---- sizes

pub words_size : (xs : List ℕ) → length (words xs) ≡ 4 * length xs
unfolding words
words_size [] = refl
words_size (x ∷ xs) = omega (arith, words_size xs)

place-count : (os : List Open) → length (places os) ≡ length os
unfolding places
place-count [] = refl
place-count (running i ∷ os) = ap suc (place-count os)
place-count (known i k ∷ os) = ap suc (place-count os)

pair-count : (os : List Open) → length (pairs os) ≡ 2 * length os
unfolding pairs
pair-count [] = refl
pair-count (running i ∷ os) = omega (arith, pair-count os)
pair-count (known i k ∷ os) = omega (arith, pair-count os)

pub begun-size : (os : List Open) (n : ℕ) → length (saved_bytes (begun os n)) ≡ 8 + 12 * length os
unfolding saved_bytes
begun-size os n = omega (arith, length-append (words (places os)) (words (pairs os)), words_size (places os), words_size (pairs os), place-count os, pair-count os)

pub complete-size : (f : Figure) → length (saved_bytes (complete f)) ≡ 24
unfolding saved_bytes
complete-size f = refl

-- ---- the bytes of a row are those of its open splits

module _ (a b c : ℕ) (row : List ℕ) where
  -- a split more in front
  places_behind : (i k : ℕ) → row_places (a ∷ b ∷ c ∷ row) (suc i) k ≡ row_places row i k
  unfolding row_places
  places_behind i zero = refl
  places_behind i (suc k) =
      let at : 3 * suc i ≡ suc (suc (suc (3 * i))) = omega arith in
      rw (at, places_behind (suc i) k) refl

  pairs-behind : (i k : ℕ) → row_pairs (a ∷ b ∷ c ∷ row) (suc i) k ≡ row_pairs row i k
  unfolding row_pairs
  pairs-behind i zero = refl
  pairs-behind i (suc k) =
      let low : 3 * suc i + 1 ≡ suc (suc (suc (3 * i + 1))) = omega arith in
      let high : 3 * suc i + 2 ≡ suc (suc (suc (3 * i + 2))) = omega arith in
      rw (low, high, pairs-behind (suc i) k) refl

row-places : (os : List Open) (rest : List ℕ) → row_places (entries os ++ rest) 0 (length os) ≡ places os
unfolding entries places row_places
row-places [] rest = refl
row-places (running i ∷ os) rest = ap (λ l. i ∷ l) (places_behind i 1 0 (entries os ++ rest) 0 (length os) ∙ row-places os rest)
row-places (known i k ∷ os) rest = ap (λ l. i ∷ l) (places_behind i (k Down) (k Up) (entries os ++ rest) 0 (length os) ∙ row-places os rest)

row-pairs : (os : List Open) (rest : List ℕ) → row_pairs (entries os ++ rest) 0 (length os) ≡ pairs os
unfolding entries pairs row_pairs
row-pairs [] rest = refl
row-pairs (running i ∷ os) rest = ap (λ l. 1 ∷ 0 ∷ l) (pairs-behind i 1 0 (entries os ++ rest) 0 (length os) ∙ row-pairs os rest)
row-pairs (known i k ∷ os) rest = ap (λ l. k Down ∷ k Up ∷ l) (pairs-behind i (k Down) (k Up) (entries os ++ rest) 0 (length os) ∙ row-pairs os rest)

pub begun-bytes : (os : List Open) (row : List ℕ) (n : ℕ) → 3 * length os ≤ length row → begun_bytes (sets row 0 (entries os)) (length os) n ≡ saved_bytes (begun os n)
unfolding saved_bytes
begun-bytes os row n h =
    let whole = sets-eq (entries os) row 0 (omega (arith, entries-length os)) in
    let rest = drop (0 + length (entries os)) row in
    ap (λ r. begun_bytes r (length os) n) whole
    ∙ rw (row-places os rest, row-pairs os rest) refl

-- ---- what is written is read again

-- numbers of 32 bits
abbrev pub Fit : List ℕ → Type 0
Fit [] = Unit {0}
Fit (x ∷ xs) = (x < 2 ^ 32) × Fit xs

-- number i of those written
word-again : (xs q : List ℕ) (i : ℕ) → Fit xs → i < length xs → word32 (words xs ++ q) (4 * i) ≡ get_or xs i 0
unfolding words
word-again [] q i fit h = absurd (omega arith)
word-again (x ∷ xs) q zero fit h = whole32 x (words xs ++ q) fit.0
word-again (x ∷ xs) q (suc i) fit h = behind32 (le4 x) (words xs ++ q) (4 * suc i) (4 * i) (omega arith) ∙ word-again xs q i fit.1 (omega arith)

pair-fit : (os : List Open) → Known InRange os → Fit (pairs os)
unfolding pairs
pair-fit [] q = tt
pair-fit (running i ∷ os) q = (omega arith, (omega arith, pair-fit os q))
pair-fit (known i k ∷ os) q = (omega (arith, q.0 Down), (omega (arith, q.0 Up), pair-fit os q.1))

-- from number i on the bytes hold these open splits
abbrev Holds : List ℕ → ℕ → List Open → Type 0
Holds b i os = (j : ℕ) → j < length os → (place_in b (i + j) ≡ get_or (places os) j 0) × (pair_low b (i + j) ≡ get_or (pairs os) (2 * j) 0) × (pair_high b (i + j) ≡ get_or (pairs os) (2 * j + 1) 0)

-- the first of them, and the others
module _ (b : List ℕ) (i p low high : ℕ) (ps qs : List ℕ) (k : ℕ)
    (h : (j : ℕ) → j < suc k → (place_in b (i + j) ≡ get_or (p ∷ ps) j 0) × (pair_low b (i + j) ≡ get_or (low ∷ high ∷ qs) (2 * j) 0) × (pair_high b (i + j) ≡ get_or (low ∷ high ∷ qs) (2 * j + 1) 0)) where
  first : (place_in b i ≡ p) × (pair_low b i ≡ low) × (pair_high b i ≡ high)
  first = rw add-zero at (h 0 (omega arith))

  others : (j : ℕ) → j < k → (place_in b (suc i + j) ≡ get_or ps j 0) × (pair_low b (suc i + j) ≡ get_or qs (2 * j) 0) × (pair_high b (suc i + j) ≡ get_or qs (2 * j + 1) 0)
  others j l =
      let at : i + suc j ≡ suc i + j = omega arith in
      let even : 2 * suc j ≡ suc (suc (2 * j)) = omega arith in
      let odd : suc (suc (2 * j)) + 1 ≡ suc (suc (2 * j + 1)) = omega arith in
      rw (at, even, odd) at (h (suc j) (omega arith))

opens-again : (b : List ℕ) (os : List Open) (i : ℕ) → Holds b i os → Known InOrder os → opens_from b i (length os) ≡ os
unfolding opens_from places pairs
opens-again b [] i h order = refl
opens-again b (running p ∷ os) i h order =
    let (e, f, g) = first b i p 1 0 (places os) (pairs os) (length os) h in
    ap₂ ◌∷◌ (rw (e, f, g) (running-again p)) (opens-again b os (suc i) (others b i p 1 0 (places os) (pairs os) (length os) h) order)
opens-again b (known p k ∷ os) i h order =
    let (e, f, g) = first b i p (k Down) (k Up) (places os) (pairs os) (length os) h in
    ap₂ ◌∷◌ (rw (e, f, g) (known-again p k order.0)) (opens-again b os (suc i) (others b i p (k Down) (k Up) (places os) (pairs os) (length os) h) order.1)

pairs-again : (b : List ℕ) (os : List Open) (i : ℕ) → Holds b i os → Known InOrder os → Known InRange os → pairs_allowed b i (length os) ≡ true
unfolding pairs_allowed places pairs pair_allowed
pairs-again b [] i h order range = refl
pairs-again b (running p ∷ os) i h order range =
    let (e, f, g) = first b i p 1 0 (places os) (pairs os) (length os) h in
    rw (f, g) (pairs-again b os (suc i) (others b i p 1 0 (places os) (pairs os) (length os) h) order range)
pairs-again b (known p k ∷ os) i h order range =
    let (e, f, g) = first b i p (k Down) (k Up) (places os) (pairs os) (length os) h in
    rw (f, g, le-leb (k Down) (k Up) order.0, le-leb (k Up) S (range.0 Up)) (pairs-again b os (suc i) (others b i p (k Down) (k Up) (places os) (pairs os) (length os) h) order.1 range.1)

module _ (os : List Open) (n : ℕ) where
  abbrev written : List ℕ
  written = saved_bytes (begun os n)

  pub begun-state : state_in written ≡ 0
  unfolding saved_bytes
  begun-state = refl

  pub begun-taken : n < 2 ^ 32 → taken_in written ≡ n
  unfolding saved_bytes
  begun-taken h = whole32 n (words (places os) ++ words (pairs os)) h

  module _ (few : length os ≤ 64) where
    pub begun-count : count_in written ≡ length os
    unfolding saved_bytes
    begun-count = omega arith

    module _ (fit : Fit (places os)) (order : Known InOrder os) (range : Known InRange os) where
      holds : Holds written 0 os
      unfolding saved_bytes
      holds j l =
          let P = words (places os) in
          let Q = words (pairs os) in
          let sizes = le2 (length os) ++ le2 0 ++ le4 n in
          let front : length (sizes ++ P) ≡ 8 + 4 * length os = omega (arith, words_size (places os), place-count os) in
          let later : (at i : ℕ) → at ≡ 8 + 4 * length os + 4 * i → i < 2 * length os → word32 written at ≡ get_or (pairs os) i 0 =
          λ at i e less. behind32 (sizes ++ P) Q at (4 * i) (omega arith) ∙ ap (λ l. word32 l (4 * i)) (sym (append-nil Q)) ∙ word-again (pairs os) [] i (pair-fit os range) (omega (arith, pair-count os)) in (
            behind32 sizes (P ++ Q) (8 + 4 * (0 + j)) (4 * j) (omega arith) ∙ word-again (places os) Q j fit (omega (arith, place-count os)),
            later (8 + 4 * count_in written + 8 * (0 + j)) (2 * j) (omega (arith, begun-count)) (omega arith),
            later (8 + 4 * count_in written + 8 * (0 + j) + 4) (2 * j + 1) (omega (arith, begun-count)) (omega arith),
          )

      pub begun-opens : opens_of written ≡ os
      begun-opens = ap (opens_from written 0) begun-count ∙ opens-again written os 0 holds order

      pub begun-formed : n ≤ most → well_formed written ≡ true
      begun-formed h =
          let allowed : pairs_allowed written 0 (count_in written) ≡ true = ap (pairs_allowed written 0) begun-count ∙ pairs-again written os 0 holds order range in
          let size : length written ≡ 8 + 12 * count_in written = omega (arith, begun-size os n, begun-count) in
          let well : begun_well written ≡ true = sym (begun-pairs written begun-state (omega (arith, begun-count)) size) ∙ allowed in
          sym (formed-begun written (omega (arith, begun-size os n)) (omega (arith, begun-taken (omega arith))) well)

module _ (f : Figure) where
  pub complete-count : count_in (saved_bytes (complete f)) ≡ 0
  unfolding saved_bytes
  complete-count = refl

  pub complete-state : state_in (saved_bytes (complete f)) ≡ 1
  unfolding saved_bytes
  complete-state = refl

  pub complete-taken : f.steps < 2 ^ 32 → taken_in (saved_bytes (complete f)) ≡ f.steps
  unfolding saved_bytes
  complete-taken h = whole32 f.steps (answer_bytes f) h

  pub complete-answer : take 16 (drop 8 (saved_bytes (complete f))) ≡ answer_bytes f
  unfolding saved_bytes
  complete-answer = refl

  pub complete-formed : f.steps ≤ most → well_formed (saved_bytes (complete f)) ≡ true
  unfolding saved_bytes well_formed begun_well complete_well
  complete-formed h = rw (le-leb (taken_in (saved_bytes (complete f))) most (omega (arith, complete-taken (omega arith)))) refl

-- ---- a first sitting is handed eight zero bytes

abbrev pub zeros : List ℕ
zeros = replicate 8 0

pub zeros-nothing : saved_bytes nothing ≡ zeros
unfolding saved_bytes words places pairs
zeros-nothing = refl

pub zeros-formed : well_formed zeros ≡ true
unfolding well_formed begun_well pairs_allowed
zeros-formed = refl

pub zeros-opens : opens_of zeros ≡ []
unfolding opens_from
zeros-opens = refl

pub zeros-taken : taken_in zeros ≡ 0
zeros-taken = refl
