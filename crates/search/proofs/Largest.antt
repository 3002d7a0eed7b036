-- The search for the largest sum, and the counts of the nodes, turn by turn.
use Prim.Native.Nat.{ℕ, zero, suc, ◌+◌, max, ◌^◌, ◌≤◌, ◌<◌}
use mathlib.Core.Path.{◌≡◌, refl, sym, ap, ap₂, ◌∙◌}
use mathlib.Core.List.Memᴰ
use mathlib.Core.List.{List, [], ◌∷◌, map, Memᴰ}
use mathlib.Core.Bool.{Bool, true, false, cond, not, ◌&&◌}
use native.Mathlib.Nat.{zero-add}
use native.Mathlib.Omega.{arith}
use lib.Dec.{eqb, leb}
use lib.ListN.{length, get_or, set}
use lib.Seq.{get_or-set_same, get_or-set_other}
use borrow.Author.Tests.{eq-eqb, ne_eqb, le-leb, lt-leb, leb-true, leb-false}
use Rattle.bits.specs.Members.{digits, members, first_of, how_many}
use Rattle.bits.proofs.Digits.{length_digits}
use Rattle.reliability.proofs.Lists.{by_eqb, filter-here, filter-past, mem-filter}
use Rattle.reliability.proofs.LargestSum.{attained}
use Rattle.std.specs.Prelude.{Some}
use Rattle.search.specs.Searches.{from, places_in, filter, found, count_at, counts_of, largest, largest_in}
use Rattle.search.proofs.Sets.{has, has-below, has-without}
use Rattle.search.proofs.Marks.{indices, Lowest, lowest-of, lowest-below, lowest-first, none-listed}

first-none : first_of (members 0) ≡ 64
unfolding digits
first-none = refl

-- ---- the counts

count_most : (bs : List Bool) → how_many bs ≤ length bs
count_most [] = omega arith
count_most (true ∷ bs) = omega (arith, count_most bs)
count_most (false ∷ bs) = omega (arith, count_most bs)

pub places-most : (s : ℕ) → how_many (members s) ≤ 64
places-most s = omega (arith, count_most (members s), length_digits 64 s)

-- a list is given by what stands at its places
all-places : (f : ℕ → ℕ) (l : List ℕ) (i : ℕ) → ((v : ℕ) → v < length l → get_or l v 0 ≡ f (i + v)) → l ≡ map f (from i (length l))
unfolding from
all-places f [] i h = refl
all-places f (x ∷ l) i h = ap₂ (λ (y : ℕ) (m : List ℕ). y ∷ m) (h 0 (omega arith) ∙ ap f (let e : i + 0 ≡ i = omega arith in e))
    (all-places f l (suc i) (λ v k. h (suc v) (omega arith) ∙ ap f (let e : i + suc v ≡ suc i + v = omega arith in e)))

at_place : (f : ℕ → ℕ) (i k v : ℕ) → v < k → get_or (map f (from i k)) v 0 ≡ f (i + v)
unfolding from
at_place f i zero v h = absurd (omega arith)
at_place f i (suc k) zero h = ap f (let e : i ≡ i + 0 = omega arith in e)
at_place f i (suc k) (suc v) h = at_place f (suc i) k v (omega arith) ∙ ap f (let e : suc i + v ≡ i + suc v = omega arith in e)

-- the count of a node is its number of links
pub counted : (nodes : ℕ) (at : List ℕ) → nodes < 2 ^ 32 → (v : ℕ) → has nodes v ≡ true → get_or (counts_of nodes at) v 0 ≡ how_many (members (get_or at v 0))
counted nodes at h v e =
    at_place (count_at nodes at) 0 32 v (has-below nodes 32 v h e) ∙ ap (count_at nodes at) (zero-add v) ∙ ap (λ (b : Bool). cond b (how_many (members (get_or at v 0))) 0) e

pub all-counted : (nodes : ℕ) (at counts : List ℕ) → length counts ≡ 32 → ((v : ℕ) → v < 32 → get_or counts v 0 ≡ count_at nodes at v) → counts ≡ counts_of nodes at
all-counted nodes at counts e h =
    all-places (count_at nodes at) counts 0 (λ v k. h v (omega arith) ∙ ap (count_at nodes at) (sym (zero-add v))) ∙ ap (λ (k : ℕ). map (count_at nodes at) (from 0 k)) e

-- a turn: the count of the lowest node k of t is written, and r is the rest of t
pub count_turn : (counts : List ℕ) (count : ℕ → ℕ) (t k : ℕ) → Lowest t k → (r : ℕ) → members r ≡ set (members t) (first_of (members t)) false → (v : ℕ)
    → k < length counts → {x : ℕ} → x ≡ count k → (has t v ≡ false → get_or counts v 0 ≡ count v) → has r v ≡ false → get_or (set counts k x) v 0 ≡ count v
count_turn counts count t k l r rest v h {x} is before gone =
    by_eqb (λ b. (not b && has t v) ≡ false → get_or (set counts k x) v 0 ≡ count v) v k
    (λ same g. ap (λ (w : ℕ). get_or (set counts k x) w 0) same ∙ get_or-set_same counts k x 0 h ∙ is ∙ ap count (sym same))
    (λ other g. get_or-set_other counts k v x 0 other ∙ before g)
    (sym (has-without r t k (rest ∙ ap (λ (i : ℕ). set (members t) i false) (sym l.first)) (lowest-below t k l) v) ∙ gone)

-- ---- the largest sum

module _ (sum : ℕ → ℕ) where
  -- the first of a list is the answer, or one behind it
  here : (k : ℕ) (ks : List ℕ) → leb (largest sum ks) (sum k) ≡ true → filter (λ j. eqb (sum j) (max (sum k) (largest sum ks))) (k ∷ ks) ≡ k ∷ filter (λ j. eqb (sum j) (max (sum k) (largest sum ks))) ks
  here k ks h =
      let top : max (sum k) (largest sum ks) ≡ sum k = omega (arith, leb-true (largest sum ks) (sum k) h) in
      filter-here (λ j. eqb (sum j) (max (sum k) (largest sum ks))) k ks (eq-eqb (sum k) (max (sum k) (largest sum ks)) (sym top))

  past : (k : ℕ) (ks : List ℕ) → leb (largest sum ks) (sum k) ≡ false → filter (λ j. eqb (sum j) (max (sum k) (largest sum ks))) (k ∷ ks) ≡ filter (λ j. eqb (sum j) (largest sum ks)) ks
  past k ks h =
      let less = leb-false (largest sum ks) (sum k) h in
      let top : max (sum k) (largest sum ks) ≡ largest sum ks = omega arith in
      filter-past (λ j. eqb (sum j) (max (sum k) (largest sum ks))) k ks (ne_eqb (sum k) (max (sum k) (largest sum ks)) (λ e. omega arith))
      ∙ ap (λ (m : ℕ). filter (λ j. eqb (sum j) m) ks) top

  largest-next : (k : ℕ) (ks : List ℕ) (b : Bool) → leb (largest sum ks) (sum k) ≡ b → largest_in sum (k ∷ ks) ≡ cond b k (largest_in sum ks)
  unfolding largest
  largest-next k ks true h = ap (λ (l : List ℕ). get_or l 0 64) (here k ks h)
  largest-next k ks false h = ap (λ (l : List ℕ). get_or l 0 64) (past k ks h)

  -- best has the sum top, the largest so far; ks are left
  abbrev pub so_far : ℕ → ℕ → List ℕ → ℕ
  so_far best top ks = cond (leb (largest sum ks) top) best (largest_in sum ks)

  module _ (best top k : ℕ) (ks : List ℕ) where
    opened : (b : Bool) → leb (largest sum (k ∷ ks)) top ≡ b → (c : Bool) → leb (largest sum ks) (sum k) ≡ c → so_far best top (k ∷ ks) ≡ cond b best (cond c k (largest_in sum ks))
    opened b h c l = ap (λ (t : Bool). cond t best (largest_in sum (k ∷ ks))) h ∙ ap (cond b best) (largest-next k ks c l)

    -- its sum is larger
    pub so_far_more : top < sum k → {x y : ℕ} → x ≡ k → y ≡ sum k → so_far best top (k ∷ ks) ≡ so_far x y ks
    unfolding largest
    so_far_more h e f = opened false (lt-leb (largest sum (k ∷ ks)) top (omega arith)) _ refl ∙ ap₂ (λ (x y : ℕ). so_far x y ks) (sym e) (sym f)

    -- its sum is not larger
    pub so-far-on : sum k ≤ top → {x y : ℕ} → x ≡ best → y ≡ top → so_far best top (k ∷ ks) ≡ so_far x y ks
    unfolding largest
    so-far-on h e f = go (leb (largest sum ks) top) refl ∙ ap₂ (λ (x y : ℕ). so_far x y ks) (sym e) (sym f)
      where
        go : (b : Bool) → leb (largest sum ks) top ≡ b → so_far best top (k ∷ ks) ≡ cond b best (largest_in sum ks)
        go true l = opened true (le-leb (largest sum (k ∷ ks)) top (omega (arith, leb-true (largest sum ks) top l))) _ refl
        go false l =
            let more = leb-false (largest sum ks) top l in
            opened false (lt-leb (largest sum (k ∷ ks)) top (omega arith)) false (lt-leb (largest sum ks) (sum k) (omega arith))

  -- nothing is left
  pub so-far-ends : (best top : ℕ) (ks : List ℕ) → ks ≡ [] → so_far best top ks ≡ best
  unfolding largest
  so-far-ends best top ks e = ap (so_far best top) e ∙ ap (λ (b : Bool). cond b best (largest_in sum [])) (le-leb 0 top (omega arith))

  -- the first is the best at the start
  pub so-far-starts : (t : ℕ) → t < 2 ^ 64 → largest_in sum (places_in t) ≡ so_far (first_of (members t)) 0 (places_in t)
  unfolding largest filter
  so-far-starts zero h = rw (none-listed, first-none)
  so-far-starts (suc t) h =
      let l = lowest-of (suc t) (first_of (members (suc t))) (omega arith) h refl in
      rw (lowest-first (suc t) (first_of (members (suc t))) l) (go (first_of (members (suc t))) (indices (set (members (suc t)) (first_of (members (suc t))) false)))
    where
      go : (k : ℕ) (ks : List ℕ) → largest_in sum (k ∷ ks) ≡ so_far k 0 (k ∷ ks)
      go k ks = by (leb (largest sum (k ∷ ks)) 0) refl
        where
          by : (b : Bool) → leb (largest sum (k ∷ ks)) 0 ≡ b → largest_in sum (k ∷ ks) ≡ cond b k (largest_in sum (k ∷ ks))
          by true e = largest-next k ks true (le-leb (largest sum ks) (sum k) (omega (arith, leb-true (largest sum (k ∷ ks)) 0 e)))
          by false e = refl

  -- a list that is not empty has one
  pub largest-found : (ks : List ℕ) → 0 < length ks → found (filter (λ j. eqb (sum j) (largest sum ks)) ks) ≡ Some (largest_in sum ks)
  largest-found [] h = absurd (omega arith)
  largest-found (k ∷ ks) h =
      let (j, m, e) = attained sum k ks in
      go (filter (λ i. eqb (sum i) (largest sum (k ∷ ks))) (k ∷ ks)) (mem-filter (λ i. eqb (sum i) (largest sum (k ∷ ks))) (k ∷ ks) m (eq-eqb (sum j) (largest sum (k ∷ ks)) e))
    where
      go : (l : List ℕ) {j : ℕ} → Memᴰ j l → found l ≡ Some (get_or l 0 64)
      go [] m = absurd (Memᴰ.not-nil m)
      go (i ∷ l) m = refl
