-- Sets of places, place by place.
use Prim.Native.Nat.{ℕ, zero, suc, ◌+◌, ◌/◌, ◌%◌, ◌^◌, min, ◌≤◌, ◌<◌}
use mathlib.Core.Path.{◌≡◌, refl, sym, ap, ◌∙◌}
use mathlib.Core.List.Memᴰ
use mathlib.Core.List.{List, [], ◌∷◌, zip_with, Memᴰ}
use mathlib.Core.Bool.{Bool, true, false, cond, not, ◌&&◌, ◌||◌, true≢false}
use native.Mathlib.Nat.{pow-suc}
use native.Mathlib.Omega.{arith}
use native.Mathlib.Decide.{ℕ_discrete}
use lib.Dec.{eqb}
use lib.ListN.{length, get_or, set}
use lib.Seq.{get_or-set_same, get_or-set_other}
use lib.Pow.{pow_pos}
use borrow.Author.Tests.{eq-eqb, ne_eqb}
use Rattle.bits.specs.Members.{bit_of, digits, members}
use Rattle.bits.proofs.Places.{get_or-zip_with}
use Rattle.bits.proofs.Digits.{digit_of, lowest-digit, length_digits}
use Rattle.reliability.specs.Networks.{Ascending}
use Rattle.reliability.specs.Terminals.{has as listed}
use Rattle.reliability.proofs.Lists.{by_eqb}
use Rattle.reliability.proofs.Chosen.{has-mem as listed-mem}
use Rattle.search.specs.Searches.{pick, from, nodes_in, marked, touching, Incidence}

-- whether p is in the set s
abbrev pub has : ℕ → ℕ → Bool
has s p = get_or (members s) p false

-- nothing is in the empty set
none : (k p : ℕ) → get_or (digits k 0) p false ≡ false
unfolding digits
none zero p = refl
none (suc k) zero = refl
none (suc k) (suc p) = none k p

-- what is in a set below 2 ^ j is below j
within : (k j n p : ℕ) → n < 2 ^ j → get_or (digits k n) p false ≡ true → p < j
unfolding digits
within zero j n p h e = absurd (true≢false (sym e))
within (suc k) zero n p h e =
    let z : n ≡ 0 = omega arith in
    absurd (true≢false (sym e ∙ ap (λ (m : ℕ). get_or (digits (suc k) m) p false) z ∙ none (suc k) p))
within (suc k) (suc j) n zero h e = omega arith
within (suc k) (suc j) n (suc p) h e = omega (arith, within k j (n / 2) p (omega (arith, pow-suc 2 j)) e)

pub set_below : (bs : List Bool) (k : ℕ) → get_or bs k false ≡ true → k < length bs
set_below [] k e = absurd (true≢false (sym e))
set_below (b ∷ bs) zero e = omega arith
set_below (b ∷ bs) (suc k) e = omega (arith, set_below bs k e)

pub has-place : (s p : ℕ) → has s p ≡ true → p < 64
has-place s p e = omega (arith, set_below (members s) p e, length_digits 64 s)

pub has-none : (p : ℕ) → has 0 p ≡ false
has-none p = none 64 p

pub has-below : (s k p : ℕ) → s < 2 ^ k → has s p ≡ true → p < k
has-below s k p = within 64 k s p

-- a set whose places are all below j is below 2 ^ j
fits : (k j n : ℕ) → n < 2 ^ k → ((p : ℕ) → get_or (digits k n) p false ≡ true → p < j) → n < 2 ^ j
unfolding digits
fits zero j n l h = omega (arith, pow_pos j)
fits (suc k) zero n l h =
    let low : bit_of (n % 2) ≡ false = unset (bit_of (n % 2)) (h 0) in
    omega (arith, lowest-digit n, ap digit_of low, fits k zero (n / 2) (omega (arith, pow-suc 2 k)) (λ p e. absurd (omega (arith, h (suc p) e))))
  where
    unset : (b : Bool) → (b ≡ true → 0 < 0) → b ≡ false
    unset true h = absurd (omega (arith, h refl))
    unset false h = refl
fits (suc k) (suc j) n l h = omega (arith, pow-suc 2 j, fits k j (n / 2) (omega (arith, pow-suc 2 k)) (λ p e. omega (arith, h (suc p) e)))

pub has-fits : (s k : ℕ) → s < 2 ^ 64 → ((p : ℕ) → has s p ≡ true → p < k) → s < 2 ^ k
has-fits s k = fits 64 k s

-- one place put into a set, or taken out
has-set : (r s i : ℕ) (v : Bool) → members r ≡ set (members s) i v → i < 64 → (p : ℕ) → has r p ≡ cond (eqb p i) v (has s p)
has-set r s i v e h p =
    ap (λ (bs : List Bool). get_or bs p false) e
    ∙ by_eqb (λ b. get_or (set (members s) i v) p false ≡ cond b v (has s p)) p i
    (λ same. ap (λ (q : ℕ). get_or (set (members s) i v) q false) same ∙ get_or-set_same (members s) i v false (omega (arith, length_digits 64 s)))
    (λ other. get_or-set_other (members s) i p v false other)

pub has-with : (r s i : ℕ) → members r ≡ set (members s) i true → i < 64 → (p : ℕ) → has r p ≡ (eqb p i || has s p)
has-with r s i e h p = has-set r s i true e h p ∙ go (eqb p i) (has s p)
  where
    go : (b c : Bool) → cond b true c ≡ (b || c)
    go true c = refl
    go false c = refl

pub has-without : (r s i : ℕ) → members r ≡ set (members s) i false → i < 64 → (p : ℕ) → has r p ≡ (not (eqb p i) && has s p)
has-without r s i e h p = has-set r s i false e h p ∙ go (eqb p i) (has s p)
  where
    go : (b c : Bool) → cond b false c ≡ (not b && c)
    go true c = refl
    go false c = refl

pub same_length : (s t : ℕ) → length (members s) ≡ length (members t)
same_length s t = length_digits 64 s ∙ sym (length_digits 64 t)

-- an operation on two sets, at a place
pub has-zip : (g : Bool → Bool → Bool) → g false false ≡ false → (r s t : ℕ) → members r ≡ zip_with g (members s) (members t)
    → (p : ℕ) → has r p ≡ g (has s p) (has t p)
has-zip g z r s t e p = ap (λ (bs : List Bool). get_or bs p false) e ∙ get_or-zip_with g z (members s) (members t) (same_length s t) p

-- ---- the members of a set, listed

-- what stands at place p of the numbers from i on is i + p
pub from-mem : (bs : List Bool) (i k : ℕ) {u : ℕ} → Memᴰ u (pick bs (from i k)) → (p : ℕ) × (get_or bs p false ≡ true) × (u ≡ i + p)
unfolding pick from
from-mem [] i k m = absurd (Memᴰ.not-nil m)
from-mem (b ∷ bs) i zero m = absurd (Memᴰ.not-nil m)
from-mem (true ∷ bs) i (suc k) (Memᴰ.head e) = (0, refl, omega arith)
from-mem (true ∷ bs) i (suc k) (Memᴰ.tail m) = let r = from-mem bs (suc i) k m in (suc r.0, r.1, omega (arith, r.2))
from-mem (false ∷ bs) i (suc k) m = let r = from-mem bs (suc i) k m in (suc r.0, r.1, omega (arith, r.2))

-- the k numbers from i on: how many, and which
pub from-size : (i k : ℕ) → length (from i k) ≡ k
unfolding from
from-size i zero = refl
from-size i (suc k) = ap suc (from-size (suc i) k)

pub from-below : (i k v : ℕ) → Memᴰ v (from i k) → (i ≤ v) × (v < i + k)
unfolding from
from-below i (suc k) v (Memᴰ.head e) = (omega arith, omega arith)
from-below i (suc k) v (Memᴰ.tail m) = let r = from-below (suc i) k v m in (omega (arith, r.0), omega (arith, r.1))
from-below i zero v x' = elim x' [ ]

pub from-node : (i k v : ℕ) → i ≤ v → v < i + k → Memᴰ v (from i k)
unfolding from
from-node i zero v h l = absurd (omega arith)
from-node i (suc k) v h l = go (ℕ_discrete v i) (from-node (suc i) k v)
  where
    go : Dec (v ≡ i) → (suc i ≤ v → v < suc i + k → Memᴰ v (from (suc i) k)) → Memᴰ v (i ∷ from (suc i) k)
    go (yes e) later = Memᴰ.head e
    go (no n) later = Memᴰ.tail (later (omega arith) (omega arith))

-- the numbers from i on are in ascending order
pub ascending-from : (i k : ℕ) → Ascending (from i k)
unfolding from Ascending
ascending-from i zero = tt
ascending-from i (suc k) = (λ u m. omega (arith, (from-below (suc i) k u m).0), ascending-from (suc i) k)

-- the nodes of a set are in ascending order
pick-ascending : (bs : List Bool) (i k : ℕ) → Ascending (pick bs (from i k))
unfolding pick from Ascending
pick-ascending [] i k = tt
pick-ascending (b ∷ bs) i zero = tt
pick-ascending (true ∷ bs) i (suc k) = (λ u m. omega (arith, (from-mem bs (suc i) k m).2), pick-ascending bs (suc i) k)
pick-ascending (false ∷ bs) i (suc k) = pick-ascending bs (suc i) k

pub nodes-ascending : (s : ℕ) → Ascending (nodes_in s)
nodes-ascending s = pick-ascending (members s) 0 64

-- the nodes of a set are in it
pub mem-has : (s u : ℕ) → Memᴰ u (nodes_in s) → has s u ≡ true
mem-has s u m =
    let r = from-mem (members s) 0 64 m in
    let e : u ≡ r.0 = omega (arith, r.2) in
    rw e r.1

pick-early : (bs : List Bool) (i k v : ℕ) → v < i → listed v (pick bs (from i k)) ≡ false
unfolding pick from listed
pick-early [] i k v h = refl
pick-early (b ∷ bs) i zero v h = refl
pick-early (true ∷ bs) i (suc k) v h = rw (ne_eqb i v (λ e. omega arith)) (pick-early bs (suc i) k v (omega arith))
pick-early (false ∷ bs) i (suc k) v h = pick-early bs (suc i) k v (omega arith)

pick-listed : (bs : List Bool) (i k p v : ℕ) → v ≡ i + p → length bs ≤ k → listed v (pick bs (from i k)) ≡ get_or bs p false
unfolding pick from listed
pick-listed [] i k p v e h = refl
pick-listed (b ∷ bs) i zero p v e h = absurd (omega arith)
pick-listed (true ∷ bs) i (suc k) zero v e h = rw (eq-eqb i v (omega arith))
pick-listed (false ∷ bs) i (suc k) zero v e h = pick-early bs (suc i) k v (omega arith)
pick-listed (true ∷ bs) i (suc k) (suc p) v e h = rw (ne_eqb i v (λ q. omega arith)) (pick-listed bs (suc i) k p v (omega arith) (omega arith))
pick-listed (false ∷ bs) i (suc k) (suc p) v e h = pick-listed bs (suc i) k p v (omega arith) (omega arith)

-- a node is listed where it is in the set
pub listed_has : (s v : ℕ) → listed v (nodes_in s) ≡ has s v
listed_has s v = pick-listed (members s) 0 64 v v (omega arith) (omega (arith, length_digits 64 s))

pub has-mem : (s v : ℕ) → has s v ≡ true → Memᴰ v (nodes_in s)
has-mem s v e = listed-mem v (nodes_in s) (listed_has s v ∙ e)

-- ---- the places in use at which a test of the two ends holds

pub get_or-marked : (t : ℕ → ℕ → Bool) (us : List Bool) (as₁ bs : List ℕ) (p : ℕ) → length us ≤ length as₁ → length us ≤ length bs
    → get_or (marked t us as₁ bs) p false ≡ (get_or us p false && t (get_or as₁ p 0) (get_or bs p 0))
unfolding marked
get_or-marked t [] as₁ bs p h k = refl
get_or-marked t (u ∷ us) [] bs p h k = absurd (omega arith)
get_or-marked t (u ∷ us) (a ∷ as₁) [] p h k = absurd (omega arith)
get_or-marked t (u ∷ us) (a ∷ as₁) (b ∷ bs) zero h k = refl
get_or-marked t (u ∷ us) (a ∷ as₁) (b ∷ bs) (suc p) h k = get_or-marked t us as₁ bs p (omega arith) (omega arith)

pub length_marked : (t : ℕ → ℕ → Bool) (us : List Bool) (as₁ bs : List ℕ) → length (marked t us as₁ bs) ≡ min (length us) (min (length as₁) (length bs))
unfolding marked
length_marked t [] as₁ bs = omega arith
length_marked t (u ∷ us) [] bs = omega arith
length_marked t (u ∷ us) (a ∷ as₁) [] = omega arith
length_marked t (u ∷ us) (a ∷ as₁) (b ∷ bs) = omega (arith, length_marked t us as₁ bs)

module _ (at as₁ bs : List ℕ) (alive : ℕ) (incidence : Incidence at alive as₁ bs) where
  -- the ends have all 64 places
  pub full : (64 ≤ length as₁) × (64 ≤ length bs)
  full =
      let e : 64 ≡ length (marked (touching 0) (members alive) as₁ bs) = sym (length_digits 64 (get_or at 0 0)) ∙ ap length (incidence 0 (omega arith)) in
      let r = length_marked (touching 0) (members alive) as₁ bs in
      (omega arith, omega arith)

  -- the places at a node
  pub at-node : (v : ℕ) → v < 32 → (p : ℕ) → has (get_or at v 0) p ≡ (has alive p && touching v (get_or as₁ p 0) (get_or bs p 0))
  at-node v h p =
      ap (λ (us : List Bool). get_or us p false) (incidence v h)
      ∙ get_or-marked (touching v) (members alive) as₁ bs p (omega (arith, length_digits 64 alive, full)) (omega (arith, length_digits 64 alive, full))
