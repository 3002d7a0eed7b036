-- The chosen link is one of the links, its sum is the largest, and every earlier one's is smaller.
use Prim.Native.Nat.{ℕ, zero, suc, ◌≤◌, ◌<◌}
use mathlib.Core.Path.{◌≡◌, refl, ap}
use mathlib.Core.List.{List, [], ◌∷◌, map, Memᴰ}
use mathlib.Core.Bool.{Bool, true, false}
use mathlib.Core.Option
use mathlib.Core.Option.{Option, some, none}
use native.Mathlib.Nat.{not-suc-le-zero, le_of_suc-le-suc}
use native.Mathlib.Omega.{arith}
use native.Mathlib.Decide.{dec_le}
use lib.Dec.{eqb}
use lib.ListN.{length}
use borrow.Author.Tests.{eqb-true, eqb-false}
use Rattle.reliability.specs.declared.Link.{Link}
use Rattle.reliability.specs.Networks.{Network, link_at}
use Rattle.reliability.specs.Rule.{first_at, places, degree, degree_sum, largest, largest_sum, chosen}
use Rattle.reliability.proofs.Lists.{getD-mem}
use Rattle.reliability.proofs.Pieces.{link}
use Rattle.reliability.proofs.Searches.{Answers, nth, Holds, Fails, first-at}

-- ---- links and the place of the chosen one: one proof computes them all from the definition

pub record Row : Type 0 where
  pub links : List Link
  pub place : ℕ

pub row : List Link → ℕ → Row
row es i = record { links = es; place = i }

pub rows : List Row
rows =
    row (link 0 1 0 ∷ link 1 2 0 ∷ link 0 2 0 ∷ []) 0  -- 4, 4, 4: of equal sums the earliest
    ∷ row (link 0 1 0 ∷ link 1 2 0 ∷ link 2 3 0 ∷ link 3 4 0 ∷ []) 1  -- 3, 4, 4, 3
    ∷ row (link 0 1 0 ∷ link 0 2 0 ∷ link 0 3 0 ∷ link 4 5 0 ∷ link 5 6 0 ∷ link 4 6 0 ∷ []) 0  -- 3 + 1 is no less than 2 + 2
    ∷ row (link 4 5 0 ∷ link 5 6 0 ∷ link 4 6 0 ∷ link 0 1 0 ∷ link 0 2 0 ∷ link 0 3 0 ∷ link 0 7 0 ∷ []) 3  -- 4 + 1 is more than 2 + 2
    ∷ []

pub choices : map (λ (r : Row). chosen (record { nodes = []; links = r.links })) rows ≡ map (λ (r : Row). r.place) rows
unfolding rows row link largest_sum largest degree places first_at
choices = refl

-- ---- what is chosen

-- no earlier place passes the test
module _ (p : Link → Bool) where
  abbrev Misses : List Link → ℕ → Type 0
  Misses es i = (j : ℕ) → j < i → p (nth es j) ≡ false

  misses-later : (e : Link) (es : List Link) (i : ℕ) → p e ≡ false → Misses es i → Misses (e ∷ es) (suc i)
  misses-later e es i t h zero k = t
  misses-later e es i t h (suc j) k = h j (le_of_suc-le-suc k)

  earlier : (es : List Link) → Answers (Misses es) (Unit {0}) (first_at p es)
  unfolding first_at
  earlier [] = tt
  earlier (e ∷ es) = go (p e) refl (first_at p es) (earlier es)
    where
      go : (t : Bool) → p e ≡ t → (o : Option ℕ) → Answers (Misses es) (Unit {0}) o → Answers (Misses (e ∷ es)) (Unit {0}) (elim t [ true ↦ some zero | false ↦ Option.map suc o ])
      go true t o h = λ j k. absurd (not-suc-le-zero k)
      go false t (some i) h = misses-later e es i t h
      go false t none h = tt

module _ {A : Type 0} (w : A → ℕ) where
  above : (xs : List A) (x : A) → Memᴰ x xs → w x ≤ largest w xs
  unfolding largest
  above (y ∷ xs) x (Memᴰ.head q) = omega (arith, ap w q)
  above (y ∷ xs) x (Memᴰ.tail m) = omega (arith, above xs x m)
  above [] x x3 = elim x3 [ ]

  abbrev pub Attained : List A → Type 0
  Attained xs = (x : A) × Memᴰ x xs × (w x ≡ largest w xs)

  -- the largest is attained
  pub attained : (x : A) (xs : List A) → Attained (x ∷ xs)
  unfolding largest
  attained x [] = (x, Memᴰ.head refl, omega arith)
  attained x (y ∷ xs) = go (dec_le (largest w (y ∷ xs)) (w x)) (attained y xs)
    where
      go : Dec (largest w (y ∷ xs) ≤ w x) → Attained (y ∷ xs) → Attained (x ∷ (y ∷ xs))
      go (yes h) a = (x, Memᴰ.head refl, omega arith)
      go (no h) a = (a.0, Memᴰ.tail a.1, omega (arith, a.2))

-- the link at place i has the largest sum, and every earlier link's is smaller
pub record AtLargest (g : Network) (i : ℕ) : Type 0 where
  pub place : i < length g.links
  pub most : (e : Link) → Memᴰ e g.links → degree_sum g.links e ≤ degree_sum g.links (link_at g i)
  pub earliest : (j : ℕ) → j < i → degree_sum g.links (link_at g j) < degree_sum g.links (link_at g i)

module _ (g : Network) where
  abbrev w : Link → ℕ
  w = degree_sum g.links

  abbrev top : ℕ
  top = largest w g.links

  abbrev full : Link → Bool
  full e = eqb (w e) top

  largest-by : 0 < length g.links → (o : Option ℕ) → Answers (Holds full g.links) (Fails full g.links) o → Answers (Misses full g.links) (Unit {0}) o → AtLargest g (elim o [ some i ↦ i | none ↦ 0 ])
  largest-by here (some i) h m =
      let same = eqb-true (w (link_at g i)) top h.test in
      record {
        place = h.place;
        most = λ e n. omega (arith, above w g.links e n);
        earliest = λ j k. omega (arith, eqb-false (w (link_at g j)) top (m j k), above w g.links (link_at g j) (getD-mem g.links _ (let p = h.place in omega arith)));
      }
  largest-by here none h m = absurd (go g.links here h)
    where
      go : (es : List Link) → 0 < length es → ((e : Link) → Memᴰ e es → eqb (w e) (largest w es) ≡ false) → ⊥
      go [] p f = not-suc-le-zero p
      go (e ∷ es) p f = let (x, n, q) = attained w e es in eqb-false (w x) (largest w (e ∷ es)) (f x n) q

  pub at-largest : 0 < length g.links → AtLargest g (largest_sum g)
  unfolding largest_sum
  at-largest here = largest-by here (first_at full g.links) (first-at full g.links) (earlier full g.links)
