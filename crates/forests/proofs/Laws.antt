-- Laws of labels, links and sets by place.
use Prim.Native.Nat.{ℕ, zero, suc, ◌+◌, ◌-◌, ◌≤◌, ◌<◌}
use mathlib.Core.Path.{◌≡◌, refl, sym, ap, ap₂, fun_ext, ◌∙◌}
use mathlib.Core.List.{List, [], ◌∷◌, map, map-map}
use mathlib.Core.Bool.{Bool, true, false}
use native.Mathlib.Nat.{not-suc-le-zero}
use native.Mathlib.Omega.{arith}
use lib.ListN.{get_or}
use Rattle.search.specs.Searches.{from}
use Rattle.reliability.specs.Networks.{Ends, merge, label}
use Rattle.game.specs.Game.{among}
use Rattle.forests.specs.Links.{links_from, labels_of}

pub get_or-from : (f : ℕ → ℕ) (i k v : ℕ) → v < k → get_or (map f (from i k)) v 0 ≡ f (i + v)
unfolding from
get_or-from f i zero v h = absurd (not-suc-le-zero h)
get_or-from f i (suc k) zero h = let e : i ≡ i + 0 = omega arith in ap f e
get_or-from f i (suc k) (suc v) h = get_or-from f (suc i) k v (omega arith) ∙ (let e : suc i + v ≡ i + suc v = omega arith in ap f e)

pub label_at : (t : List Ends) (v : ℕ) → v < 32 → get_or (labels_of t) v 0 ≡ label t v
label_at t v h = get_or-from (label t) 0 32 v h ∙ (let e : 0 + v ≡ v = omega arith in ap (label t) e)

-- the links of a set at the places from i on
abbrev pub behind : (ℕ → Bool) → List ℕ → List ℕ → ℕ → ℕ → List Ends
behind p as₁ bs i k = among (λ j. p (i + j)) (links_from as₁ bs i k)

module _ (p : ℕ → Bool) (as₁ bs : List ℕ) where
  pub behind-none : (i : ℕ) → behind p as₁ bs i 0 ≡ []
  unfolding among links_from
  behind-none i = refl

  pub behind-all : (m : ℕ) → behind p as₁ bs 0 m ≡ among p (links_from as₁ bs 0 m)
  behind-all m = ap (λ (q : ℕ → Bool). among q (links_from as₁ bs 0 m)) (fun_ext (λ j. let e : 0 + j ≡ j = omega arith in ap p e))

  abbrev link : ℕ → Ends
  link i = record { a = get_or as₁ i 0; b = get_or bs i 0 }

  abbrev chosen : ℕ → Bool → List Ends → List Ends
  chosen i b r = elim b [ true ↦ link i ∷ r | false ↦ r ]

  behind-step : (i k : ℕ) → behind p as₁ bs i (suc k) ≡ chosen i (p i) (behind p as₁ bs (suc i) k)
  unfolding among links_from
  behind-step i k =
      ap₂ (chosen i) (let z : i + 0 ≡ i = omega arith in ap p z)
      (ap (λ (q : ℕ → Bool). among q (links_from as₁ bs (suc i) k)) (fun_ext (λ j. let z : i + suc j ≡ suc i + j = omega arith in ap p z)))

  pub behind-in : (i k : ℕ) → p i ≡ true → behind p as₁ bs i (suc k) ≡ link i ∷ behind p as₁ bs (suc i) k
  behind-in i k h = behind-step i k ∙ ap (λ b. chosen i b (behind p as₁ bs (suc i) k)) h

  pub behind-out : (i k : ℕ) → p i ≡ false → behind p as₁ bs i (suc k) ≡ behind p as₁ bs (suc i) k
  behind-out i k h = behind-step i k ∙ ap (λ b. chosen i b (behind p as₁ bs (suc i) k)) h

-- one link more merges two labels
pub labels-more : (e : Ends) (t : List Ends) (x y : ℕ) → x ≡ label t e.a → y ≡ label t e.b → map (merge x y) (labels_of t) ≡ labels_of (e ∷ t)
unfolding label
labels-more e t x y p q = rw (p, q) (map-map (merge (label t e.a) (label t e.b)) (label t) (from 0 32))

-- ---- the loop of the labels, from the last link to the first

map_same : (l : List ℕ) → map (λ v. v) l ≡ l
map_same [] = refl
map_same (x ∷ l) = ap {B = List ℕ} (λ r. x ∷ r) (map_same l)

module _ (p : ℕ → Bool) (as₁ bs : List ℕ) (m : ℕ) where
  -- the labels through the links from i on
  abbrev pub through : ℕ → List ℕ
  through i = labels_of (behind p as₁ bs i (m - i))

  pub labels-start : from 0 32 ≡ through m
  unfolding label
  labels-start =
      let z : m - m ≡ 0 = omega arith in
      sym (map_same (from 0 32)) ∙ ap labels_of (sym (ap (behind p as₁ bs m) z ∙ behind-none p as₁ bs m))

  pub labels-end : through 0 ≡ labels_of (among p (links_from as₁ bs 0 m))
  labels-end = let z : m - 0 ≡ m = omega arith in ap labels_of (ap (behind p as₁ bs 0) z ∙ behind-all p as₁ bs m)

  module _ (i : ℕ) (some-link : 0 < i) (most : i ≤ m) where
    abbrev j : ℕ
    j = i - 1

    one-back : through j ≡ labels_of (behind p as₁ bs j (suc (m - i)))
    one-back = let z : m - j ≡ suc (m - i) = omega arith in ap (λ k. labels_of (behind p as₁ bs j k)) z

    same : through i ≡ labels_of (behind p as₁ bs (suc j) (m - i))
    same = let z : i ≡ suc j = omega arith in ap (λ k. labels_of (behind p as₁ bs k (m - i))) z

    pub labels-out : p j ≡ false → through i ≡ through j
    labels-out h = same ∙ sym (one-back ∙ ap labels_of (behind-out p as₁ bs j (m - i) h))

    pub labels_in : (ls : List ℕ) (x y : ℕ) → p j ≡ true → get_or as₁ j 0 < 32 → get_or bs j 0 < 32 → ls ≡ through i
        → x ≡ get_or ls (get_or as₁ j 0) 0 → y ≡ get_or ls (get_or bs j 0) 0 → map (merge x y) ls ≡ through j
    labels_in ls x y h la lb e ex ey =
        let t = behind p as₁ bs (suc j) (m - i) in
        let f : ls ≡ labels_of t = e ∙ same in
        let at : (v : ℕ) → v < 32 → get_or ls v 0 ≡ label t v = λ v l. ap (λ k. get_or k v 0) f ∙ label_at t v l in
        ap (map (merge x y)) f
        ∙ labels-more (record { a = get_or as₁ j 0; b = get_or bs j 0 }) t x y (ex ∙ at (get_or as₁ j 0) la) (ey ∙ at (get_or bs j 0) lb)
        ∙ sym (one-back ∙ ap labels_of (behind-in p as₁ bs j (m - i) h))
