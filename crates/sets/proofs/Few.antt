-- The first entries of the row, its last, and how large each can be.
use Prim.Native.Nat.{ℕ, zero, suc, ◌+◌, ◌≤◌, ◌<◌, max, zero-le, suc-le-suc}
use mathlib.Core.Path.{◌≡◌, refl, sym, ap, ap₂, ◌∙◌}
use mathlib.Core.List.Memᴰ
use mathlib.Core.List.{List, [], ◌∷◌, ◌++◌, map, Memᴰ}
use mathlib.Core.Bool.{Bool, true, false, cond}
use mathlib.Core.Logic.{◌↔◌, ⊎_elim}
use native.Mathlib.Nat.{le_refl}
use native.Mathlib.Omega.{arith}
use lib.ListN.{length, length-map, length-append}
use borrow.Author.Tests.{ne_eqb}
use Rattle.reliability.specs.Networks.{Network, Valid, Ascending, Ends, ends, merge, label, connected}
use Rattle.reliability.specs.Rule.{without}
use Rattle.reliability.proofs.Lists.{by_eqb, not-true-false, mem-without}
use Rattle.reliability.proofs.Connection.{connected-sound, label-const}
use Rattle.reliability.proofs.Validity.{ascending-without}
use Rattle.reliability.proofs.Chosen.{without-none}
use Rattle.sets.specs.Sets.{sets, how_many, connecting_sets}
use Rattle.sets.proofs.Counting.{too_many}

-- ---- how many

module _ {A : Type 0} (p : A → Bool) where
  at_most_one : (b : Bool) → cond b 1 0 ≤ 1
  at_most_one true = le_refl 1
  at_most_one false = zero-le

  pub howMany-within : (xs : List A) → how_many p xs ≤ length xs
  unfolding how_many
  howMany-within [] = zero-le
  howMany-within (x ∷ xs) = omega (arith, at_most_one (p x), howMany-within xs)

  howMany-none : (xs : List A) → ((x : A) → Memᴰ x xs → p x ≡ false) → how_many p xs ≡ 0
  unfolding how_many
  howMany-none [] h = refl
  howMany-none (x ∷ xs) h =
      ap₂ (λ (b : Bool) (n : ℕ). cond b 1 0 + n) (h x (Memᴰ.head refl)) (howMany-none xs (λ y m. h y (Memᴰ.tail m)))

module _ {A : Type 0} where
  -- each set of i links has i links
  pub sets-size : (i : ℕ) (es s : List A) → Memᴰ s (sets i es) → length s ≡ i
  unfolding sets
  sets-size zero es s m = ap length (Memᴰ.eq_of_singleton m)
  sets-size (suc i) [] s m = absurd (Memᴰ.not-nil m)
  sets-size (suc i) (e ∷ es) s m =
      ⊎_elim
      (λ n. let (r, k, q) = Memᴰ.of_map (λ s. e ∷ s) (sets i es) n in ap length (sym q) ∙ ap suc (sets-size i es r k))
      (sets-size (suc i) es s) (Memᴰ.append_cases (map (λ s. e ∷ s) (sets i es)) m)

  -- the one set of all links
  pub sets-all : (es : List A) → sets (length es) es ≡ es ∷ []
  unfolding sets
  sets-all [] = refl
  sets-all (e ∷ es) = ap₂ (λ (a b : List (List A)). map (λ s. e ∷ s) a ++ b) (sets-all es) (too_many es (suc (length es)) (le_refl _))

-- how many sets of i out of n there are, by Pascal's rule
unfoldable pub binomial : ℕ → ℕ → ℕ
binomial n zero = 1
binomial zero (suc i) = 0
binomial (suc n) (suc i) = binomial n i + binomial n (suc i)

pub sets-count : {A : Type 0} (i : ℕ) (es : List A) → length (sets i es) ≡ binomial (length es) i
unfolding sets binomial
sets-count zero es = refl
sets-count (suc i) [] = refl
sets-count (suc i) (e ∷ es) =
    length-append (map (λ s. e ∷ s) (sets i es)) (sets (suc i) es)
    ∙ ap₂ ◌+◌ (length-map (sets i es) (λ s. e ∷ s) ∙ sets-count i es) (sets-count (suc i) es)

-- ---- n nodes take n - 1 links

-- the nodes that are left as their own labels: each link takes at most one away
unfoldable roots : List ℕ → List Ends → List ℕ
roots vs [] = vs
roots vs (e ∷ t) = without (max (label t e.a) (label t e.b)) (roots vs t)

without-one : (v : ℕ) (vs : List ℕ) → Ascending vs → length vs ≤ suc (length (without v vs))
unfolding Ascending without
without-one v [] h = zero-le
without-one v (u ∷ vs) h =
    by_eqb (λ b. suc (length vs) ≤ suc (length {A = ℕ} (elim b as (λ c. List ℕ) [ true ↦ without v vs | false ↦ u ∷ without v vs ]))) u v
    (λ e. rw (without-none v vs (λ m. let l = h.0 v m in absurd (omega arith))) (le_refl _))
    (λ n. suc-le-suc (without-one v vs h.1))

module _ (vs : List ℕ) (asc : Ascending vs) where
  roots-ascending : (t : List Ends) → Ascending (roots vs t)
  unfolding roots
  roots-ascending [] = asc
  roots-ascending (e ∷ t) = ascending-without _ (roots vs t) (roots-ascending t)

  roots-many : (t : List Ends) → length vs ≤ length (roots vs t) + length t
  unfolding roots
  roots-many [] = omega arith
  roots-many (e ∷ t) =
      let v = max (label t e.a) (label t e.b) in
      omega (arith, roots-many t, without-one v (roots vs t) (roots-ascending t))

  root-label : (t : List Ends) (w : ℕ) → Memᴰ w (roots vs t) → Memᴰ w vs × (label t w ≡ w)
  unfolding roots label merge
  root-label [] w m = (m, refl)
  root-label (e ∷ t) w m =
      let x = label t e.a in
      let y = label t e.b in
      let (k, n) = mem-without (max x y) w (roots vs t) m in
      let (in-vs, own) = root-label t w k in
      (in-vs, ap (merge x y) own ∙ unmerged x y n)
    where
      unmerged : (x y : ℕ) → (w ≡ max x y → ⊥) → merge x y w ≡ w
      unmerged x y n = rw (ne_eqb w (max x y) n)

  one_left : (us : List ℕ) → Ascending us → ((u w : ℕ) → Memᴰ u us → Memᴰ w us → u ≡ w) → length us ≤ 1
  unfolding Ascending
  one_left [] a h = zero-le
  one_left (u ∷ []) a h = le_refl 1
  one_left (u ∷ w ∷ us) a h =
      let l = a.0 w (Memᴰ.head refl) in
      let e = h u w (Memᴰ.head refl) (Memᴰ.tail (Memᴰ.head refl)) in
      absurd (omega arith)

  -- connected nodes are at most one more than the links that connect them
  pub connected-few : (t : List Ends) → connected vs t ≡ true → length vs ≤ suc (length t)
  connected-few t c = omega (arith, roots-many t, one_left (roots vs t) (roots-ascending t) same)
    where
      same : (u w : ℕ) → Memᴰ u (roots vs t) → Memᴰ w (roots vs t) → u ≡ w
      same u w m n =
          let (mu, eu) = root-label t u m in
          let (mw, ew) = root-label t w n in
          sym eu ∙ connected-sound vs t c (label t) (label-const t) u w mu mw ∙ ew

-- ---- the entries

-- entries below n - 1 are 0
pub few-none : (g : Network) → Valid g → (i : ℕ) → suc i < length g.nodes → connecting_sets g i ≡ 0
few-none g valid i h =
    let es = map ends g.links in
    howMany-none (connected g.nodes) (sets i es)
    (λ s m. not-true-false (λ c. absurd (omega (arith, connected-few g.nodes valid.ascending s c, sets-size i es s m))))

-- entry m is 1 if the network is connected, else 0
pub last_entry : (g : Network) → connecting_sets g (length g.links) ≡ cond (connected g.nodes (map ends g.links)) 1 0
unfolding how_many
last_entry g =
    let es = map ends g.links in
    ap (λ n. how_many (connected g.nodes) (sets n es)) (sym (length-map g.links ends)) ∙ ap (how_many (connected g.nodes)) (sets-all es)
    ∙ omega arith

pub last_one : (g : Network) → (connecting_sets g (length g.links) ≡ 1) ↔ (connected g.nodes (map ends g.links) ≡ true)
last_one g = (λ h. is_true _ (sym (last_entry g) ∙ h), λ h. last_entry g ∙ ap (λ (b : Bool). cond b 1 0) h)
  where
    is_true : (b : Bool) → ◌≡◌ {A = ℕ} (cond b 1 0) 1 → b ≡ true
    is_true true h = refl
    is_true false h = absurd (omega arith)

-- no entry is more than the number of all sets of i links
pub entry-within : (g : Network) (i : ℕ) → connecting_sets g i ≤ binomial (length g.links) i
entry-within g i =
    let es = map ends g.links in
    omega (arith, howMany-within (connected g.nodes) (sets i es), sets-count i es, ap (λ n. binomial n i) (length-map g.links ends))

-- nor is there an entry beyond m
pub none-beyond : (g : Network) (i : ℕ) → length g.links < i → connecting_sets g i ≡ 0
unfolding how_many
none-beyond g i h = ap (how_many (connected g.nodes)) (too_many (map ends g.links) i (omega (arith, length-map g.links ends)))

-- ---- values play no part

pub values-play-no-part : (g h : Network) → g.nodes ≡ h.nodes → map ends g.links ≡ map ends h.links → (i : ℕ) → connecting_sets g i ≡ connecting_sets h i
values-play-no-part g h e f i = ap₂ (λ (vs : List ℕ) (es : List Ends). how_many (connected vs) (sets i es)) e f
