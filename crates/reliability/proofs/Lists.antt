-- Lists by place: deletion, replacement and membership.
use Prim.Native.Nat.{ℕ, zero, suc, ◌<◌}
use mathlib.Core.Path.{◌≡◌, refl, sym, ap, ◌∙◌}
use mathlib.Core.List.Memᴰ
use mathlib.Core.List.{List, [], ◌∷◌, map, Memᴰ}
use mathlib.Core.Bool.{Bool, true, false, ◌||◌, true≢false, and-eq-true_iff}
use mathlib.Core.Logic.{◌⊎◌, inl, inr, ⊎_map, ⊎_elim}
use lib.Dec.{eqb}
use native.Mathlib.Nat.{not-suc-le-zero, le_of_suc-le-suc}
use lib.ListN.{length, get_or, set}
use borrow.Author.Tests.{eqb-true, eqb-false}
use Rattle.reliability.specs.Networks.{every, filter}
use Rattle.reliability.specs.Rule.{delete_at, without}

-- what holds of a test of two numbers, either way
pub by_eqb : (P : Bool → Type 0) (u v : ℕ) → (u ≡ v → P true) → ((u ≡ v → ⊥) → P false) → P (eqb u v)
by_eqb P u v same other = go (eqb u v) refl
  where
    go : (b : Bool) → eqb u v ≡ b → P b
    go true e = same (eqb-true u v e)
    go false e = other (eqb-false u v e)

-- two tests agree where each implies the other
pub both_ways : (s t : Bool) → (s ≡ true → t ≡ true) → (t ≡ true → s ≡ true) → s ≡ t
both_ways true t f g = sym (f refl)
both_ways false true f g = g refl
both_ways false false f g = refl

pub not-true-false : {t : Bool} → (t ≡ true → ⊥) → t ≡ false
not-true-false {t = true} n = absurd (n refl)
not-true-false {t = false} n = refl

pub or-true : (s t : Bool) → s || t ≡ true → (s ≡ true) ⊎ (t ≡ true)
or-true true t h = inl h
or-true false t h = inr h

module _ {A : Type 0} where
  pub length-delete : {i : ℕ} (l : List A) → i < length l → suc (length (delete_at i l)) ≡ length l
  unfolding delete_at
  length-delete [] h = absurd (not-suc-le-zero h)
  length-delete {i = zero} (x ∷ l) h = refl
  length-delete {i = suc i} (x ∷ l) h = ap suc (length-delete l (le_of_suc-le-suc h))

  pub mem-delete : {x : A} (i : ℕ) (l : List A) → Memᴰ x (delete_at i l) → Memᴰ x l
  unfolding delete_at
  mem-delete i [] m = m
  mem-delete zero (y ∷ l) m = Memᴰ.tail m
  mem-delete (suc i) (y ∷ l) (Memᴰ.head p) = Memᴰ.head p
  mem-delete (suc i) (y ∷ l) (Memᴰ.tail m) = Memᴰ.tail (mem-delete i l m)

  -- after a replacement: the new element, or one of the others
  pub mem-set : {x y : A} (l : List A) (i : ℕ) → Memᴰ x (set l i y) → (x ≡ y) ⊎ Memᴰ x (delete_at i l)
  unfolding delete_at
  mem-set [] i m = inr m
  mem-set (z ∷ l) zero (Memᴰ.head p) = inl p
  mem-set (z ∷ l) zero (Memᴰ.tail m) = inr m
  mem-set (z ∷ l) (suc i) (Memᴰ.head p) = inr (Memᴰ.head p)
  mem-set (z ∷ l) (suc i) (Memᴰ.tail m) = ⊎_map (λ p. p) (λ n. Memᴰ.tail n) (mem-set l i m)

  -- and the other way
  pub set-mem-new : (l : List A) (i : ℕ) (y : A) → i < length l → Memᴰ y (set l i y)
  set-mem-new [] i y h = absurd (not-suc-le-zero h)
  set-mem-new (z ∷ l) zero y h = Memᴰ.head refl
  set-mem-new (z ∷ l) (suc i) y h = Memᴰ.tail (set-mem-new l i y (le_of_suc-le-suc h))

  pub set-mem-other : {x : A} (l : List A) (i : ℕ) (y : A) → Memᴰ x (delete_at i l) → Memᴰ x (set l i y)
  unfolding delete_at
  set-mem-other [] i y m = m
  set-mem-other (z ∷ l) zero y m = Memᴰ.tail m
  set-mem-other (z ∷ l) (suc i) y (Memᴰ.head p) = Memᴰ.head p
  set-mem-other (z ∷ l) (suc i) y (Memᴰ.tail m) = Memᴰ.tail (set-mem-other l i y m)

  -- the element at a place, or one of the others
  pub mem-other : {x : A} (l : List A) (i : ℕ) (z : A) → Memᴰ x l → (x ≡ get_or l i z) ⊎ Memᴰ x (delete_at i l)
  unfolding delete_at
  mem-other (y ∷ l) zero z (Memᴰ.head p) = inl p
  mem-other (y ∷ l) zero z (Memᴰ.tail m) = inr m
  mem-other (y ∷ l) (suc i) z (Memᴰ.head p) = inr (Memᴰ.head p)
  mem-other (y ∷ l) (suc i) z (Memᴰ.tail m) = ⊎_map (λ p. p) (λ n. Memᴰ.tail n) (mem-other l i z m)
  mem-other [] i z x'' = elim x'' [ ]

  pub getD-mem : {i : ℕ} (l : List A) (z : A) → i < length l → Memᴰ (get_or l i z) l
  getD-mem [] z h = absurd (not-suc-le-zero h)
  getD-mem {i = zero} (x ∷ l) z h = Memᴰ.head refl
  getD-mem {i = suc i} (x ∷ l) z h = Memᴰ.tail (getD-mem l z (le_of_suc-le-suc h))

  -- a replacement before the place of a deletion: either may come first
  pub delete-set : (l : List A) (i j : ℕ) (y : A) → i < j → delete_at j (set l i y) ≡ set (delete_at j l) i y
  unfolding delete_at
  delete-set [] i j y h = refl
  delete-set (x ∷ l) i zero y h = absurd (not-suc-le-zero h)
  delete-set (x ∷ l) zero (suc j) y h = refl
  delete-set (x ∷ l) (suc i) (suc j) y h = ap (λ r. x ∷ r) (delete-set l i j y (le_of_suc-le-suc h))

  -- a replacement at the place of a deletion is lost
  pub set-delete : (l : List A) (i : ℕ) (y : A) → delete_at i (set l i y) ≡ delete_at i l
  unfolding delete_at
  set-delete [] i y = refl
  set-delete (x ∷ l) zero y = refl
  set-delete (x ∷ l) (suc i) y = ap (λ r. x ∷ r) (set-delete l i y)

  -- an element before the place of a deletion keeps its own
  pub getD-delete : (l : List A) (i j : ℕ) (z : A) → i < j → get_or (delete_at j l) i z ≡ get_or l i z
  unfolding delete_at
  getD-delete [] i j z h = refl
  getD-delete (x ∷ l) i zero z h = absurd (not-suc-le-zero h)
  getD-delete (x ∷ l) zero (suc j) z h = refl
  getD-delete (x ∷ l) (suc i) (suc j) z h = getD-delete l i j z (le_of_suc-le-suc h)

  pub every-at : (p : A → Bool) {x : A} {l : List A} → every p l ≡ true → Memᴰ x l → p x ≡ true
  unfolding every
  every-at p {l = y ∷ l} h (Memᴰ.head e) = ap p e ∙ ((and-eq-true_iff (p y) (every p l)).0 h).0
  every-at p {l = y ∷ l} h (Memᴰ.tail m) = every-at p ((and-eq-true_iff (p y) (every p l)).0 h).1 m
  every-at p {l = []} h x6 = elim x6 [ ]

  pub every_of : (p : A → Bool) (l : List A) → ((x : A) → Memᴰ x l → p x ≡ true) → every p l ≡ true
  unfolding every
  every_of p [] h = refl
  every_of p (y ∷ l) h = rw (h y (Memᴰ.head refl)) (every_of p l (λ x m. h x (Memᴰ.tail m)))

module _ {A B : Type 0} (f : A → B) where
  pub map-delete : (i : ℕ) (l : List A) → map f (delete_at i l) ≡ delete_at i (map f l)
  unfolding delete_at
  map-delete i [] = refl
  map-delete zero (x ∷ l) = refl
  map-delete (suc i) (x ∷ l) = ap (λ r. f x ∷ r) (map-delete i l)

  pub map-set : (l : List A) (i : ℕ) (y : A) → map f (set l i y) ≡ set (map f l) i (f y)
  map-set [] i y = refl
  map-set (x ∷ l) zero y = refl
  map-set (x ∷ l) (suc i) y = ap (λ r. f x ∷ r) (map-set l i y)

-- those at which a test holds
module _ (p : ℕ → Bool) where
  module _ (k : ℕ) (ks : List ℕ) where
    pub filter-here : p k ≡ true → filter p (k ∷ ks) ≡ k ∷ filter p ks
    unfolding filter
    filter-here h = rw (h, filter)

    pub filter-past : p k ≡ false → filter p (k ∷ ks) ≡ filter p ks
    unfolding filter
    filter-past h = rw (h, filter)

  pub filter-mem : (ks : List ℕ) {u : ℕ} → Memᴰ u (filter p ks) → Memᴰ u ks × (p u ≡ true)
  unfolding filter
  filter-mem [] m = absurd (Memᴰ.not-nil m)
  filter-mem (k ∷ ks) {u} m = go (p k) refl m (filter-mem ks)
    where
      go : (b : Bool) → p k ≡ b → Memᴰ u (elim b as (λ c. List ℕ) [ true ↦ k ∷ filter p ks | false ↦ filter p ks ])
          → (Memᴰ u (filter p ks) → Memᴰ u ks × (p u ≡ true)) → Memᴰ u (k ∷ ks) × (p u ≡ true)
      go true e m later = ⊎_elim (λ q. (Memᴰ.head q, ap p q ∙ e)) (λ n. (Memᴰ.tail (later n).0, (later n).1)) (Memᴰ.cases_cons m)
      go false e m later = (Memᴰ.tail (later m).0, (later m).1)

  pub mem-filter : (ks : List ℕ) {u : ℕ} → Memᴰ u ks → p u ≡ true → Memᴰ u (filter p ks)
  unfolding filter
  mem-filter (k ∷ ks) {u} m h = go (p k) refl (⊎_map (λ q. q) (λ n. mem-filter ks n h) (Memᴰ.cases_cons m))
    where
      go : (b : Bool) → p k ≡ b → (u ≡ k) ⊎ Memᴰ u (filter p ks) → Memᴰ u (elim b as (λ c. List ℕ) [ true ↦ k ∷ filter p ks | false ↦ filter p ks ])
      go true e (inl q) = Memᴰ.head q
      go true e (inr n) = Memᴰ.tail n
      go false e (inl q) = absurd (true≢false (sym h ∙ ap p q ∙ e))
      go false e (inr n) = n
  mem-filter [] {u = u} m h = elim m [ ]

-- without v: all but v
module _ (v u : ℕ) where
  pub mem-without : (l : List ℕ) → Memᴰ u (without v l) → Memᴰ u l × (u ≡ v → ⊥)
  unfolding without
  mem-without [] = λ m. absurd (Memᴰ.not-nil m)
  mem-without (w ∷ l) = by_eqb (λ b. Memᴰ u (elim b [ true ↦ without v l | false ↦ w ∷ without v l ]) → Memᴰ u (w ∷ l) × (u ≡ v → ⊥)) w v
      (λ e m. later (mem-without l m))
      (λ n m. ⊎_elim (λ p. (Memᴰ.head p, λ q. n (sym p ∙ q))) (λ m. later (mem-without l m)) (Memᴰ.cases_cons m))
    where
      later : Memᴰ u l × (u ≡ v → ⊥) → Memᴰ u (w ∷ l) × (u ≡ v → ⊥)
      later r = (Memᴰ.tail r.0, r.1)

  pub without-mem : (l : List ℕ) → Memᴰ u l → (u ≡ v → ⊥) → Memᴰ u (without v l)
  unfolding without
  without-mem (w ∷ l) m n = by_eqb (λ b. Memᴰ u (elim b [ true ↦ without v l | false ↦ w ∷ without v l ])) w v
      (λ e. ⊎_elim (λ p. absurd (n (p ∙ e))) (λ m. without-mem l m n) (Memᴰ.cases_cons m))
      (λ o. ⊎_elim (λ p. Memᴰ.head p) (λ m. Memᴰ.tail (without-mem l m n)) (Memᴰ.cases_cons m))
  without-mem [] m n = elim m [ ]
