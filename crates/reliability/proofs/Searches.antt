-- What each search of the rule finds.
use Prim.Native.Nat.{ℕ, zero, suc, ◌<◌, suc-le-suc, zero-le}
use mathlib.Core.Path.{◌≡◌, refl, sym, ap, ◌∙◌, subst}
use mathlib.Core.List.{List, [], ◌∷◌, map, Memᴰ}
use mathlib.Core.Bool.{Bool, true, false, true≢false}
use mathlib.Core.Logic.{◌↔◌}
use mathlib.Core.Option
use mathlib.Core.Option.{Option, some, none}
use lib.ListN.{length, get_or}
use Rattle.reliability.specs.declared.Link.{Link}
use Rattle.reliability.specs.declared.Step.{Step}
use Rattle.reliability.specs.Networks.{linked}
use Rattle.reliability.specs.Rule.{alike, touches, first_at, first_pair, sucs, places, lowest, delete_at}
use Rattle.reliability.proofs.Lists.{mem-delete, getD-mem}

-- what holds of an answer, or where there is none
abbrev pub Answers : {A : Type 0} → (A → Type 0) → Type 0 → Option A → Type 0
Answers P N (some a) = P a
Answers P N none = N

-- the link at place i
abbrev pub nth : List Link → ℕ → Link
nth es i = get_or es i (linked 0 0 (λ d. 0))

-- ---- places at which a test holds

module _ (p : Link → Bool) where
  pub record Holds (es : List Link) (i : ℕ) : Type 0 where
    pub place : i < length es
    pub test : p (nth es i) ≡ true

  abbrev pub Fails : List Link → Type 0
  Fails es = (e : Link) → Memᴰ e es → p e ≡ false

  holds-here : (e : Link) (es : List Link) → p e ≡ true → Holds (e ∷ es) zero
  holds-here e es t = record { place = suc-le-suc zero-le; test = t }

  holds_later : (e : Link) (es : List Link) (i : ℕ) → Holds es i → Holds (e ∷ es) (suc i)
  holds_later e es i h = record { place = suc-le-suc h.place; test = h.test }

  fails_more : (e : Link) (es : List Link) → p e ≡ false → Fails es → Fails (e ∷ es)
  fails_more e es t h f (Memᴰ.head q) = ap p q ∙ t
  fails_more e es t h f (Memᴰ.tail m) = h f m

  pub first-at : (es : List Link) → Answers (Holds es) (Fails es) (first_at p es)
  unfolding first_at
  first-at [] = λ e m. elim m [ ]
  first-at (e ∷ es) = go (p e) refl (first_at p es) (first-at es)
    where
      go : (t : Bool) → p e ≡ t → (o : Option ℕ) → Answers (Holds es) (Fails es) o
          → Answers (Holds (e ∷ es)) (Fails (e ∷ es)) (elim t [ true ↦ some zero | false ↦ Option.map suc o ])
      go true t o h = holds-here e es t
      go false t (some i) h = holds_later e es i h
      go false t none h = fails_more e es t h

  -- none is found exactly where the test fails at each link
  pub none_found : (es : List Link) → (first_at p es ≡ none) ↔ Fails es
  none_found es = (λ h. subst (Answers (Holds es) (Fails es)) h (first-at es), λ f. go f (first_at p es) (first-at es))
    where
      go : Fails es → (o : Option ℕ) → Answers (Holds es) (Fails es) o → o ≡ none
      go f (some i) h = absurd (true≢false (sym h.test ∙ f _ (getD-mem es _ h.place)))
      go f none h = refl

  -- no place, one or two; of more nothing is said
  abbrev pub Placed : List Link → List ℕ → Type 0
  Placed es [] = Fails es
  Placed es (i ∷ []) = Holds es i × Fails (delete_at i es)
  Placed es (i ∷ (j ∷ [])) = (i < j) × Holds es i × Holds es j × Fails (delete_at i (delete_at j es))
  Placed es (i ∷ (j ∷ (k ∷ r))) = Unit {0}

  placed-later : (e : Link) (es : List Link) → p e ≡ false → (is : List ℕ) → Placed es is → Placed (e ∷ es) (map suc is)
  unfolding delete_at
  placed-later e es t [] h = fails_more e es t h
  placed-later e es t (i ∷ []) h = (holds_later e es i h.0, fails_more e (delete_at i es) t h.1)
  placed-later e es t (i ∷ (j ∷ [])) h =
      (suc-le-suc h.0, holds_later e es i h.1, holds_later e es j h.2, fails_more e (delete_at i (delete_at j es)) t h.3)
  placed-later e es t (i ∷ (j ∷ (k ∷ r))) h = tt

  placed-here : (e : Link) (es : List Link) → p e ≡ true → (is : List ℕ) → Placed es is → Placed (e ∷ es) (zero ∷ map suc is)
  unfolding delete_at
  placed-here e es t [] h = (holds-here e es t, h)
  placed-here e es t (i ∷ []) h = (suc-le-suc zero-le, holds-here e es t, holds_later e es i h.0, h.1)
  placed-here e es t (i ∷ (j ∷ r)) h = tt

  pub placed : (es : List Link) → Placed es (places p es)
  unfolding places
  placed [] = λ e m. elim m [ ]
  placed (e ∷ es) = go (p e) refl (placed es)
    where
      go : (t : Bool) → p e ≡ t → Placed es (places p es) → Placed (e ∷ es) (elim t [ true ↦ zero ∷ map suc (places p es) | false ↦ map suc (places p es) ])
      go true t = placed-here e es t (places p es)
      go false t = placed-later e es t (places p es)

-- ---- pairs and nodes

pub record Pair (es : List Link) (ij : ℕ × ℕ) : Type 0 where
  pub order : ij.0 < ij.1
  pub place : ij.1 < length es
  pub test : alike (nth es ij.0) (nth es ij.1) ≡ true

-- no link is alike to one behind it
abbrev pub Distinct : List Link → Type 0
Distinct [] = Unit {0}
Distinct (e ∷ es) = Fails (alike e) es × Distinct es

pub first-pair : (es : List Link) → Answers (Pair es) (Distinct es) (first_pair es)
unfolding first_pair
first-pair [] = tt
first-pair (e ∷ es) = go (first_at (alike e) es) (first-at (alike e) es) (first_pair es) (first-pair es)
  where
    go : (o : Option ℕ) → Answers (Holds (alike e) es) (Fails (alike e) es) o → (q : Option (ℕ × ℕ)) → Answers (Pair es) (Distinct es) q
        → Answers (Pair (e ∷ es)) (Distinct (e ∷ es)) (elim o [ some j ↦ some (zero, suc j) | none ↦ Option.map sucs q ])
    go (some j) h q k = record { order = suc-le-suc zero-le; place = suc-le-suc h.place; test = h.test }
    go none h (some ij) k = record { order = suc-le-suc k.order; place = suc-le-suc k.place; test = k.test }
    go none h none k = (h, k)

-- none is found exactly where the links are distinct
pub no-pair : (es : List Link) → (first_pair es ≡ none) ↔ Distinct es
unfolding first_pair
no-pair es = (λ h. subst (Answers (Pair es) (Distinct es)) h (first-pair es), distinct_none es)
  where
    distinct_none : (es : List Link) → Distinct es → first_pair es ≡ none
    distinct_none [] d = refl
    distinct_none (e ∷ es) d = rw ((none_found (alike e) es).1 d.0, distinct_none es d.1, first_pair)

pub distinct-delete : (es : List Link) (i : ℕ) → Distinct es → Distinct (delete_at i es)
unfolding delete_at
distinct-delete [] i d = tt
distinct-delete (e ∷ es) zero d = d.1
distinct-delete (e ∷ es) (suc i) d = (λ f m. d.0 f (mem-delete i es m), distinct-delete es i d.1)

-- what holds of a rule's answer at each node holds of the lowest node's
pub lowest-of : (P : Step → Type 0) (rule : ℕ → List ℕ → Option Step) (es : List Link) (vs : List ℕ)
    → ((v : ℕ) → Memᴰ v vs → (is : List ℕ) → Placed (touches v) es is → Answers P (Unit {0}) (rule v is))
    → Answers P (Unit {0}) (lowest rule es vs)
unfolding lowest
lowest-of P rule es [] h = tt
lowest-of P rule es (v ∷ vs) h =
    go (rule v (places (touches v) es)) (h v (Memᴰ.head refl) (places (touches v) es) (placed (touches v) es)) (lowest-of P rule es vs (λ u m. h u (Memᴰ.tail m)))
  where
    go : (o : Option Step) → Answers P (Unit {0}) o → Answers P (Unit {0}) (lowest rule es vs) → Answers P (Unit {0}) (elim o [ some s ↦ some s | none ↦ lowest rule es vs ])
    go (some s) h k = h
    go none h k = k
