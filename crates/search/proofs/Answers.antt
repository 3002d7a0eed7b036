-- What a search has found, and what it says of the places.
use Prim.Native.Nat.{ℕ}
use mathlib.Core.Path.{◌≡◌, refl, sym, ap, ◌∙◌}
use mathlib.Core.List.{List, [], ◌∷◌, Memᴰ}
use mathlib.Core.Bool.{Bool, true, false}
use mathlib.Core.Option.{Option, some, none}
use native.Mathlib.Omega.{arith}
use Rattle.std.specs.Prelude.{Option as Found, None, Some}
use Rattle.search.specs.Searches.{filter, found, pair_in}
use Rattle.reliability.proofs.Lists.{filter-here, filter-past}

abbrev pub first : List ℕ → Option ℕ
first [] = none
first (k ∷ ks) = some k

pub filter_none : (p : ℕ → Bool) (ks : List ℕ) → filter p ks ≡ [] → (k : ℕ) → Memᴰ k ks → p k ≡ false
unfolding filter
filter_none p (x ∷ ks) e k m = go (p x) refl (λ h l. filter_none p ks h k l) m
  where
    go : (b : Bool) → p x ≡ b → (filter p ks ≡ [] → Memᴰ k ks → p k ≡ false) → Memᴰ k (x ∷ ks) → p k ≡ false
    go true t h m = let z : ◌≡◌ {A = ℕ} 0 1 = cc (sym (filter-here p x ks t) ∙ e) in absurd (omega arith)
    go false t h (Memᴰ.head q) = ap p q ∙ t
    go false t h (Memᴰ.tail m) = h (sym (filter-past p x ks t) ∙ e) m
filter_none p [] e k m = elim m [ ]

-- k is the first of ks at which p holds
pub record Hit (p : ℕ → Bool) (ks : List ℕ) (k : ℕ) : Type 0 where
  pub first : first (filter p ks) ≡ some k
  pub member : Memᴰ k ks
  pub test : p k ≡ true

pub hit : (p : ℕ → Bool) (ks : List ℕ) (k : ℕ) → found (filter p ks) ≡ Some k → Hit p ks k
unfolding filter
hit p [] k e = let z : ◌≡◌ {A = ℕ} 0 1 = cc in absurd (omega arith)
hit p (x ∷ ks) k e = go (p x) refl (hit p ks k)
  where
    go : (b : Bool) → p x ≡ b → (found (filter p ks) ≡ Some k → Hit p ks k) → Hit p (x ∷ ks) k
    go true t h =
        let same : x ≡ k = cc (sym (ap found (filter-here p x ks t)) ∙ e) in
        record { first = ap first (filter-here p x ks t) ∙ ap some same; member = Memᴰ.head (sym same); test = ap p (sym same) ∙ t }
    go false t h =
        let r = h (sym (ap found (filter-past p x ks t)) ∙ e) in
        record { first = ap first (filter-past p x ks t) ∙ r.first; member = Memᴰ.tail r.member; test = r.test }

pub missed : (ks : List ℕ) → found ks ≡ None → ks ≡ []
missed [] e = refl
missed (k ∷ ks) e = let z : ◌≡◌ {A = ℕ} 0 1 = cc in absurd (omega arith)

pub pair-members : (t : ℕ → ℕ → Bool) (ks : List ℕ) (i j : ℕ) → pair_in t ks ≡ Some (i, j) → Memᴰ i ks × Memᴰ j ks
unfolding pair_in
pair-members t [] i j e = let z : ◌≡◌ {A = ℕ} 0 1 = cc in absurd (omega arith)
pair-members t (k ∷ ks) i j e = go (filter (t k) ks) refl (pair-members t ks i j) e
  where
    go : (l : List ℕ) → filter (t k) ks ≡ l → (pair_in t ks ≡ Some (i, j) → Memᴰ i ks × Memᴰ j ks)
        → elim l as (λ m. Found (ℕ × ℕ)) [ [] ↦ pair_in t ks | j ∷ js ↦ Some (k, j) ] ≡ Some (i, j) → Memᴰ i (k ∷ ks) × Memᴰ j (k ∷ ks)
    go [] f h e = let r = h e in (Memᴰ.tail r.0, Memᴰ.tail r.1)
    go (x ∷ l) f h e =
        let same : (k, x) ≡ (i, j) = cc in
        let one : i ≡ k = sym (ap (λ (p : ℕ × ℕ). p.0) same) in
        let two : x ≡ j = ap (λ (p : ℕ × ℕ). p.1) same in
        (Memᴰ.head one, Memᴰ.tail (hit (t k) ks j (ap found f ∙ ap Some two)).member)
