-- What `find` answers of the places of a set, where the closure computes a test.
use Prim.Native.Nat.{ℕ}
use mathlib.Core.Path.{◌≡◌, refl, sym, ap, subst, ◌∙◌}
use mathlib.Core.List.{List, [], ◌∷◌, Memᴰ}
use mathlib.Core.Bool.{Bool, true, false, cond}
use denote.Param.Members.{Mut}
use denote.Ref.{Bor}
use Rattle.std.specs.Prelude.{Option, Some}
use Rattle.std.specs.Fn.{CalledAt, TakesAt}
use Rattle.std.specs.Iterator.{YieldsFirst, FindsItem, CallableWhileAt}
use Rattle.std.specs.List.{find}
use Rattle.std.proofs.lemmas.Iterator.{YieldsList}
use Rattle.std.proofs.lemmas.Iterator.Consumers.{YieldsList-from_first}
use Rattle.std.proofs.lemmas.Iterator.Adapters.{option_map_id, serves_from_places}
use Rattle.std.proofs.lemmas.Iterator.Search.{find_from_yields_List}
use Rattle.reliability.proofs.Lists.{getD-mem, filter-here, filter-past}
use Rattle.search.specs.declared.Places.{Places}
use Rattle.search.specs.Searches.{places_in, filter, found}
use Rattle.search.proofs.Sets.{has, mem-has}

abbrev steps : Places → Option ℕ → Places → Type 0
steps = YieldsFirst (λ s. places_in s.0)

road : (s : Places) → YieldsList steps (λ x. x) s (places_in s.0)
road s = YieldsList-from_first (λ x. x) (λ s. places_in s.0) (places_in s.0) refl

-- `find` of std is the first of those that pass
first-found : (p : ℕ → Bool) (ks : List ℕ) → find p ks ≡ found (filter p ks)
unfolding filter
first-found p [] = refl
first-found p (k ∷ ks) = go (p k) refl (first-found p ks)
  where
    go : (b : Bool) → p k ≡ b → find p ks ≡ found (filter p ks) → cond b (Some k) (find p ks) ≡ found (filter p (k ∷ ks))
    go true e h = sym (ap found (filter-here p k ks e))
    go false e h = h ∙ sym (ap found (filter-past p k ks e))

-- the closure f computes the test p, and a call leaves it as it was
abbrev pub Tests : {F : Type 0} → Mut F (Bor ℕ × Unit {0}) Bool → F → (ℕ → Bool) → Type 0
Tests {F} g f p = (x : ℕ) (b : Bool) (q : F) → CalledAt g f x b q → (q ≡ f) × (b ≡ p x)

module _ {F : Type 0} {g : Mut F (Bor ℕ × Unit {0}) Bool} {s : Places} {f : F} (t : ℕ) (all : s.0 ≡ t) (p : ℕ → Bool) (tests : Tests g f p) where
  pub finds : (u : Places) (r : Option ℕ) → FindsItem steps g s f r u → r ≡ found (filter p (places_in t))
  finds u r ran = sym (option_map_id r) ∙ find_from_yields_List p u f r ran (road s) tests ∙ first-found p (places_in s.0) ∙ ap (λ (n : ℕ). found (filter p (places_in n))) all

  -- it may be called at each place
  pub serves : ((x : ℕ) → has t x ≡ true → TakesAt g f x) → CallableWhileAt steps g false s f
  serves takes =
      serves_from_places (road s) (λ x q c. (tests x false q c).0)
      (λ x k h e. takes x (ap (λ (n : ℕ). has n x) (sym all) ∙ mem-has s.0 x (subst (λ y. Memᴰ y (places_in s.0)) (sym e) (getD-mem (places_in s.0) x h))))
