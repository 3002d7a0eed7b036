-- The links of a plan.
use Prim.Native.Nat.{ℕ, zero, suc, ◌+◌, ◌≤◌, ◌<◌}
use mathlib.Core.Path.{◌≡◌, refl, sym, ap, ◌∙◌, subst}
use mathlib.Core.List.Memᴰ
use mathlib.Core.List.{List, [], ◌∷◌, ◌++◌, map, Memᴰ}
use mathlib.Core.Logic.{⊎_elim}
use native.Mathlib.Numerals.{add-one}
use native.Mathlib.Omega.{arith}
use native.Mathlib.Nat.{le_refl, add-zero, zero-add, suc-add, add-suc}
use lib.ListN.{get_or}
use Rattle.reliability.specs.declared.Link.{Link}
use Rattle.reliability.specs.Networks.{Proper, ends}
use Rattle.reliability.proofs.Validity.{value-linked}
use Rattle.search.specs.Searches.{from}
use Rattle.ratings.specs.Ratings.{AtMostS}
use Rattle.std.specs.Prelude.{Ok}
use Rattle.plan.specs.Plans.{size_n, size_m, first_end, second_end, file_value, verdict, link_in}
use Rattle.plan.proofs.Values.{value-range, value-order}
use Rattle.plan.proofs.Verdicts.{accepted-means}

-- ---- what stands at the places from i on, k of them

module _ {A : Type 0} (f : ℕ → A) where
  from_suc : (i k : ℕ) → map f (from i (suc k)) ≡ map f (from i k) ++ (f (i + k) ∷ [])
  unfolding from
  from_suc i zero = rw add-zero
  from_suc i (suc k) = ap (λ l. f i ∷ l) (from_suc (suc i) k ∙ rw (suc-add i k, add-suc i k))

  -- one more, behind the others
  pub from_more : (k : ℕ) → map f (from 0 (k + 1)) ≡ map f (from 0 k) ++ (f k ∷ [])
  from_more k = rw (add-one k) (from_suc 0 k ∙ rw (zero-add k))

  -- what stands at place j
  pub at_place : (other : A) (i k j : ℕ) → j < k → get_or (map f (from i k)) j other ≡ f (i + j)
  unfolding from
  at_place other i zero j h = absurd (omega arith)
  at_place other i (suc k) zero h = rw add-zero
  at_place other i (suc k) (suc j) h = at_place other (suc i) k j (omega arith) ∙ rw (suc-add i j, add-suc i j)

  -- what holds at each place holds of each member
  pub each_member : (P : A → Type 0) (i k : ℕ) → ((j : ℕ) → i ≤ j → j < i + k → P (f j)) → (x : A) → Memᴰ x (map f (from i k)) → P x
  unfolding from
  each_member P i zero h x m = absurd (Memᴰ.not-nil m)
  each_member P i (suc k) h x m =
      ⊎_elim (λ p. subst P (sym p) (h i (le_refl i) (omega arith))) (each_member P (suc i) k (λ j l n. h j (omega arith) (omega arith)) x) (Memᴰ.cases_cons m)

module _ (rating : ℕ → ℕ) (chances : AtMostS rating) (b : List ℕ) where
  -- a link of an accepted plan joins nodes of the plan, and its values are chances in order
  pub links-proper : (vs : List ℕ) → ((v : ℕ) → v < size_n b → Memᴰ v vs) → verdict b ≡ Ok tt → (e : Link) → Memᴰ e (map (link_in rating b) (from 0 (size_m b))) → Proper vs e
  unfolding link_in
  links-proper vs all accepted = each_member (link_in rating b) (Proper vs) 0 (size_m b) (λ j l h.
      let w = ((accepted-means b).0 accepted).each j (omega arith) in
      record { a_node = all (first_end b j) w.first; b_node = all (second_end b j) w.second; range = λ d. rw value-linked (value-range rating chances d (file_value b j)); order = value-order rating (file_value b j) })

-- links rated otherwise join the same nodes
pub same_ends : (r s : ℕ → ℕ) (plan ks : List ℕ) → map ends (map (link_in r plan) ks) ≡ map ends (map (link_in s plan) ks)
unfolding link_in
same_ends r s plan [] = refl
same_ends r s plan (k ∷ ks) = ap (λ l. ends (link_in s plan k) ∷ l) (same_ends r s plan ks)
