-- The reliability polynomial of a plan whose links are all sound with one chance, and what the first and the last entry say.
use Prim.Native.Nat.{ℕ, zero, suc, ◌+◌, ◌-◌, ◌≤◌, ◌<◌}
use mathlib.Core.Path.{◌≡◌, refl, sym, ap, ap₂, ◌∙◌}
use mathlib.Core.List.{List, [], ◌∷◌, map}
use mathlib.Core.Bool.{true}
use mathlib.Core.Logic.{◌↔◌}
use native.Mathlib.Omega.{arith}
use Rattle.rounding.specs.Rounding.{S}
use Rattle.ratings.specs.Ratings.{T}
use Rattle.ratings.proofs.Laws.{built-in-range}
use Rattle.reliability.specs.Networks.{ends, connected}
use Rattle.reliability.specs.Exact.{Weighted, sum}
use Rattle.search.specs.Searches.{from}
use Rattle.sets.specs.Sets.{connecting_sets}
use Rattle.sets.specs.Polynomial.{by_sizes}
use Rattle.sets.proofs.Polynomial.{alike, alike-sum}
use Rattle.sets.proofs.Few.{few-none, last_one}
use Rattle.plan.specs.declared.Rated.{Rated}
use Rattle.plan.specs.declared.Rated.TheVariants.{Units}
use Rattle.std.specs.Prelude.{Ok}
use Rattle.plan.specs.Plans.{size_n, size_m, file_value, rated, verdict, link_in, plan_of}
use Rattle.plan.specs.Weights.{sound_parts, all_parts, weight_in, exact_among, exact_of}
use Rattle.plan.proofs.Accepted.{plan-valid, plan-links, plan-nodes}

module _ (rating : ℕ → ℕ) (b : List ℕ) where
  -- link i is sound in p parts, and broken in q
  abbrev Chance : ℕ → ℕ → ℕ → Type 0
  Chance p q i = let r = rated (file_value b i) in (sound_parts rating r ≡ p) × (all_parts r - sound_parts rating r ≡ q)

  same-weights : (p q i k : ℕ) → ((j : ℕ) → i ≤ j → j < i + k → Chance p q j) → map (alike p q) (map ends (map (link_in rating b) (from i k))) ≡ map (weight_in rating b) (from i k)
  unfolding from weight_in
  same-weights p q i zero h = refl
  same-weights p q i (suc k) h =
      let first = h i (omega arith) (omega arith) in
      ap₂ ◌∷◌ (λ t. record { joins = ends (link_in rating b i); sound = sym first.0 t; broken = sym first.1 t }) (same-weights p q (suc i) k (λ j l u. h j (omega arith) (omega arith)))

  -- all links sound in p parts and broken in q: the exact reliability is the sum of entry i × p^i × q^(m − i)
  pub alike-exact : (p q : ℕ) → ((i : ℕ) → i < size_m b → Chance p q i) → exact_of rating b ≡ by_sizes p q (connecting_sets (plan_of rating b)) (size_m b)
  unfolding exact_among
  alike-exact p q h =
      ap (λ (ws : List Weighted). sum (from 0 (size_n b)) ws []) (sym (same-weights p q 0 (size_m b) (λ j l u. h j (omega arith))))
      ∙ sym (alike-sum p q (plan_of rating b)) ∙ ap (by_sizes p q (connecting_sets (plan_of rating b))) (plan-links rating b)

  -- all links of the value p in units: the sum of entry i × p^i × (S − p)^(m − i)
  pub polynomial-exact : (p : ℕ) → ((i : ℕ) → i < size_m b → rated (file_value b i) ≡ Units p) → exact_of rating b ≡ by_sizes p (S - p) (connecting_sets (plan_of rating b)) (size_m b)
  polynomial-exact p h = alike-exact p (S - p) (λ i l. (ap (sound_parts rating) (h i l), ap (λ (r : Rated). all_parts r - sound_parts rating r) (h i l)))

-- n nodes need n − 1 links
pub entries-before : (plan : List ℕ) → verdict plan ≡ Ok tt → (i : ℕ) → i + 1 < size_n plan → connecting_sets (plan_of T plan) i ≡ 0
entries-before plan ok i h = few-none (plan_of T plan) (plan-valid T plan built-in-range ok) i (omega (arith, plan-nodes T plan))

-- entry m is 1 exactly if the plan is connected
pub entry-last : (plan : List ℕ) → (connecting_sets (plan_of T plan) (size_m plan) ≡ 1) ↔ (connected (plan_of T plan).nodes (map ends (plan_of T plan).links) ≡ true)
entry-last plan = rw (plan-links T plan) at (last_one (plan_of T plan))
