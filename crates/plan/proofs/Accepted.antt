-- The network of an accepted plan is valid.
use Prim.Native.Nat.{ℕ, ◌<◌}
use mathlib.Core.Path.{◌≡◌, ap, ◌∙◌}
use mathlib.Core.List.{List}
use native.Mathlib.Nat.{zero-add}
use native.Mathlib.Omega.{arith}
use lib.ListN.{length, length-map}
use Rattle.reliability.specs.declared.Link.{Link}
use Rattle.reliability.specs.Networks.{Valid, linked, link_at}
use Rattle.std.specs.Prelude.{Ok}
use Rattle.plan.specs.Plans.{size_n, size_m, first_end, second_end, verdict, link_in, plan_of}
use Rattle.ratings.specs.Ratings.{AtMostS}
use Rattle.search.specs.Searches.{from}
use Rattle.search.proofs.Sets.{from-size, from-node, ascending-from}
use Rattle.plan.proofs.Links.{at_place, links-proper}

module _ (rating : ℕ → ℕ) (b : List ℕ) where
  pub plan-valid : AtMostS rating → verdict b ≡ Ok tt → Valid (plan_of rating b)
  plan-valid chances h = record { ascending = ascending-from 0 (size_n b); proper = links-proper rating chances b (from 0 (size_n b)) (λ v l. from-node 0 (size_n b) v (omega arith) (omega arith)) h }

  pub plan-links : length (plan_of rating b).links ≡ size_m b
  plan-links = length-map (from 0 (size_m b)) (link_in rating b) ∙ from-size 0 (size_m b)

  pub plan-nodes : length (plan_of rating b).nodes ≡ size_n b
  plan-nodes = from-size 0 (size_n b)

  -- link i
  pub plan-link : (i : ℕ) → i < size_m b → link_at (plan_of rating b) i ≡ link_in rating b i
  plan-link i h = rw (zero-add i) at (at_place (link_in rating b) (linked 0 0 (λ d. 0)) 0 (size_m b) i h)

  -- its ends are those of the file
  pub plan-ends : (i : ℕ) → i < size_m b → ((link_at (plan_of rating b) i).a ≡ first_end b i) × ((link_at (plan_of rating b) i).b ≡ second_end b i)
  unfolding link_in
  plan-ends i h = let e = plan-link i h in (ap (λ (l : Link). l.a) e, ap (λ (l : Link). l.b) e)
