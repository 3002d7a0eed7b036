-- A network by value that stands for a plan, its links at their places.
use Prim.Native.Nat.{ℕ, ◌<◌}
use mathlib.Core.Path.{◌≡◌, ap, ap₂, ◌∙◌}
use mathlib.Core.List.{List}
use native.Mathlib.Nat.{le_of_lt}
use Rattle.reliability.specs.Networks.{Network, link_at}
use Rattle.reliability.specs.Rule.{tree}
use Rattle.reliability.specs.Terminals.{among, tree as tree_of}
use Rattle.reliability.specs.Comparisons.{importance}
use Rattle.reliability.proofs.Everywhere.{tree-everywhere}
use Rattle.search.specs.Searches.{nodes_in}
use Rattle.network.specs.declared.Network.{Network as Slots}
use Rattle.network.specs.Places.{network_of, terminals_of, index_of, link_of, Built, Invariant}
use Rattle.network.proofs.Picks.{built-index}
use Rattle.plan.specs.Plans.{size_m, link_in, plan_of}
use Rattle.plan.proofs.Accepted.{plan-link}

-- the importance of the link at a place is that of the plan's link
pub stands-importance : (g : Network) (b : List ℕ) (n : Slots) → network_of n ≡ g → Built n (size_m b) → (place : ℕ) → place < size_m b
    → (limit : ℕ) → importance (network_of n) (index_of n place) limit ≡ importance g place limit
stands-importance g b n is built place within limit =
    ap₂ (λ (h : Network) (k : ℕ). importance h k limit) is (built-index n (size_m b) built place (le_of_lt within))

-- the link at a place is the plan's
pub stands-link : (rating : ℕ → ℕ) (b : List ℕ) (n : Slots) → network_of n ≡ plan_of rating b → Built n (size_m b) → (place : ℕ) → place < size_m b
    → link_of n place ≡ link_in rating b place
stands-link rating b n is built place within =
    ap₂ link_at is (built-index n (size_m b) built place (le_of_lt within)) ∙ plan-link rating b place within

-- its work is the plan's, by the rule of document 01
pub stands-tree : (g : Network) (n : Slots) → network_of n ≡ g → n.chosen ≡ n.nodes → Invariant n → tree_of (terminals_of n) ≡ tree g
stands-tree g n is all holds =
    ap (λ (s : ℕ). tree_of (among (nodes_in s) (network_of n))) all ∙ tree-everywhere (network_of n) holds.valid ∙ ap tree is
