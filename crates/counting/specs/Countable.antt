-- Networks by value whose sets are counted.
use Rattle.std.specs.Prelude.{◌≡◌}
use Rattle.polynomials.specs.Rows.{Fits}
use Rattle.sets.specs.Bundles.{most}
use Rattle.network.specs.declared.Network.{Network}
use Rattle.network.specs.Places.{network_of, nodes_of, chosen_of, Invariant}

-- all nodes have to be connected, and there are no more sets than of 24 links
pub record Countable (n : Network) : Type 0 where
  pub holds : Invariant n
  pub all : chosen_of n ≡ nodes_of n
  pub room : Fits (λ x. most x (network_of n))
