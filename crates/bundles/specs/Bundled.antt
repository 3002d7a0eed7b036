-- What it means that a network's links with the same two ends are made one.
use Rattle.std.specs.Prelude.{ℕ, ◌≤◌, ◌≡◌, length}
use Rattle.reliability.specs.Simple.{Loopless, Pairless}
use Rattle.sets.specs.Bundles.{worth, most}
use Rattle.network.specs.declared.Network.{Network}
use Rattle.network.specs.Places.{network_of, links_of, Invariant}

-- r has the nodes of n, no two links with the same two ends, and the same sets of what the links stand for
pub record Bundled (n r : Network) : Type 0 where
  pub holds : Invariant r
  pub nodes : r.nodes ≡ n.nodes
  pub chosen : r.chosen ≡ n.chosen
  pub loopless : Loopless (network_of r)
  pub pairless : Pairless (network_of r)
  pub worth : (x : ℕ) → worth x (network_of r) ≡ worth x (network_of n)
  pub most : (x : ℕ) → most x (network_of r) ≡ most x (network_of n)
  pub fewer : length (links_of r) ≤ length (links_of n)
