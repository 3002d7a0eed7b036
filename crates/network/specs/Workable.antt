-- Simple networks by value.
use Rattle.reliability.specs.Simple.{Simple}
use Rattle.network.specs.declared.Network.{Network}
use Rattle.network.specs.Places.{Sized, Invariant, terminals_of}

-- what the engine holds of a network
pub record Workable (n : Network) : Type 0 where
  pub sized : Sized n
  pub holds : Invariant n
  pub simple : Simple (terminals_of n)
