use lib.ListN.{length}
use Rattle.network.specs.Places.{links_of}
use Rattle.network.proofs.Joining.{Joining}
use Rattle.network.proofs.Network.parallel.Given as goal

abbrev pub invariant-loop-i : goal.invariant-loop-i
invariant-loop-i l = Joining l.initial.self l.self

abbrev pub decreases-loop-i : goal.decreases-loop-i
decreases-loop-i l = length (links_of l.self)
