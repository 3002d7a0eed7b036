use lib.ListN.{length}
use Rattle.network.specs.Places.{links_of}
use Rattle.simple.proofs.+without_loops.Given as goal

abbrev pub decreases-without_loops : goal.decreases-without_loops
decreases-without_loops l = length (links_of l.net)
