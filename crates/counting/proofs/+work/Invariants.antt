use lib.ListN.{length}
use Rattle.network.specs.Places.{links_of}
use Rattle.counting.proofs.+work.Given as goal

abbrev pub decreases-work : goal.decreases-work
decreases-work l = length (links_of l.net)
