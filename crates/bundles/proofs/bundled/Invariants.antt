use lib.ListN.{length}
use Rattle.network.specs.Places.{links_of}
use Rattle.bundles.proofs.Bundling.{Bundling}
use Rattle.bundles.proofs.bundled.Given as goal

abbrev pub invariant-loop-i : goal.invariant-loop-i
invariant-loop-i l = Bundling l.initial.net l.net

abbrev pub decreases-loop-i : goal.decreases-loop-i
decreases-loop-i l = length (links_of l.net)
