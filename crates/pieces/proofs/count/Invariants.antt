use Prim.Native.Nat.{◌^◌, ◌<◌}
use Rattle.reliability.specs.Networks.{pieces}
use Rattle.search.specs.Searches.{ends_in, nodes_in}
use Rattle.pieces.proofs.Counting.{Counted}
use Rattle.pieces.proofs.count.Given as goal

-- Each turn takes the piece of the lowest node left. The measure is the number of pieces left.
abbrev pub invariant-loop-rest : goal.invariant-loop-rest
invariant-loop-rest l = Counted l.nodes l.alive l.a l.b l.rest l.count × (l.rest < 2 ^ 64)

abbrev pub decreases-loop-rest : goal.decreases-loop-rest
decreases-loop-rest l = pieces (nodes_in l.rest) (ends_in l.alive l.a l.b)
