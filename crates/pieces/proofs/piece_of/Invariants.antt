use Rattle.bits.specs.Members.{members, how_many}
use Rattle.pieces.proofs.Flood.{Flood}
use Rattle.pieces.proofs.piece_of.Given as goal

-- Each turn follows a link that touches a node seen. The measure is the number of links not yet followed.
abbrev pub invariant-loop-seen : goal.invariant-loop-seen
invariant-loop-seen l = Flood l.v l.nodes l.alive l.a l.b l.seen l.near l.left

abbrev pub decreases-loop-seen : goal.decreases-loop-seen
decreases-loop-seen l = how_many (members l.left)
