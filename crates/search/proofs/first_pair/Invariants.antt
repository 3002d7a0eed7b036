use mathlib.Core.Path.{◌≡◌}
use Rattle.bits.specs.Members.{members, how_many}
use Rattle.search.specs.Searches.{places_in, Inside, beside, pair_in}
use Rattle.search.proofs.first_pair.Given as goal

abbrev pub invariant-loop-i : goal.invariant-loop-i
invariant-loop-i l = (pair_in (beside l.a l.b) (places_in l.alive) ≡ pair_in (beside l.a l.b) (places_in l.left.0)) × Inside l.left.0 l.alive

abbrev pub decreases-loop-i : goal.decreases-loop-i
decreases-loop-i l = how_many (members l.left.0)
