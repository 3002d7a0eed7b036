-- What it means that a network by value is made simple.
use Rattle.std.specs.Prelude.{ℕ, ◌≤◌, ◌<◌, ◌≡◌, length}
use Rattle.bits.specs.Members.{members, first_of}
use Rattle.reliability.specs.Rule.{ready}
use Rattle.reliability.specs.Terminals.{tree}
use Rattle.search.specs.Searches.{ends_in}
use Rattle.pieces.specs.Pieces.{PieceOf}
use Rattle.network.specs.declared.Network.{Network}
use Rattle.network.specs.Places.{terminals_of, links_of, chosen_of}
use Rattle.network.specs.Workable.{Workable}
use Rattle.simple.specs.declared.Begun.{Begun}
use Rattle.simple.specs.declared.Begun.TheVariants.{Settled, Simple}

-- more than one node is chosen
abbrev pub Several : Network → Type 0
Several n = 1 < length (chosen_of n)

-- the set has the nodes in one piece with the lowest chosen node
abbrev pub ChosenPiece : Network → ℕ → Type 0
ChosenPiece n piece = PieceOf piece n.nodes (ends_in n.alive n.a n.b) (first_of (members n.chosen))

-- n is settled, or it is worked as a simple network is that has no more links
abbrev pub Begins : Network → Begun → Type 0
Begins n (Settled units) = tree (terminals_of n) ≡ ready (λ d. units)
Begins n (Simple rest) = Workable rest × (tree (terminals_of n) ≡ tree (terminals_of rest)) × (length (links_of rest) ≤ length (links_of n))
