-- A network without loops and pairs, of more than one chosen node: it is settled, or without the links astray it is simple.
use Prim.Native.Nat.{ℕ, ◌^◌, ◌≤◌, ◌<◌}
use mathlib.Core.Path.{◌≡◌, sym, ap, subst, ◌∙◌}
use mathlib.Core.List.{List}
use lib.ListN.{length}
use Rattle.bits.specs.Members.{members, difference}
use Rattle.reliability.specs.Rule.{ready}
use Rattle.reliability.specs.Terminals.{Terminals, tree}
use Rattle.reliability.specs.Simple.{Loopless, Pairless, Simple, trimmed}
use Rattle.reliability.proofs.Separate.{apart-tree}
use Rattle.reliability.proofs.Trimmed.{Left, pieces-at-once}
use Rattle.parts.specs.Tallies.{Cleared, Remaining}
use Rattle.network.specs.declared.Network.{Network}
use Rattle.network.specs.Places.{network_of, terminals_of, links_of, Invariant, Sized}
use Rattle.network.specs.Workable.{Workable}
use Rattle.network.proofs.Kept.{chosen-of}
use Rattle.simple.specs.Begins.{Several, ChosenPiece}
use Rattle.simple.proofs.Keeping.{piece-whole, none-outside, some-outside, kept-right}

module _ (n : Network) (sized : Sized n) (holds : Invariant n) (several : Several n) (piece : ℕ) (of-piece : ChosenPiece n piece)
    (rest : ℕ) (rest-is : members rest ≡ difference (members n.chosen) (members piece)) where
  -- a chosen node is outside of the piece
  pub broken-apart : 0 < rest → rest < 2 ^ 64 → tree (terminals_of n) ≡ ready (λ d. 0)
  broken-apart some small = apart-tree (terminals_of n) (chosen-of n holds) (some-outside n sized several piece of-piece rest rest-is holds.inside some small)

  -- none is: the links at the nodes outside of the piece go
  module _ (none : rest ≡ 0) (loopless : Loopless (network_of n)) (others left : ℕ) (after : List ℕ) (others-is : members others ≡ difference (members n.nodes) (members piece))
      (remaining : Remaining others n.at n.alive left) (cleared : Cleared others n.at after) where
    abbrev r : Network
    r = record { alive = left; at = after; low = n.low; high = n.high; a = n.a; b = n.b; nodes = n.nodes; chosen = n.chosen }

    is : (terminals_of r ≡ trimmed (terminals_of n)) × Invariant r
    is = kept-right n sized holds several piece of-piece (none-outside n sized several piece of-piece rest rest-is none) others left after others-is remaining cleared loopless

    leaves : Left (terminals_of n) (trimmed (terminals_of n))
    leaves = pieces-at-once (terminals_of n) (chosen-of n holds) loopless several (piece-whole n sized several piece of-piece (none-outside n sized several piece of-piece rest rest-is none))

    pub broken-work : Pairless (network_of n) → Workable r
    broken-work pairless = record {
      sized = record {
        nodes = sized.nodes;
        chosen = sized.chosen;
        at_length = cleared.size ∙ sized.at_length;
        a_length = sized.a_length;
        b_length = sized.b_length;
        low_length = sized.low_length;
        high_length = sized.high_length;
      };
      holds = is.1;
      simple = subst Simple (sym is.0) (record { plain = leaves.plain; pairless = leaves.pairless pairless });
    }

    pub broken-same : tree (terminals_of n) ≡ tree (terminals_of r)
    broken-same = leaves.work ∙ ap tree (sym is.0)

    pub broken-few : length (links_of r) ≤ length (links_of n)
    broken-few = subst (λ (h : Terminals). length h.network.links ≤ length (links_of n)) (sym is.0) leaves.few
