use Prim.Native.Nat.{◌≤◌, ◌<◌}
use mathlib.Core.Path.{◌≡◌, sym, ap, ◌∙◌}
use mathlib.Core.List.{map}
use mathlib.Core.Bool.{true, false}
use native.Mathlib.Omega.{arith}
use lib.ListN.{length}
use borrow.Author.Rules.{rules}
use borrow.Author.Tests.{leb-true, leb-false}
use Rattle.bits.specs.Members.{members, how_many}
use Rattle.rounding.specs.Rounding.{S}
use Rattle.reliability.specs.Networks.{ends, connected}
use Rattle.reliability.specs.Rule.{is_loop, first_at, ready}
use Rattle.reliability.specs.Terminals.{Terminals, among, tree}
use Rattle.reliability.specs.Simple.{Loopless, without_loops, trimmed, unpaired}
use Rattle.reliability.proofs.Dropping.{dropping-few}
use Rattle.reliability.proofs.Simple.{unlooped-tree, unlooped-loopless, one-tree}
use Rattle.reliability.proofs.Separate.{apart-tree}
use Rattle.reliability.proofs.Trimmed.{Left, pieces-at-once}
use Rattle.search.specs.Searches.{Inside}
use Rattle.search.proofs.Marks.{length-places}
use Rattle.network.specs.declared.Network.{Network}
use Rattle.network.specs.Places.{network_of, terminals_of, links_of, chosen_of, Invariant, Sized}
use Rattle.network.proofs.Kept.{chosen-of}
use Rattle.network.specs.Workable.{Workable}
use Rattle.simple.specs.Begins.{Several}
use Rattle.network.proofs.Made.{sized_of, unpaired-work, unpaired-same, unpaired-few}
use Rattle.simple.proofs.Keeping.{piece-whole, none-outside, some-outside}
use Rattle.simple.proofs.start.Goals as goal
use Rattle.simple.proofs.start.Goals.{After-at_most_one, Else-at_most_one, Else-difference-ne0}

-- n is m without its loops
module _ (m n : Network) (holds : Invariant m) (made : (terminals_of n ≡ among (chosen_of m) (without_loops (network_of m))) × Invariant n) where
  loopless : Loopless (network_of n)
  loopless = ap (λ (g : Terminals). first_at is_loop g.network.links) made.0 ∙ unlooped-loopless (network_of m)

  alike : tree (terminals_of m) ≡ tree (terminals_of n)
  alike = unlooped-tree (terminals_of m) (chosen-of m holds) ∙ ap tree (sym made.0)

  one : length (chosen_of n) ≤ 1 → tree (terminals_of m) ≡ ready (λ d. S)
  one few = alike ∙ one-tree (terminals_of n) (chosen-of n made.1) loopless few

  apart : connected (chosen_of n) (map ends (links_of n)) ≡ false → tree (terminals_of m) ≡ ready (λ d. 0)
  apart h = alike ∙ apart-tree (terminals_of n) (chosen-of n made.1) h

  -- the chosen nodes are in one piece: r is n without the others, and q is r without pairs
  module _ (several : Several n) (connects : connected (chosen_of n) (map ends (links_of n)) ≡ true) (r : Network) (stays : terminals_of r ≡ trimmed (terminals_of n)) where
    left : Left (terminals_of n) (trimmed (terminals_of n))
    left = pieces-at-once (terminals_of n) (chosen-of n made.1) loopless several connects

    left-loopless : Loopless (network_of r)
    left-loopless = ap (λ (g : Terminals). first_at is_loop g.network.links) stays ∙ left.plain.loopless

    begun : (q : Network) → terminals_of q ≡ among (chosen_of r) (unpaired (network_of r)) → Sized q → Invariant q
        → Workable q × (tree (terminals_of m) ≡ tree (terminals_of q)) × (length (links_of q) ≤ length (links_of m))
    begun q joins sized kept =
        let few = unpaired-few left.plain r q stays joins in (
          unpaired-work left.plain r q stays joins sized kept,
          alike ∙ left.work ∙ unpaired-same left.plain r q stays joins,
          omega (arith, few, left.few, ap (λ (g : Terminals). length g.network.links) made.0, dropping-few is_loop (links_of m)),
        )

abbrev given : After-at_most_one → Network
given c = c.args.net

abbrev net : After-at_most_one → Network
net c = c.without_loops-n.result

sized : (c : After-at_most_one) → Sized (net c)
sized c = let l = c.without_loops-n in sized_of l.lifetimes l.result l.type_inv

several : (c : Else-at_most_one) → Several (net (goal.at.Else-at_most_one c).After-at_most_one)
several c =
    let s = (net (goal.at.Else-at_most_one c).After-at_most_one).chosen in
    omega (arith, leb-false (how_many (members s)) 1 (sym c.at_most_one.ensures ∙ c.if-at_most_one.false), length-places s)

-- no chosen node is outside of the piece
inside : (c : Else-difference-ne0) → Inside (net (goal.at.Else-difference-ne0 c).After-at_most_one).chosen c.chosen_piece-piece.result
inside c =
    none-outside (net (goal.at.Else-difference-ne0 c).After-at_most_one) (sized (goal.at.Else-difference-ne0 c).After-at_most_one) (several (goal.at.Else-difference-ne0 c).Else-at_most_one) c.chosen_piece-piece.result c.chosen_piece-piece.ensures c.difference.result c.difference.ensures c.if-difference-ne0.false

whole : (c : Else-difference-ne0) → let n = net (goal.at.Else-difference-ne0 c).After-at_most_one in connected (chosen_of n) (map ends (links_of n)) ≡ true
whole c =
    piece-whole (net (goal.at.Else-difference-ne0 c).After-at_most_one) (sized (goal.at.Else-difference-ne0 c).After-at_most_one) (several (goal.at.Else-difference-ne0 c).Else-at_most_one) c.chosen_piece-piece.result c.chosen_piece-piece.ensures (inside c)

pub returns-then-at_most_one : goal.returns-then-at_most_one
returns-then-at_most_one c =
    let l = c.without_loops-n in
    let few = leb-true (how_many (members (net (goal.at.returns-then-at_most_one c).After-at_most_one).chosen)) 1 (sym c.at_most_one.ensures ∙ c.if-at_most_one.true) in
    one (given (goal.at.returns-then-at_most_one c).After-at_most_one) (net (goal.at.returns-then-at_most_one c).After-at_most_one) c.requires l.ensures (omega (arith, few, length-places (net (goal.at.returns-then-at_most_one c).After-at_most_one).chosen))

pub chosen_piece-piece-requires : goal.chosen_piece-piece-requires
chosen_piece-piece-requires c = (c.without_loops-n.ensures.1, several c)

pub returns-then-difference-ne0 : goal.returns-then-difference-ne0
returns-then-difference-ne0 c =
    let l = c.without_loops-n in
    let some : 0 < c.difference.result = search (rules, c.if-difference-ne0.true) in
    let split = some-outside (net (goal.at.returns-then-difference-ne0 c).After-at_most_one) (sized (goal.at.returns-then-difference-ne0 c).After-at_most_one) (several (goal.at.returns-then-difference-ne0 c).Else-at_most_one) c.chosen_piece-piece.result c.chosen_piece-piece.ensures c.difference.result c.difference.ensures l.ensures.1.inside some (search rules) in
    apart (given (goal.at.returns-then-difference-ne0 c).After-at_most_one) (net (goal.at.returns-then-difference-ne0 c).After-at_most_one) c.requires l.ensures split

pub kept-rest-requires : goal.kept-rest-requires
kept-rest-requires c =
    let l = c.without_loops-n in
    (l.ensures.1, several (goal.at.kept-rest-requires c).Else-at_most_one, loopless (given (goal.at.kept-rest-requires c).After-at_most_one) (net (goal.at.kept-rest-requires c).After-at_most_one) c.requires l.ensures, c.chosen_piece-piece.ensures, inside c)

pub parallel-requires : goal.parallel-requires
parallel-requires c =
    let l = c.without_loops-n in
    (c.kept-rest.ensures.1, left-loopless (given (goal.at.parallel-requires c).After-at_most_one) (net (goal.at.parallel-requires c).After-at_most_one) c.requires l.ensures (several (goal.at.parallel-requires c).Else-at_most_one) (whole (goal.at.parallel-requires c).Else-difference-ne0) c.kept-rest.result c.kept-rest.ensures.0)

pub returns : goal.returns
returns c =
    let l = c.without_loops-n in
    let q = c.parallel in
    begun (given (goal.at.returns c).After-at_most_one) (net (goal.at.returns c).After-at_most_one) c.requires l.ensures (several (goal.at.returns c).Else-at_most_one) (whole (goal.at.returns c).Else-difference-ne0) c.kept-rest.result c.kept-rest.ensures.0
    q.result q.ensures.0 (sized_of q.lifetimes q.result q.type_inv) q.ensures.1
