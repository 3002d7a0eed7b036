use Prim.Native.Nat.{ℕ}
use mathlib.Core.Bool.{Bool, ◌&&◌}
use lib.Dec.{eqb}
use lib.ListN.{get_or}
use borrow.Author.Rules.{rules}
use borrow.Author.Tests.{tests}
use Rattle.bits.specs.Members.{members, how_many}
use Rattle.search.specs.Searches.{between_at}
use Rattle.search.proofs.Finds.{finds, serves}
use Rattle.search.proofs.Sets.{has-below}
use Rattle.search.proofs.lowest_in_line.Goals as goal
use Rattle.search.proofs.lowest_in_line.Goals.{Start}

abbrev test : (c : Start) → ℕ → Bool
test c v =
    let s = c.args in
    let here = get_or s.at.now v 0 in
    eqb (how_many (members here)) 2 && between_at s.chosen s.a.now s.b.now v here

pub find-requires-clause-callable : goal.find-requires-clause-callable
find-requires-clause-callable c =
    serves c.args.nodes c.of.ensures (test (goal.at.find-requires-clause-callable c).Start) (λ x b q k. search (rules, tests))
    (λ x h. let below = has-below c.args.nodes 32 x c.requires.0 h in let bounded = c.requires.1 x below in search (rules, tests, below, bounded))

-- what is done with the place found is left to the search
pub returns : goal.returns
returns c =
    let first = finds c.args.nodes c.of.ensures (test (goal.at.returns c).Start) (λ x b q k. search (rules, tests)) _ c.find.result c.find.ensures.ran in
    search (rules, first)
