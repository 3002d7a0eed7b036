use Prim.Native.Nat.{ℕ}
use mathlib.Core.Bool.{Bool}
use lib.Dec.{eqb}
use lib.ListN.{get_or}
use borrow.Author.Rules.{rules}
use borrow.Author.Tests.{tests}
use Rattle.search.proofs.Finds.{finds, serves}
use Rattle.search.proofs.Sets.{has-place}
use Rattle.search.proofs.first_loop.Goals as goal
use Rattle.search.proofs.first_loop.Goals.{Start}

abbrev test : (c : Start) → ℕ → Bool
test c k = eqb (get_or c.args.a.now k 0) (get_or c.args.b.now k 0)

pub find-requires-clause-callable : goal.find-requires-clause-callable
find-requires-clause-callable c =
    serves c.args.alive c.of.ensures (test (goal.at.find-requires-clause-callable c).Start) (λ x b q k. search (rules, tests)) (λ x h. search (rules, tests, has-place))

-- what is done with the place found is left to the search
pub returns : goal.returns
returns c =
    let first = finds c.args.alive c.of.ensures (test (goal.at.returns c).Start) (λ x b q k. search (rules, tests)) _ c.find.result c.find.ensures.ran in
    search (rules, first)
