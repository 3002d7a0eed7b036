use mathlib.Core.Path.{◌≡◌, ap, ◌∙◌}
use mathlib.Core.List.{[], ◌∷◌}
use native.Mathlib.Omega.{arith}
use borrow.Author.Rules.{rules}
use Rattle.search.specs.Searches.{places_in}
use Rattle.search.proofs.Marks.{lowest-of, lowest-rest, none-listed}
use Rattle.search.proofs.PlacesIterator.next.Goals as goal

pub returns-then-self-eq0-clause-steps : goal.returns-then-self-eq0-clause-steps
returns-then-self-eq0-clause-steps c =
    let e : places_in c.args.self.now.0 ≡ [] = ap places_in c.if-self-eq0.true ∙ none-listed in (e, e)

pub returns-clause-steps : goal.returns-clause-steps
returns-clause-steps c =
    let s = c.args.self.now.0 in
    lowest-rest s c.lowest-k.result (lowest-of s c.lowest-k.result (omega arith) (search rules) c.lowest-k.ensures) c.without_lowest-self.result c.without_lowest-self.ensures

pub returns-clause-goes : goal.returns-clause-goes
returns-clause-goes c =
    let s = c.args.self.now.0 in
    let e : places_in s ≡ c.lowest-k.result ∷ places_in c.without_lowest-self.result =
    lowest-rest s c.lowest-k.result (lowest-of s c.lowest-k.result (omega arith) (search rules) c.lowest-k.ensures) c.without_lowest-self.result c.without_lowest-self.ensures in
    search rules
