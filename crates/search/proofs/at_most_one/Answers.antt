use borrow.Author.Rules.{rules}
use Rattle.search.proofs.Marks.{few-none, few-rest}
use Rattle.search.proofs.at_most_one.Goals as goal

pub returns-then-s-eq0 : goal.returns-then-s-eq0
returns-then-s-eq0 c = few-none c.args.s (search rules)

pub returns-else-s-eq0 : goal.returns-else-s-eq0
returns-else-s-eq0 c = few-rest c.args.s c.without_lowest.result (search rules) (search rules) (search rules) c.without_lowest.ensures
