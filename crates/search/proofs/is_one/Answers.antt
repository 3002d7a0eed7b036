use mathlib.Core.Path.{◌∙◌}
use borrow.Author.Rules.{rules}
use Rattle.search.proofs.Marks.{empty-test, count-rest, count_none}
use Rattle.search.proofs.is_one.Goals as goal

pub returns-then-s-ne0 : goal.returns-then-s-ne0
returns-then-s-ne0 c =
    let s = c.args.s in
    let r = c.without_lowest.result in
    empty-test r (search rules) ∙ count-rest s r 0 (search rules) (search rules) c.without_lowest.ensures

pub returns-else-s-ne0 : goal.returns-else-s-ne0
returns-else-s-ne0 c = count_none c.args.s 0 (search rules)
