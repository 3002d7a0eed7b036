use mathlib.Core.Path.{◌∙◌}
use borrow.Author.Rules.{rules}
use Rattle.search.proofs.Marks.{count-rest, count_none}
use Rattle.search.proofs.is_two.Goals as goal

pub returns-then-s-ne0 : goal.returns-then-s-ne0
returns-then-s-ne0 c =
    c.is_one.ensures ∙ count-rest c.args.s c.without_lowest.result 1 (search rules) (search rules) c.without_lowest.ensures

pub returns-else-s-ne0 : goal.returns-else-s-ne0
returns-else-s-ne0 c = count_none c.args.s 1 (search rules)
