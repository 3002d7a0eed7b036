use borrow.Author.Rules.{rules}
use Rattle.tables.specs.Tables.{value_in}
use Rattle.tables.proofs.value.Goals as goal

pub returns : goal.returns
unfolding value_in
returns c = search rules
