use borrow.Author.Tests.{eq-eqb, ne_eqb}
use Rattle.search.proofs.across.Goals as goal

pub returns-then-a-v : goal.returns-then-a-v
returns-then-a-v c = simp (eq-eqb _ _ c.if-a-v.true)

pub returns-else-a-v : goal.returns-else-a-v
returns-else-a-v c = simp (ne_eqb _ _ c.if-a-v.false)
