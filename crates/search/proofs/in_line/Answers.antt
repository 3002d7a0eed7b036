use mathlib.Core.Path.{sym, ap, ◌∙◌}
use mathlib.Core.Bool.{Bool, ◌&&◌}
use borrow.Author.Tests.{eqb-true}
use Rattle.search.specs.Searches.{between_at}
use Rattle.search.proofs.in_line.Goals as goal
use Rattle.search.proofs.in_line.Goals.{Start}

abbrev test : (c : Start) → Bool
test c = between_at c.args.chosen c.args.a.now c.args.b.now c.args.v c.args.s

pub between-requires : goal.between-requires
between-requires c =
    let p = c.requires in
    (p.0, eqb-true _ _ (sym c.is_two.ensures ∙ c.if-is_two.true), p.1)

pub returns-then-is_two : goal.returns-then-is_two
returns-then-is_two c =
    c.between.ensures ∙ ap (λ (b : Bool). b && test (goal.at.returns-then-is_two c).Start) (sym c.if-is_two.true ∙ c.is_two.ensures)

pub returns-else-is_two : goal.returns-else-is_two
returns-else-is_two c =
    c.if-is_two.false ∙ ap (λ (b : Bool). b && test (goal.at.returns-else-is_two c).Start) (sym c.if-is_two.false ∙ c.is_two.ensures)
