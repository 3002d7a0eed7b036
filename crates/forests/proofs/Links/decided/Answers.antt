use mathlib.Core.Path.{◌≡◌, ◌∙◌}
use native.Mathlib.Omega.{arith}
use lib.ListN.{length}
use Rattle.forests.proofs.Answers.{fit_of, labelling, with-trees, with-groups}
use borrow.Author.Rules.{rules}
use Rattle.forests.proofs.Links.decided.Goals as goal
use Rattle.forests.proofs.Links.decided.Goals.{After-found-inside}

pub found-inside-requires : goal.found-inside-requires
found-inside-requires c = fit_of c.args.self c.args.n c.requires

-- 64 marks
marks : (c : After-found-inside) → length c.found-inside.result.marks ≡ 64
marks c = search rules

pub returns-then-one-two : goal.returns-then-one-two
returns-then-one-two c =
    let a = c.args in
    with-trees a.self a.n c.requires c.found-inside.result c.from-one.result c.from-two.result c.found-inside.ensures (c.from-one.ensures ∙ c.how_many.ensures) (c.from-two.ensures ∙ c.how_many-2.ensures) (marks (goal.at.returns-then-one-two c).After-found-inside) (omega arith)

pub labels-labels-requires : goal.labels-labels-requires
labels-labels-requires c = fit_of c.args.self c.args.n c.requires

pub groups-requires : goal.groups-requires
groups-requires c = (omega (arith, c.requires.nodes), labelling _ c.labels-labels.result c.labels-labels.ensures)

pub returns : goal.returns
returns c =
    let a = c.args in
    with-groups a.self a.n c.requires c.found-inside.result c.from-one.result c.from-two.result c.found-inside.ensures (c.from-one.ensures ∙ c.how_many.ensures) (c.from-two.ensures ∙ c.how_many-2.ensures)
    c.labels-labels.result c.groups.result c.labels-labels.ensures c.groups.ensures (search rules) (omega arith)
