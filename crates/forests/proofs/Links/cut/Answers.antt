use mathlib.Core.Path.{ap, ◌∙◌}
use native.Mathlib.Omega.{arith}
use lib.ListN.{get_or}
use Rattle.game.specs.Game.{among, marked}
use Rattle.game.specs.Forests.{without}
use Rattle.forests.specs.Links.{links_of, labels_of}
use Rattle.forests.proofs.Tables.{differ-law, lessened}
use Rattle.forests.proofs.Links.cut.Goals as goal

pub returns : goal.returns
returns c =
    let a = c.args in
    let fit = c.requires.0 in
    let q = marked (get_or a.marks a.f 0) a.marks in
    c.apart.ensures
    ∙ differ-law a.self fit (among (without q a.f) (links_of a.self)) c.labels-labels.result
    (c.labels-labels.ensures ∙ ap labels_of (lessened a.self fit c.with_mark-forest.result c.without-others.result a.f q (omega arith) c.with_mark-forest.ensures c.without-others.ensures))
