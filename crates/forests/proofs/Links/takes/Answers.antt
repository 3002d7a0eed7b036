use mathlib.Core.Path.{ap, ◌∙◌}
use Rattle.game.specs.Game.{among, marked}
use Rattle.forests.specs.Links.{links_of, labels_of}
use Rattle.forests.proofs.Tables.{differ-law, whole}
use Rattle.forests.proofs.Links.takes.Goals as goal

pub returns : goal.returns
returns c =
    let a = c.args in
    let fit = c.requires in
    c.apart.ensures
    ∙ differ-law a.self fit (among (marked a.k a.marks) (links_of a.self)) c.labels-labels.result
    (c.labels-labels.ensures ∙ ap labels_of (whole a.self fit c.with_mark-forest.result (marked a.k a.marks) c.with_mark-forest.ensures))
