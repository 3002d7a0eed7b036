use mathlib.Core.Path.{sym, ap, ◌∙◌}
use borrow.Author.Rules.{rules}
use Rattle.reliability.specs.Networks.{pieces}
use Rattle.network.specs.Places.{nodes_of, Sized}
use Rattle.network.proofs.Ends.{links-ends, ended}
use Rattle.simple.proofs.pieces.Goals as goal
use Rattle.simple.proofs.pieces.Goals.{Start}

-- The pieces by place are those of the network.
sized : (c : Start) → Sized c.args.net
sized c = search rules

pub count-requires : goal.count-requires
count-requires c =
    ((sized (goal.at.count-requires c).Start).nodes, c.requires.tallies, ended c.args.net (sized (goal.at.count-requires c).Start) c.requires.valid)

pub returns : goal.returns
returns c =
    c.count.ensures ∙ ap (pieces (nodes_of c.args.net)) (sym (links-ends c.args.net (sized (goal.at.returns c).Start)))
