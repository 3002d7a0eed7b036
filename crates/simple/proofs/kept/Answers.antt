use borrow.Author.Rules.{rules}
use Rattle.network.specs.Places.{Sized}
use Rattle.simple.proofs.Keeping.{outside-fits, kept-right}
use Rattle.simple.proofs.kept.Goals as goal
use Rattle.simple.proofs.kept.Goals.{Start}

sized : (s : Start) → Sized s.args.net
sized s = search rules

pub clear-requires : goal.clear-requires
clear-requires c =
    outside-fits c.args.net (sized (goal.at.clear-requires c).Start) c.args.piece c.difference-others.result c.difference-others.ensures (search rules)

pub returns : goal.returns
returns c =
    kept-right c.args.net (sized (goal.at.returns c).Start) c.requires.0 c.requires.1 c.args.piece c.requires.3 c.requires.4
    c.difference-others.result c.clear.result _ c.difference-others.ensures c.clear.ensures.remaining c.clear.ensures.cleared c.requires.2
