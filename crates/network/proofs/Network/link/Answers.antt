use mathlib.Core.Path.{sym}
use Rattle.network.specs.Places.{Sized}
use Rattle.network.proofs.Picks.{link-at}
use borrow.Author.Rules.{rules}
use Rattle.network.proofs.Network.link.Goals as goal
use Rattle.network.proofs.Network.link.Goals.{Start}

sized : (c : Start) → Sized c.args.self
sized c = search rules

pub returns : goal.returns
returns c =
    sym (link-at c.args.self (sized (goal.at.returns c).Start) c.args.i c.requires)
