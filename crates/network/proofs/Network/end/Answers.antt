use mathlib.Core.Path.{sym, ap, ◌∙◌}
use native.Mathlib.Omega.{arith}
use Rattle.reliability.specs.Rule.{across}
use Rattle.network.specs.Places.{Sized}
use Rattle.network.proofs.Picks.{link-at}
use Rattle.network.proofs.Kept.{ended-as, ends-below, across-below}
use borrow.Author.Rules.{rules}
use Rattle.network.proofs.Network.end.Goals as goal
use Rattle.network.proofs.Network.end.Goals.{Start}

sized : (c : Start) → Sized c.args.self
sized c = search rules

pub unlink-requires : goal.unlink-requires
unlink-requires c =
    let u = c.requires.1.placed.1 in
    let e = ends-below c.args.self (sized (goal.at.unlink-requires c).Start) c.requires.0 c.args.i u in
    (omega (arith, e), omega (arith, e), omega (arith, u.below))

pub overflow_cast-v : goal.overflow_cast-v
overflow_cast-v c = record { fits = let v = c.requires.1.placed.0 in omega arith }

pub into-requires : goal.into-requires
into-requires c =
    let u = c.requires.1.placed.1 in
    (across-below _ _ _ (ends-below c.args.self (sized (goal.at.into-requires c).Start) c.requires.0 c.args.i u) c.across.ensures, c.requires.1.placed.0)

pub returns : goal.returns
returns c =
    let u = c.unlink in
    let e = u.ensures in
    let n = c.args.self in
    let i = c.args.i in
    let v = c.args.v in
    let neighbour = c.across.ensures ∙ ap (across v) (sym (link-at n (sized (goal.at.returns c).Start) i c.requires.1.placed.1)) in
    ended-as n (sized (goal.at.returns c).Start) c.requires.0 v i c.requires.1 u.result c.without_node.result c.into.result c.across.result e.out.half u.new.at
    e.left c.without_node.ensures neighbour c.into.ensures e.out.first e.out.second
