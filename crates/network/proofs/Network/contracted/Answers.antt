use native.Mathlib.Omega.{arith}
use Rattle.network.proofs.Kept.{ends-below}
use Rattle.network.proofs.Merging.{contracts}
use Rattle.network.specs.Places.{Sized}
use borrow.Author.Rules.{rules}
use Rattle.network.proofs.Network.contracted.Goals as goal
use Rattle.network.proofs.Network.contracted.Goals.{Start}

sized : (c : Start) → Sized c.args.self
sized c = search rules

pub unlink-requires : goal.unlink-requires
unlink-requires c =
    let e = ends-below c.args.self (sized (goal.at.unlink-requires c).Start) c.requires.0 c.args.i c.requires.1 in
    (omega (arith, e), omega (arith, e), omega (arith, c.requires.1.below))

pub merge-moved-requires : goal.merge-moved-requires
merge-moved-requires c =
    let lower = c.lower-keep.ensures in
    let higher = c.higher-gone.ensures in
    let e = ends-below c.args.self (sized (goal.at.merge-moved-requires c).Start) c.requires.0 c.args.i c.requires.1 in
    (omega (arith, e, lower, higher), omega (arith, e, lower, higher))

pub without_node-requires : goal.without_node-requires
without_node-requires c =
    let e = ends-below c.args.self (sized (goal.at.without_node-requires c).Start) c.requires.0 c.args.i c.requires.1 in
    omega (arith, e, c.lower-keep.ensures, c.higher-gone.ensures)

pub into-requires : goal.into-requires
into-requires c =
    let e = ends-below c.args.self (sized (goal.at.into-requires c).Start) c.requires.0 c.args.i c.requires.1 in
    let higher = c.higher-gone.ensures in
    let lower = c.lower-keep.ensures in
    (omega (arith, e, lower, higher), omega (arith, e, lower, higher))

pub returns : goal.returns
returns c =
    let y = c.rename-2 in
    let x = c.rename in
    let m = c.merge-moved in
    let u = c.unlink in
    let e = u.ensures in
    let higher = c.higher-gone in
    let lower = c.lower-keep in
    let k = contracts c.args.self (sized (goal.at.returns c).Start) c.requires.0 c.args.i c.requires.1 c.requires.2 lower.result higher.result lower.ensures higher.ensures u.result c.without_node.result c.into.result m.result e.out.half u.new.at m.new.at x.new.ends y.new.ends
    e.left c.without_node.ensures c.into.ensures e.out.first e.out.second m.ensures.moved m.ensures.merged x.ensures y.ensures in
    (k.0, k.1, e.left)
