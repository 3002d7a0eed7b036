use native.Mathlib.Omega.{arith}
use Rattle.network.specs.Places.{Sized}
use Rattle.network.proofs.Kept.{ends-below, deletes}
use borrow.Author.Rules.{rules}
use Rattle.network.proofs.Network.deleted.Goals as goal
use Rattle.network.proofs.Network.deleted.Goals.{Start}

sized : (c : Start) → Sized c.args.self
sized c = search rules

pub unlink-requires : goal.unlink-requires
unlink-requires c =
    let e = ends-below c.args.self (sized (goal.at.unlink-requires c).Start) c.requires.0 c.args.i c.requires.1 in
    (omega (arith, e), omega (arith, e), omega (arith, c.requires.1.below))

pub returns : goal.returns
returns c =
    let u = c.unlink in
    let e = u.ensures in
    let k = deletes c.args.self (sized (goal.at.returns c).Start) c.requires.0 c.args.i c.requires.1 u.result e.out.half u.new.at e.left e.out.first e.out.second in
    (k.0, k.1, e.left)
