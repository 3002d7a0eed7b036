use mathlib.Core.Path.{refl}
use mathlib.Core.List.{[], ◌∷◌, ◌++◌}
use lib.ListN.{set}
use native.Mathlib.Omega.{arith}
use Rattle.reliability.specs.Terminals.{Chosen, among}
use Rattle.reliability.proofs.Validity.{appended-valid}
use Rattle.network.specs.declared.Network.{Network}
use Rattle.network.specs.Places.{nodes_of, chosen_of, network_of, Sized}
use Rattle.network.proofs.Picks.{all-even, rows-set, built-more, built-appended}
use Rattle.network.proofs.Kept.{stands, chosen-of, proper-below, put-into}
use borrow.Author.Rules.{rules}
use Rattle.network.proofs.Network.with_link.Goals as goal
use Rattle.network.proofs.Network.with_link.Goals.{Start}

sized : (c : Start) → Sized c.args.self
sized c = search rules

pub put_in-requires : goal.put_in-requires
put_in-requires c =
    (omega (arith, proper-below c.args.self (sized (goal.at.put_in-requires c).Start) c.args.l c.requires.3), c.requires.2)

pub put_in-requires-2 : goal.put_in-requires-2
put_in-requires-2 c =
    (omega (arith, proper-below c.args.self (sized (goal.at.put_in-requires-2 c).Start) c.args.l c.requires.3), c.requires.2)

pub returns : goal.returns
returns c =
    let t = c.put_in-2 in
    let f = c.put_in in
    let n = c.args.self in
    let k = c.args.k in
    let l = c.args.l in
    let r : Network = record { alive = c.with.result; at = t.new.at; nodes = n.nodes; chosen = n.chosen; a = set n.a k l.a; b = set n.b k l.b; low = set n.low k l.low; high = set n.high k l.high } in
    let links = built-appended n r k c.requires.1 c.requires.2 c.with.ensures (sized (goal.at.returns c).Start) l (rows-set (all-even n (sized (goal.at.returns c).Start)) k l) in
    let own = chosen-of n c.requires.0 in
    let valid : Chosen (among (chosen_of n) (record { nodes = nodes_of n; links = (network_of n).links ++ (l ∷ []) })) = record { valid = appended-valid (network_of n) c.requires.0.valid l c.requires.3; ascending = own.ascending; nodes = own.nodes } in (
      refl,
      refl,
      links,
      built-more n r k c.requires.1 c.requires.2 c.with.ensures,
      (stands r (λ t. among (chosen_of n) (record { nodes = nodes_of n; links = links t })) valid
          (put-into n (sized (goal.at.returns c).Start) c.requires.0 k c.requires.1 c.requires.2 l.a l.b c.with.result f.new.at t.new.at c.with.ensures f.ensures t.ensures)).1,
    )
