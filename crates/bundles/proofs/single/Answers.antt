use Prim.Native.Nat.{ℕ}
use mathlib.Core.Path.{◌≡◌, refl, sym, ap, ◌∙◌}
use mathlib.Core.List.{List, ◌∷◌, map}
use lib.ListN.{length, replicate}
use Rattle.bits.specs.Members.{members}
use Rattle.reliability.specs.declared.Link.{Link}
use Rattle.reliability.specs.Terminals.{among}
use Rattle.search.specs.Searches.{pick}
use Rattle.sets.specs.Bundles.{single, singles}
use Rattle.sets.proofs.Counting.{single-valid}
use Rattle.network.specs.declared.Network.{Network}
use Rattle.network.specs.Places.{Sized, rows, network_of, nodes_of, chosen_of}
use Rattle.network.proofs.Picks.{Even, none, more, row, all-even, all_rows, pick-map}
use Rattle.network.proofs.Kept.{stands, chosen-of}
use borrow.Author.Rules.{rules}
use Rattle.bundles.proofs.single.Goals as goal
use Rattle.bundles.proofs.single.Goals.{Start}

rows-single : {a b l h : List ℕ} → Even a b l h → rows a b (replicate (length a) 1) (replicate (length a) 1) ≡ map single (rows a b l h)
unfolding rows
rows-single none = refl
rows-single (more {x} {y} s) = ap (λ (r : List Link). row x y 1 1 ∷ r) (rows-single s)

sized : (c : Start) → Sized c.args.net
sized c = search rules

pub returns : goal.returns
returns c =
    let n = c.args.net in
    let ones = ap (λ k. rows n.a n.b (replicate k 1) (replicate k 1)) (sized (goal.at.returns c).Start).a_length in
    let links = ap (pick (members n.alive)) (sym ones ∙ rows-single (all-even n (sized (goal.at.returns c).Start))) ∙ pick-map single (members n.alive) (all_rows n) in
    let r : Network = record { alive = n.alive; at = n.at; low = replicate 64 1; high = replicate 64 1; a = n.a; b = n.b; nodes = n.nodes; chosen = n.chosen } in
    let stood : network_of r ≡ singles (network_of n) = λ t. record { nodes = nodes_of n; links = links t } in
    let own = chosen-of n c.requires in
    (stood, refl, refl, (stands r (ap (among (chosen_of n)) stood) (record { valid = single-valid (network_of n) own.valid; ascending = own.ascending; nodes = own.nodes }) c.requires.tallies).1)
