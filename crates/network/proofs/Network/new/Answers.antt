use Prim.Native.Nat.{ℕ, ◌-◌}
use mathlib.Core.Path.{◌≡◌, refl, ap, ◌∙◌}
use native.Mathlib.Omega.{arith}
use lib.ListN.{replicate}
use Rattle.bits.specs.Members.{members, below}
use Rattle.bits.proofs.Digits.{digits-zero}
use Rattle.bits.proofs.Operations.{full-fits}
use Rattle.reliability.specs.Terminals.{among}
use Rattle.reliability.proofs.Validity.{empty-valid}
use Rattle.search.specs.Searches.{pick, from}
use Rattle.search.proofs.Sets.{ascending-from}
use Rattle.network.specs.Places.{rows, Built}
use Rattle.network.proofs.Picks.{pick_first, pick-none, take-from}
use Rattle.network.proofs.Kept.{stands, none-counted}
use borrow.Author.Rules.{rules}
use Rattle.network.proofs.Network.new.Goals as goal

pub returns : goal.returns
unfolding Built
returns c =
    let n = c.args.n in
    let first : members c.full-nodes.result ≡ below n = c.full-nodes.ensures in
    let nodes = ap (λ bs. pick bs (from 0 64)) first ∙ pick_first n (64 - n) (from 0 64) ∙ take-from 0 n 64 (omega arith) in
    let none = replicate {A = ℕ} 64 0 in
    let links = pick-none (rows none none none none) in
    let order = ascending-from 0 n in
    (nodes, refl, links, digits-zero 64, (stands _ (λ t. among (nodes t) (record { nodes = nodes t; links = links t })) (record { valid = empty-valid (from 0 n) order; ascending = order; nodes = λ v m. m }) none-counted).1)

pub overflow_cast-nodes : goal.overflow_cast-nodes
overflow_cast-nodes c = record { fits = full-fits c.full-nodes.result c.args.n (search rules) c.requires c.full-nodes.ensures }
