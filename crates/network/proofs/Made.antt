-- What a method hands back, loops, and networks without pairs.
use Prim.Native.Nat.{ℕ, ◌≤◌, ◌<◌, zero-le, suc-le-suc}
use mathlib.Core.Path.{◌≡◌, sym, ap, ◌∙◌, subst}
use mathlib.Core.List.{List, [], ◌∷◌}
use mathlib.Core.Bool.{Bool, true, false}
use mathlib.Core.Option.{some, map}
use native.Mathlib.Nat.{le-suc, le_trans}
use native.Mathlib.Omega.{arith}
use lib.Dec.{eqb}
use lib.ListN.{length, get_or}
use Rattle.bits.specs.Members.{members}
use Rattle.reliability.specs.Rule.{is_loop, first_at}
use Rattle.reliability.specs.Terminals.{Terminals, among, tree}
use Rattle.reliability.specs.Simple.{Loopless, Plain, Simple, unpaired}
use Rattle.reliability.proofs.Unrolled.{Below}
use Rattle.reliability.proofs.Simple.{unpaired-simple, unpaired-tree, unpaired-fewer}
use Rattle.std.specs.Prelude.{None, Some}
use Rattle.search.specs.Searches.{pick, places_in, found, loops}
use Rattle.search.proofs.Sets.{has-place, mem-has}
use Rattle.search.proofs.Answers.{first, hit, missed}
use Rattle.network.specs.declared.Network.{Network}
use Rattle.network.specs.Places.{network_of, terminals_of, links_of, chosen_of, index_of, Used, Invariant, Sized}
use Rattle.network.proofs.Picks.{all_rows, length-all}
use Rattle.network.proofs.Rules.{loop_rule}
use Rattle.network.proofs.Network.end.Kinds as end-kinds
use Rattle.network.specs.Workable.{Workable}
use contract.Lifetimes.{Lfts}
use borrow.Author.Rules.{rules}

-- a network that a method hands back
pub sized_of : (κs : Lfts 0) (r : Network) → (end-kinds.r).is.Ok κs r → Sized r
sized_of κs r ok = record {
  nodes = search (rules, ok.1.1.1.1.1.1);
  chosen = search (rules, ok.1.1.1.1.1.1.1);
  at_length = search (rules, ok);
  a_length = search (rules, ok.1.1.1.1);
  b_length = search (rules, ok.1.1.1.1.1);
  low_length = search (rules, ok);
  high_length = search (rules, ok);
}

pick-few : {A : Type 0} (bs : List Bool) (xs : List A) → length (pick bs xs) ≤ length xs
unfolding pick
pick-few [] xs = zero-le
pick-few (b ∷ bs) [] = zero-le
pick-few (true ∷ bs) (x ∷ xs) = suc-le-suc (pick-few bs xs)
pick-few (false ∷ bs) (x ∷ xs) = le_trans (pick-few bs xs) (le-suc (length xs))

-- at most 64 links
pub links-few : (n : Network) → Sized n → length (links_of n) ≤ 64
links-few n sized = omega (arith, pick-few (members n.alive) (all_rows n), length-all n sized)

-- ---- loops

module _ (n : Network) (sized : Sized n) where
  pub loop-found : (i : ℕ) → found (loops n.alive n.a n.b) ≡ Some i → Used n i × (first_at is_loop (links_of n) ≡ some (index_of n i))
  loop-found i e =
      let h = hit (λ k. eqb (get_or n.a k 0) (get_or n.b k 0)) (places_in n.alive) i e in
      let u = mem-has n.alive i h.member in
      (record { below = has-place n.alive i u; used = u }, loop_rule n sized ∙ ap (map (index_of n)) h.first)

  pub loop-missed : found (loops n.alive n.a n.b) ≡ None → Loopless (network_of n)
  loop-missed e = loop_rule n sized ∙ ap (λ (l : List ℕ). map (index_of n) (first l)) (missed (loops n.alive n.a n.b) e)

-- ---- what is left, by value

-- n has fewer links than g
pub fewer : (g : Terminals) (n : Network) {h : Terminals} → terminals_of n ≡ h → Below g h → length (links_of n) < length g.network.links
fewer g n e b = omega (arith, ap (λ (k : Terminals). length k.network.links) e, b.fewer)

-- q is r without pairs, and r stands for a plain network
module _ {h : Terminals} (plain : Plain h) (r q : Network) (is : terminals_of r ≡ h) (joins : terminals_of q ≡ among (chosen_of r) (unpaired (network_of r))) where
  stood : terminals_of q ≡ among h.chosen (unpaired h.network)
  stood = joins ∙ ap (λ (k : Terminals). among k.chosen (unpaired k.network)) is

  pub unpaired-work : Sized q → Invariant q → Workable q
  unpaired-work sized holds = record { sized = sized; holds = holds; simple = subst Simple (sym stood) (unpaired-simple h.chosen h.network plain) }

  pub unpaired-same : tree h ≡ tree (terminals_of q)
  unpaired-same = unpaired-tree h.chosen h.network plain ∙ ap tree (sym stood)

  pub unpaired-few : length (links_of q) ≤ length h.network.links
  unpaired-few = omega (arith, ap (λ (k : Terminals). length k.network.links) stood, unpaired-fewer h.network)

  pub unpaired-less : (g : Terminals) → Below g h → length (links_of q) < length g.network.links
  unpaired-less g b = omega (arith, unpaired-few, b.fewer)
