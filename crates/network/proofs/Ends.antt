-- The ends of the links in use, by place.
use Prim.Native.Nat.{ℕ}
use mathlib.Core.Path.{◌≡◌, refl, sym, ap, ◌∙◌}
use mathlib.Core.List.{List, ◌∷◌, map}
use lib.ListN.{get_or}
use Rattle.bits.specs.Members.{members}
use Rattle.reliability.specs.Networks.{Valid, Ends, ends}
use Rattle.search.specs.Searches.{ends_in, pick, ends_by_place, Bounded, Ended}
use Rattle.search.proofs.Sets.{has-place, has-below, mem-has}
use Rattle.network.specs.declared.Network.{Network}
use Rattle.network.specs.Places.{rows, network_of, links_of, Sized}
use Rattle.network.proofs.Picks.{Even, none, more, all_rows, all-even, pick-map, proper-row}

rows-ends : {as₁ bs ls hs : List ℕ} → Even as₁ bs ls hs → map ends (rows as₁ bs ls hs) ≡ ends_by_place as₁ bs
unfolding rows ends_by_place
rows-ends none = refl
rows-ends (more {x} {y} e) = ap (λ (r : List Ends). record { a = x; b = y } ∷ r) (rows-ends e)

module _ (n : Network) (sized : Sized n) where
  pub links-ends : map ends (links_of n) ≡ ends_in n.alive n.a n.b
  links-ends = sym (pick-map ends (members n.alive) (all_rows n)) ∙ ap (pick (members n.alive)) (rows-ends (all-even n sized))

  module _ (valid : Valid (network_of n)) where
    pub ended : Ended n.nodes n.alive n.a n.b
    ended p u =
        let proper = proper-row n sized valid p (record { below = has-place n.alive p u; used = u }) in
        (mem-has n.nodes (get_or n.a p 0) proper.a_node, mem-has n.nodes (get_or n.b p 0) proper.b_node)

    pub bounded : Bounded n.alive n.a n.b
    bounded p u =
        let e = ended p u in
        (has-below n.nodes 32 (get_or n.a p 0) sized.nodes e.0, has-below n.nodes 32 (get_or n.b p 0) sized.nodes e.1)
