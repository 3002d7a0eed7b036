use Prim.Native.Nat.{ℕ, suc, ◌+◌, ◌≤◌}
use mathlib.Core.Path.{◌≡◌, refl, sym, ap, ◌∙◌, subst}
use mathlib.Core.List.{List, [], ◌∷◌, ◌++◌}
use mathlib.Core.Bool.{Bool, true, false}
use native.Mathlib.Omega.{arith}
use lib.ListN.{length, take, drop, length-take}
use Rattle.bits.specs.Members.{members, how_many}
use Rattle.bits.proofs.Digits.{length_digits}
use Rattle.reliability.specs.Networks.{Network as Graph}
use Rattle.network.specs.declared.Network.{Network}
use Rattle.search.specs.Searches.{pick, nodes_in}
use Rattle.network.specs.Places.{links_of, network_of, Invariant, Sized}
use Rattle.network.proofs.Picks.{all_rows, length-all}
use Rattle.polynomials.specs.Rows.{Fits}
use Rattle.sets.specs.Bundles.{singles, worth, most}
use Rattle.sets.proofs.Counting.{single-room, row_is}
use Rattle.counting.specs.Countable.{Countable}
use borrow.Author.Rules.{rules}
use Rattle.counting.proofs.fill.Goals as goal
use Rattle.counting.proofs.fill.Goals.{After-work-counts, Start}

-- as many are picked as there are places
length-pick : {A : Type 0} (bs : List Bool) (xs : List A) → length bs ≡ length xs → length (pick bs xs) ≡ how_many bs
unfolding pick
length-pick [] xs h = refl
length-pick (b ∷ bs) [] h = absurd (omega arith)
length-pick (true ∷ bs) (x ∷ xs) h = ap suc (length-pick bs xs (omega arith))
length-pick (false ∷ bs) (x ∷ xs) h = length-pick bs xs (omega arith)

links-counted : (n : Network) → Sized n → (m : ℕ) → m ≡ how_many (members n.alive) → m ≡ length (links_of n)
links-counted n sized m e = e ∙ sym (length-pick (members n.alive) (all_rows n) (length_digits 64 n.alive ∙ sym (length-all n sized)))

sized : (c : Start) → Sized c.args.net
sized c = search rules

-- each link for itself
alone : (n r : Network) → length (links_of n) ≤ 24 → n.chosen ≡ n.nodes → (network_of r ≡ singles (network_of n)) × (r.nodes ≡ n.nodes) × (r.chosen ≡ n.chosen) × Invariant r → Countable r
alone n r few all e = record {
  holds = e.3;
  all = ap nodes_in (e.2 ∙ all ∙ sym e.1);
  room = subst (λ (g : Graph). Fits (λ x. most x g)) (sym e.0) (single-room (network_of n) few);
}

pub work-counts-requires : goal.work-counts-requires
work-counts-requires c =
    alone c.args.net c.single.result c.requires.2 c.requires.1 c.single.ensures

-- m is the number of links
counted : (c : After-work-counts) → c.count-m.result ≡ length (links_of c.args.net)
counted c = links-counted c.args.net (sized (goal.at.After-work-counts c).Start) c.count-m.result c.count-m.ensures

pub slice_bounds-copy_from_slice-end : goal.slice_bounds-copy_from_slice-end
slice_bounds-copy_from_slice-end c = omega (arith, counted c, c.requires.3)

pub slice_bounds-copy_from_slice-end-2 : goal.slice_bounds-copy_from_slice-end-2
slice_bounds-copy_from_slice-end-2 c = grind (arith, counted (goal.at.slice_bounds-copy_from_slice-end-2 c).After-work-counts, c.requires.3, length-take)

pub shared_ref_as_front-copy_from_slice : goal.shared_ref_as_front-copy_from_slice
shared_ref_as_front-copy_from_slice c = omega (arith, counted (goal.at.shared_ref_as_front-copy_from_slice c).After-work-counts, c.requires.2)

pub copy_from_slice-requires : goal.copy_from_slice-requires
copy_from_slice-requires c =
    let long : length c.work-counts.result.entries ≡ 25 = search rules in
    grind (arith, counted (goal.at.copy_from_slice-requires c).After-work-counts, c.requires, length-take)

pub returns : goal.returns
returns c =
    let n = c.args.net in
    let row = c.args.row.now in
    let counts = c.work-counts.result.entries in
    let long : length counts ≡ 25 = search rules in
    let m : c.count-m.result + 1 ≡ suc (length (links_of n)) = omega (arith, counted (goal.at.returns c).After-work-counts) in
    let written = ap (λ k. take k counts ++ drop k row) m ∙ ap (λ l. l ++ drop (suc (length (links_of n))) row)
    (row_is (network_of n) c.requires.2 counts long (λ x. c.work-counts.ensures x ∙ ap (worth x) c.single.ensures.0)) in
    grind (arith, c.copy_from_slice.ensures.after, written)
