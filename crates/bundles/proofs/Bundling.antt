-- Pairs made one after another into bundles.
use Prim.Native.Nat.{ℕ, ◌+◌, ◌≤◌, ◌<◌}
use mathlib.Core.Path.{◌≡◌, refl, sym, ap, subst, ◌∙◌}
use mathlib.Core.List.{List}
use mathlib.Core.Bool.{false}
use native.Mathlib.Nat.{le_refl}
use native.Mathlib.Omega.{arith}
use lib.ListN.{length, get_or, set, length-set}
use lib.Seq.{lt-length-set}
use Rattle.rounding.specs.Rounding.{S}
use Rattle.rounding.specs.declared.Direction.{Direction}
use Rattle.rounding.specs.declared.Direction.TheVariants.{Down, Up}
use Rattle.bits.specs.Members.{members}
use Rattle.reliability.specs.declared.Link.{Link}
use Rattle.reliability.specs.Networks.{Network as Graph, Valid, Proper, value, link_at}
use Rattle.reliability.specs.Rule.{joined}
use Rattle.reliability.specs.Simple.{Loopless}
use Rattle.reliability.specs.Terminals.{Chosen, among}
use Rattle.reliability.proofs.Lists.{getD-mem, length-delete}
use Rattle.reliability.proofs.Steps.{AtPair}
use Rattle.reliability.proofs.Simple.{pair-at, no_loop, joined-loopless}
use Rattle.reliability.proofs.Validity.{proper-at, joined-valid}
use Rattle.polynomials.specs.Rows.{Fits}
use Rattle.sets.specs.Bundles.{in_bundle, worth, most}
use Rattle.sets.proofs.Worths.{worth-parallel, most-joined, bundle-small}
use Rattle.std.specs.Prelude.{None, Some}
use Rattle.search.specs.Searches.{places_in, beside, pair_in}
use Rattle.parts.specs.Tallies.{Written}
use Rattle.network.specs.declared.Network.{Network}
use Rattle.network.specs.Places.{rows, network_of, terminals_of, links_of, nodes_of, chosen_of, index_of, Used, Invariant, Sized}
use Rattle.network.proofs.Picks.{all-even, row, rows-values, joined-links, link-at}
use Rattle.network.proofs.Kept.{stands, chosen-of, taken_out}
use Rattle.network.proofs.Rules.{paired}
use Rattle.network.proofs.Joining.{pairs, both_used, next-pair}
use Rattle.bundles.specs.Bundled.{Bundled}

-- ---- a pair as one

bundle-range : (d : Direction) (e f : Link) → e.low + f.low ≤ S → value d (in_bundle e f) ≤ S
bundle-range Down e f h = h
bundle-range Up e f h = h

abbrev as_one : ℕ → ℕ → Graph → Graph
as_one i j g = joined i j (in_bundle (link_at g i) (link_at g j)) g

module _ (g : Graph) (valid : Valid g) (room : Fits (λ x. most x g)) (i j : ℕ) (h : AtPair g i j) where
  small : (link_at g i).low + (link_at g j).low ≤ 16777216
  small = bundle-small g valid room i j h.order h.place

  one-valid : Valid (as_one i j g)
  one-valid =
      let p = proper-at g valid i (omega (arith, h.order, h.place)) in
      let q : (link_at g i).low + (link_at g j).low ≤ S = omega (arith, small) in
      let proper : Proper g.nodes (in_bundle (link_at g i) (link_at g j)) = record { a_node = p.a_node; b_node = p.b_node; range = λ d. bundle-range d (link_at g i) (link_at g j) q; order = le_refl _ } in
      joined-valid g valid i j _ h.order proper

  one-loopless : Loopless g → Loopless (as_one i j g)
  one-loopless loopless = joined-loopless g loopless i j (in_bundle (link_at g i) (link_at g j)) h.order (no_loop g loopless (link_at g i) (getD-mem g.links _ (omega (arith, h.order, h.place))))

  one_fewer : length (as_one i j g).links < length g.links
  one_fewer =
      let e = in_bundle (link_at g i) (link_at g j) in
      omega (arith, length-delete (set g.links i e) (lt-length-set g.links i e h.place), length-set g.links i e)

-- ---- of a network by value

-- what holds before each turn: s is the network at first, n the one by now
pub record Bundling (s n : Network) : Type 0 where
  pub sized : Sized n
  pub holds : Invariant n
  pub loopless : Loopless (network_of n)
  pub room : Fits (λ x. most x (network_of n))
  pub nodes : n.nodes ≡ s.nodes
  pub chosen : n.chosen ≡ s.chosen
  pub worth : (x : ℕ) → worth x (network_of n) ≡ worth x (network_of s)
  pub most : (x : ℕ) → most x (network_of n) ≡ most x (network_of s)
  pub fewer : length (links_of n) ≤ length (links_of s)

module _ (s n : Network) (now : Bundling s n) where
  abbrev g : Graph
  g = network_of n

  -- no pair is left
  pub all-bundled : pair_in (beside n.a n.b) (places_in n.alive) ≡ None → Bundled s n
  all-bundled e = record {
    holds = now.holds;
    nodes = now.nodes;
    chosen = now.chosen;
    loopless = now.loopless;
    pairless = pairs n now.sized now.loopless ∙ ap (paired (members n.alive)) e;
    worth = now.worth;
    most = now.most;
    fewer = now.fewer;
  }

  -- links i and j are the next pair
  module _ (i j : ℕ) (found : pair_in (beside n.a n.b) (places_in n.alive) ≡ Some (i, j)) where
    used : Used n i × Used n j
    used = both_used n now.sized now.loopless i j found

    there : AtPair g (index_of n i) (index_of n j)
    there = pair-at g (index_of n i) (index_of n j) (next-pair n now.sized now.loopless i j found)

    pub pair_small : get_or n.low i 0 + get_or n.low j 0 ≤ 16777216
    pair_small =
        let a = ap (λ (e : Link). e.low) (link-at n now.sized i used.0) in
        let b = ap (λ (e : Link). e.low) (link-at n now.sized j used.1) in
        omega (arith, small g now.holds.valid now.room (index_of n i) (index_of n j) there)

    -- they are made one
    module _ (others : ℕ) (one two lows highs : List ℕ) (cleared : members others ≡ set (members n.alive) j false)
        (first : Written false (get_or n.a j 0) j n.at one) (second : Written false (get_or n.b j 0) j one two)
        (low : lows ≡ set n.low i (get_or n.low i 0 + get_or n.low j 0)) (high : highs ≡ set n.high i (get_or n.low i 0 + get_or n.low j 0)) where
      abbrev r : Network
      r = record { alive = others; at = two; low = lows; high = highs; a = n.a; b = n.b; nodes = n.nodes; chosen = n.chosen }

      stood : network_of r ≡ as_one (index_of n i) (index_of n j) g
      stood =
          let both = get_or n.low i 0 + get_or n.low j 0 in
          let written = (λ t. rows n.a n.b (low t) (high t)) ∙ rows-values (all-even n now.sized) i both both in
          let links = joined-links n others j _ used.1 cleared now.sized i (row (get_or n.a i 0) (get_or n.b i 0) both both) in_bundle used.0 written refl in
          λ t. record { nodes = nodes_of n; links = links t }

      own : Chosen (terminals_of n)
      own = chosen-of n now.holds

      same-most : (x : ℕ) → most x (network_of r) ≡ most x g
      same-most x = ap (most x) stood ∙ most-joined x g now.holds.valid (index_of n i) (index_of n j) there.order there.place

      pub bundled-fewer : length (links_of r) < length (links_of n)
      bundled-fewer = omega (arith, one_fewer g now.holds.valid now.room (index_of n i) (index_of n j) there, ap (λ (h : Graph). length h.links) stood)

      pub bundled-on : Bundling s r
      bundled-on = record {
        sized = record {
          nodes = now.sized.nodes;
          chosen = now.sized.chosen;
          at_length = second.size ∙ first.size ∙ now.sized.at_length;
          a_length = now.sized.a_length;
          b_length = now.sized.b_length;
          low_length = ap length low ∙ length-set n.low i _ ∙ now.sized.low_length;
          high_length = ap length high ∙ length-set n.high i _ ∙ now.sized.high_length;
        };
        holds = (stands r (ap (among (chosen_of n)) stood) (record { valid = one-valid g now.holds.valid now.room (index_of n i) (index_of n j) there; ascending = own.ascending; nodes = own.nodes })
            (taken_out n now.sized now.holds j used.1 others one two cleared first second)).1;
        loopless = subst Loopless (sym stood) (one-loopless g now.holds.valid now.room (index_of n i) (index_of n j) there now.loopless);
        room = λ x. rw (same-most x) (now.room x);
        nodes = now.nodes;
        chosen = now.chosen;
        worth = λ x. ap (worth x) stood ∙ worth-parallel x g now.holds.valid (index_of n i) (index_of n j) there ∙ now.worth x;
        most = λ x. same-most x ∙ now.most x;
        fewer = omega (arith, bundled-fewer, now.fewer);
      }
