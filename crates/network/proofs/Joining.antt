-- Pairs joined one after another.
use Prim.Native.Nat.{ℕ, ◌<◌}
use mathlib.Core.Path.{◌≡◌, refl, sym, ap, ap₂, subst, ◌∙◌}
use mathlib.Core.List.{List, [], ◌∷◌}
use mathlib.Core.Bool.{false}
use mathlib.Core.Option.{some, none, map}
use native.Mathlib.Omega.{arith}
use lib.ListN.{length, get_or, set, length-set}
use Rattle.rounding.specs.Rounding.{parallel}
use Rattle.rounding.specs.declared.Direction.TheVariants.{Down, Up}
use Rattle.bits.specs.Members.{members}
use Rattle.reliability.specs.Networks.{Network as Graph}
use Rattle.reliability.specs.Rule.{is_loop, first_at, first_pair, in_parallel}
use Rattle.reliability.specs.Simple.{Loopless, side_by_side, unpaired}
use Rattle.reliability.specs.Terminals.{Chosen, among}
use Rattle.reliability.proofs.Simple.{pair-valid, pair-loopless, pair-fewer, unpaired-here, unpaired-none}
use Rattle.std.specs.Prelude.{None, Some}
use Rattle.search.specs.Searches.{places_in, nodes_in, loops, beside, pair_in}
use Rattle.search.proofs.Sets.{has-place, mem-has}
use Rattle.search.proofs.Answers.{first, pair-members}
use Rattle.parts.specs.Tallies.{Written}
use Rattle.network.specs.declared.Network.{Network}
use Rattle.network.specs.Places.{rows, network_of, terminals_of, links_of, nodes_of, chosen_of, index_of, Used, Invariant, Sized}
use Rattle.network.proofs.Picks.{all-even, row, rows-values, joined-links}
use Rattle.network.proofs.Rules.{paired, loop_rule, pair-rule}
use Rattle.network.proofs.Kept.{stands, chosen-of, taken_out}

-- nothing is found only among no places
none_first : (f : ℕ → ℕ) (ks : List ℕ) → map f (first ks) ≡ none → ks ≡ []
none_first f [] e = refl
none_first f (k ∷ ks) e = let z : ◌≡◌ {A = ℕ} 0 1 = cc e in absurd (omega arith)

pub no-loops : (n : Network) → Sized n → first_at is_loop (links_of n) ≡ none → loops n.alive n.a n.b ≡ []
no-loops n sized e = none_first (index_of n) (loops n.alive n.a n.b) (sym (loop_rule n sized) ∙ e)

-- what holds before each turn: s is the network at first, n the one by now
pub record Joining (s n : Network) : Type 0 where
  pub sized : Sized n
  pub holds : Invariant n
  pub loopless : Loopless (network_of n)
  pub same : unpaired (network_of n) ≡ unpaired (network_of s)
  pub chosen : n.chosen ≡ s.chosen

module _ (n : Network) (sized : Sized n) (loopless : Loopless (network_of n)) where
  pub pairs : first_pair (links_of n) ≡ paired (members n.alive) (pair_in (beside n.a n.b) (places_in n.alive))
  pairs = pair-rule n sized (no-loops n sized loopless)

  -- links i and j are the next pair
  module _ (i j : ℕ) (found : pair_in (beside n.a n.b) (places_in n.alive) ≡ Some (i, j)) where
    pub both_used : Used n i × Used n j
    both_used =
        let m = pair-members (beside n.a n.b) (places_in n.alive) i j found in
        let used : (k : ℕ) → _ → Used n k = λ k h. record { below = has-place n.alive k h; used = h } in
        (used i (mem-has n.alive i m.0), used j (mem-has n.alive j m.1))

    pub next-pair : first_pair (links_of n) ≡ some (index_of n i, index_of n j)
    next-pair = pairs ∙ ap (paired (members n.alive)) found

module _ (s n : Network) (now : Joining s n) where
  -- no pair is left
  pub all-joined : pair_in (beside n.a n.b) (places_in n.alive) ≡ None → (terminals_of n ≡ among (chosen_of s) (unpaired (network_of s))) × Invariant n
  all-joined e =
      let left = sym (unpaired-none (network_of n) (pairs n now.sized now.loopless ∙ ap (paired (members n.alive)) e)) ∙ now.same in
      (ap₂ (λ (c : ℕ) (g : Graph). among (nodes_in c) g) now.chosen left, now.holds)

  module _ (i j : ℕ) (found : pair_in (beside n.a n.b) (places_in n.alive) ≡ Some (i, j)) where
    used : Used n i × Used n j
    used = both_used n now.sized now.loopless i j found

    pair : first_pair (links_of n) ≡ some (index_of n i, index_of n j)
    pair = next-pair n now.sized now.loopless i j found

    -- they are joined
    module _ (others : ℕ) (one two lows highs : List ℕ) (cleared : members others ≡ set (members n.alive) j false)
        (first : Written false (get_or n.a j 0) j n.at one) (second : Written false (get_or n.b j 0) j one two)
        (low : lows ≡ set n.low i (parallel Down (get_or n.low i 0) (get_or n.low j 0))) (high : highs ≡ set n.high i (parallel Up (get_or n.high i 0) (get_or n.high j 0))) where
      abbrev r : Network
      r = record { alive = others; at = two; low = lows; high = highs; a = n.a; b = n.b; nodes = n.nodes; chosen = n.chosen }

      stood : network_of r ≡ side_by_side (index_of n i) (index_of n j) (network_of n)
      stood =
          let e = row (get_or n.a i 0) (get_or n.b i 0) (parallel Down (get_or n.low i 0) (get_or n.low j 0)) (parallel Up (get_or n.high i 0) (get_or n.high j 0)) in
          let written = ap₂ (rows n.a n.b) low high ∙ rows-values (all-even n now.sized) i _ _ in
          let links = joined-links n others j _ used.1 cleared now.sized i e in_parallel used.0 written refl in
          λ t. record { nodes = nodes_of n; links = links t }

      own : Chosen (terminals_of n)
      own = chosen-of n now.holds

      pub joined-on : Joining s r
      joined-on = record {
        sized = record {
          nodes = now.sized.nodes;
          chosen = now.sized.chosen;
          at_length = second.size ∙ first.size ∙ now.sized.at_length;
          a_length = now.sized.a_length;
          b_length = now.sized.b_length;
          low_length = ap length low ∙ length-set n.low i _ ∙ now.sized.low_length;
          high_length = ap length high ∙ length-set n.high i _ ∙ now.sized.high_length;
        };
        holds = (stands r (ap (among (chosen_of n)) stood) (record { valid = pair-valid (network_of n) now.holds.valid (index_of n i) (index_of n j) pair; ascending = own.ascending; nodes = own.nodes })
            (taken_out n now.sized now.holds j used.1 others one two cleared first second)).1;
        loopless = subst Loopless (sym stood) (pair-loopless (network_of n) now.loopless (index_of n i) (index_of n j) pair);
        same = ap unpaired stood ∙ sym (unpaired-here (network_of n) (index_of n i) (index_of n j) pair) ∙ now.same;
        chosen = now.chosen;
      }

      pub joined-fewer : length (links_of r) < length (links_of n)
      joined-fewer = omega (arith, pair-fewer (network_of n) (index_of n i) (index_of n j) pair, ap (λ (g : Graph). length g.links) stood)
