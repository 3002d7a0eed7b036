-- Which step fits a simple network, by what the searches find.
use Prim.Native.Nat.{ℕ, ◌≤◌, ◌<◌}
use mathlib.Core.Path.{◌≡◌, refl, sym, ap, ap₂, subst, ◌∙◌}
use mathlib.Core.List.{List, [], ◌∷◌, map}
use mathlib.Core.Bool.{Bool, true, false, ◌&&◌, and-eq-true_iff}
use mathlib.Core.Option
use mathlib.Core.Option.{Option, some, none}
use native.Mathlib.Omega.{arith}
use lib.Dec.{eqb, leb}
use lib.ListN.{length, get_or, set}
use borrow.Author.Tests.{eqb-true}
use Rattle.bits.specs.Members.{members, first_of, how_many}
use Rattle.reliability.specs.declared.Step.{Step}
use Rattle.reliability.specs.declared.Step.TheVariants.{OneNode, End, Series, Split}
use Rattle.reliability.specs.Rule.{lowest, end_of, when, ◌otherwise◌}
use Rattle.reliability.specs.Terminals.{series_in, split_at, next}
use Rattle.reliability.proofs.TerminalSteps.{Fits, fits}
use Rattle.reliability.proofs.Simple.{simple-next}
use Rattle.std.specs.Prelude.{Some}
use Rattle.search.specs.Searches.{pick, places_in, filter, touching, Bounded, found, with_links, between_at, in_line, counts_of, count_sum, largest_in}
use Rattle.search.proofs.Sets.{has, has-below, mem-has, at-node}
use Rattle.search.proofs.Marks.{Lowest, length-places, lowest-in, lowest-first, lowest-rest, rest-count, rest-within}
use Rattle.search.proofs.Answers.{first, hit}
use Rattle.network.specs.declared.Network.{Network}
use Rattle.network.specs.Places.{terminals_of, links_of, nodes_of, index_of, Used, Invariant, ranked, Fitting, Sized}
use Rattle.network.proofs.Picks.{all_rows}
use Rattle.network.proofs.Ends.{bounded}
use Rattle.network.specs.Workable.{Workable}
use Rattle.network.proofs.Kept.{chosen-of}
use Rattle.network.proofs.Rules.{end-rule, series-rule}
use Rattle.steps.proofs.Places.{place-used}
use Rattle.steps.proofs.Largest.{largest-right}

pick-count : {A : Type 0} (us : List Bool) (xs : List A) → length (pick us xs) ≤ how_many us
unfolding pick
pick-count [] xs = omega arith
pick-count (u ∷ us) [] = omega arith
pick-count (true ∷ us) (x ∷ xs) = omega (arith, pick-count us xs)
pick-count (false ∷ us) (x ∷ xs) = pick-count us xs

module _ (n : Network) (work : Workable n) where
  abbrev sized : Sized n
  sized = work.sized

  abbrev holds : Invariant n
  holds = work.holds

  by_tests : (one : Bool) → leb (how_many (members n.chosen)) 1 ≡ one → (end : Option Step) → lowest end_of (links_of n) (nodes_of n) ≡ end
      → (series : Option Step) → lowest (series_in (terminals_of n)) (links_of n) (nodes_of n) ≡ series
      → next (terminals_of n) ≡ (when one OneNode otherwise end otherwise series otherwise Split (split_at (terminals_of n)))
  by_tests one o end e series s =
      simple-next (terminals_of n) work.simple (split_at (terminals_of n))
      ∙ ap₂ (λ (b : Bool) (x : Option Step). when b OneNode otherwise x otherwise lowest (series_in (terminals_of n)) (links_of n) (nodes_of n) otherwise Split (split_at (terminals_of n))) (ap (λ (l : ℕ). leb l 1) (length-places n.chosen) ∙ o) e
      ∙ ap (λ (x : Option Step). when one OneNode otherwise end otherwise x otherwise Split (split_at (terminals_of n))) s

  pub one_right : leb (how_many (members n.chosen)) 1 ≡ true → Fitting n OneNode
  unfolding ranked
  one_right e = record { by_rule = sym (by_tests true e _ refl _ refl); placed = tt }

  -- the places of the links at v among the links
  abbrev ranks : ℕ → List ℕ
  ranks v = map (index_of n) (places_in (get_or n.at v 0))

  abbrev end_at : ℕ → Step
  end_at v = End v (get_or (ranks v) 0 0)

  abbrev seriesAt : ℕ → Step
  seriesAt v = Series v (get_or (ranks v) 0 0) (get_or (ranks v) 1 0)

  -- a link at a node is in use
  at-used : (v k : ℕ) → v < 32 → has (get_or n.at v 0) k ≡ true → Used n k
  at-used v k h e =
      place-used n k ((and-eq-true_iff (has n.alive k) (touching v (get_or n.a k 0) (get_or n.b k 0))).0 (sym (at-node n.at n.a n.b n.alive holds.tallies v h k) ∙ e)).0

  -- the lowest node that passes a test
  lowest-node : (p : ℕ → Bool) (v : ℕ) → found (filter p (nodes_of n)) ≡ Some v → (v < 32) × (first (filter p (nodes_of n)) ≡ some v) × (p v ≡ true)
  lowest-node p v e =
      let h = hit p (nodes_of n) v e in
      (has-below n.nodes 32 v sized.nodes (mem-has n.nodes v h.member), h.first, h.test)

  -- with one link
  pub end-node : (v : ℕ) → found (with_links 1 n.at n.nodes) ≡ Some v → (v < 32) × (first (with_links 1 n.at n.nodes) ≡ some v) × (how_many (members (get_or n.at v 0)) ≡ 1)
  end-node v e =
      let h = lowest-node (λ w. eqb (how_many (members (get_or n.at w 0))) 1) v e in
      (h.0, h.1, eqb-true (how_many (members (get_or n.at v 0))) 1 h.2)

  -- with two links that can become one
  pub line-node : (v : ℕ) → found (in_line n.chosen n.at n.a n.b n.nodes) ≡ Some v
      → (v < 32) × (first (in_line n.chosen n.at n.a n.b n.nodes) ≡ some v) × (how_many (members (get_or n.at v 0)) ≡ 2)
  line-node v e =
      let h = lowest-node (λ w. eqb (how_many (members (get_or n.at w 0))) 2 && between_at n.chosen n.a n.b w (get_or n.at w 0)) v e in
      (h.0, h.1, eqb-true (how_many (members (get_or n.at v 0))) 2 ((and-eq-true_iff _ _).0 h.2).0)

  -- the ends of a link at a node are below 32
  pub bounded_at : (v : ℕ) → v < 32 → Bounded (get_or n.at v 0) n.a n.b
  bounded_at v h p e = bounded n sized holds.valid p (at-used v p h e).used

  module _ (more : leb (how_many (members n.chosen)) 1 ≡ false) where
    pub end-right : (v i : ℕ) → found (with_links 1 n.at n.nodes) ≡ Some v → i ≡ first_of (members (get_or n.at v 0)) → Fitting n (End v i)
    unfolding ranked
    end-right v i e f =
        let (below, lowest, one) = end-node v e in
        let s = get_or n.at v 0 in
        let l : Lowest s i = record { some = omega arith; first = f } in
        let listed = ap (λ (ks : List ℕ). some (End v (get_or (map (index_of n) ks) 0 0))) (lowest-first s i l) in
        record {
          by_rule = sym (by_tests false more (some (End v (index_of n i))) (end-rule n sized n.at holds.tallies ∙ ap (Option.map end_at) lowest ∙ listed) _ refl);
          placed = (below, at-used v i below (lowest-in s i l));
        }

    module _ (no_end : with_links 1 n.at n.nodes ≡ []) where
      by-series : (series : Option Step) → lowest (series_in (terminals_of n)) (links_of n) (nodes_of n) ≡ series → next (terminals_of n) ≡ (series otherwise Split (split_at (terminals_of n)))
      by-series = by_tests false more none (end-rule n sized n.at holds.tallies ∙ ap (λ (l : List ℕ). Option.map end_at (first l)) no_end)

      pub series-right : (v i r j : ℕ) → found (in_line n.chosen n.at n.a n.b n.nodes) ≡ Some v → i ≡ first_of (members (get_or n.at v 0))
          → members r ≡ set (members (get_or n.at v 0)) (first_of (members (get_or n.at v 0))) false → j ≡ first_of (members r) → Fitting n (Series v i j)
      unfolding ranked
      series-right v i r j e f rest g =
          let (below, lowest, two) = line-node v e in
          let s = get_or n.at v 0 in
          let l : Lowest s i = record { some = omega arith; first = f } in
          let m : Lowest r j = record { some = omega (arith, rest-count s i l r rest); first = g } in
          let listed = ap (λ (ks : List ℕ). some (Series v (get_or (map (index_of n) ks) 0 0) (get_or (map (index_of n) ks) 1 0))) (lowest-rest s i l r rest ∙ ap (λ (ks : List ℕ). i ∷ ks) (lowest-first r j m)) in
          record {
            by_rule = sym (by-series (some (Series v (index_of n i) (index_of n j))) (series-rule n sized n.at holds.tallies ∙ ap (Option.map seriesAt) lowest ∙ listed));
            placed = (below, at-used v i below (lowest-in s i l), at-used v j below (rest-within s i l r rest s (λ k e. e) j (lowest-in r j m)));
          }

      pub split-right : in_line n.chosen n.at n.a n.b n.nodes ≡ [] → (counts : List ℕ) → counts ≡ counts_of n.nodes n.at
          → (k : ℕ) → k ≡ largest_in (count_sum counts n.a n.b) (places_in n.alive) → Fitting n (Split k)
      unfolding ranked
      split-right no-series counts counted k f =
          let e : next (terminals_of n) ≡ Split (split_at (terminals_of n)) = by-series none (series-rule n sized n.at holds.tallies ∙ ap (λ (l : List ℕ). Option.map seriesAt (first l)) no-series) in
          let place = (subst (Fits (terminals_of n)) e (fits (terminals_of n) (chosen-of n holds))).0.place in
          let h = largest-right n sized holds (omega (arith, place, pick-count (members n.alive) (all_rows n), length-places n.alive)) in
          let best = f ∙ ap (λ (c : List ℕ). largest_in (count_sum c n.a n.b) (places_in n.alive)) counted in
          record { by_rule = ap Split (ap (index_of n) best ∙ sym h.1) ∙ sym e; placed = subst (Used n) (sym best) h.0 }
