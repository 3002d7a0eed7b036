-- What is known of links and branches where a step is worked on a network by value.
use Prim.Native.Nat.{ℕ, ◌-◌, min, ◌≤◌, ◌<◌}
use mathlib.Core.Path.{◌≡◌, sym, ap, ◌∙◌, subst}
use mathlib.Core.Bool.{true, cond}
use native.Mathlib.Omega.{arith}
use lib.Dec.{leb}
use lib.ListN.{length}
use borrow.Author.Tests.{eqb-false, leb-true}
use Rattle.rounding.specs.Rounding.{S, factor}
use Rattle.rounding.specs.declared.Direction.TheVariants.{Down, Up}
use Rattle.bits.specs.Members.{members, how_many}
use Rattle.reliability.specs.declared.Link.{Link}
use Rattle.reliability.specs.declared.Step.{Step}
use Rattle.reliability.specs.declared.Step.TheVariants.{OneNode, End, Series, Split}
use Rattle.reliability.specs.Networks.{value}
use Rattle.reliability.specs.Rule.{is_loop, across, ready, Tree, multiplied, fork, taken}
use Rattle.reliability.specs.Terminals.{Terminals, Chosen, has as listing, into, split_at, next, end_left, series_left, sound_left, broken_left, leaves, tree}
use Rattle.reliability.specs.Simple.{Plain, Simple}
use Rattle.reliability.proofs.Validity.{proper-at}
use Rattle.reliability.proofs.Unrolled.{Below, tree-settled, tree-factored, workAt, tree-split, below-factored, below-branches}
use Rattle.reliability.proofs.Steps.{AtSplit}
use Rattle.reliability.proofs.TerminalSteps.{split-there}
use Rattle.reliability.proofs.Lists.{getD-mem}
use Rattle.reliability.proofs.Searches.{none_found}
use Rattle.reliability.proofs.Simple.{one-tree as one-chosen, end-simple, series-plain, contracted-plain}
use Rattle.search.specs.Searches.{nodes_in}
use Rattle.search.proofs.Marks.{length-places}
use Rattle.network.specs.declared.Network.{Network}
use Rattle.network.specs.Places.{network_of, terminals_of, links_of, chosen_of, index_of, link_of, row_of, Used, Invariant, Sized, ranked, Fitting}
use Rattle.network.specs.Workable.{Workable}
use Rattle.network.proofs.Picks.{index-within, link-at}
use Rattle.network.proofs.Kept.{chosen-of, by_rule, known}

-- both values of a link, or both figures, are at most S
abbrev pub Within : ℕ → ℕ → Type 0
Within low high = (low ≤ S) × (high ≤ S)

module _ (n : Network) (holds : Invariant n) where
  pub link-within : Sized n → (e : Link) (i : ℕ) → Used n i → e ≡ link_of n i → Within e.low e.high
  link-within sized e i u is =
      let p = proper-at (network_of n) holds.valid (index_of n i) (index-within n sized i u) in
      subst (λ (f : Link). Within f.low f.high) (sym is) (p.range Down, p.range Up)

module _ (n : Network) (work : Workable n) where
  abbrev g : Terminals
  g = terminals_of n

  abbrev valid : Chosen (terminals_of n)
  valid = chosen-of n work.holds

  -- the step that fits, by the rule
  pub rule : (s : Step) → Fitting n s → leaves g (next g) ≡ leaves g (ranked n s)
  rule s f = by_rule n work.holds s f

  pub one-tree : Fitting n OneNode → tree g ≡ ready (λ d. S)
  unfolding leaves ranked
  one-tree f = tree-settled g valid S (rule OneNode f)

  pub link-is : (e : Link) (i : ℕ) → Used n i → e ≡ row_of n.a n.b n.low n.high i → e ≡ link_of n i
  link-is e i u is = is ∙ sym (link-at n work.sized i u)

  module _ (v i : ℕ) (f : Fitting n (End v i)) where
    abbrev ended : Terminals
    ended = end_left v (index_of n i) g

    pub end_below : Below g ended
    unfolding leaves ranked
    end_below = below-factored g valid (listing v (chosen_of n)) _ _ (rule (End v i) f)

    end-left : Simple ended
    unfolding ranked
    end-left = let k = known n work.holds (End v i) f in end-simple g work.simple v (index_of n i) k.0 k.1

    pub end-work : (r : Network) → terminals_of r ≡ ended → Sized r → Invariant r → Workable r
    end-work r e sized holds = record { sized = sized; holds = holds; simple = subst Simple (sym e) end-left }

    pub end-tree : tree g ≡ cond (listing v (chosen_of n)) (multiplied (λ d. value d (link_of n i)) (tree ended)) (tree ended)
    unfolding leaves ranked
    end-tree = tree-factored g valid (listing v (chosen_of n)) _ _ (rule (End v i) f)

    -- one chosen node is left
    pub last_end : (w left : ℕ) → w ≡ across v (link_of n i) → nodes_in left ≡ into w v (chosen_of n) → leb (how_many (members left)) 1 ≡ true → tree ended ≡ ready (λ d. S)
    last_end w left e is few =
        let one : length (into (across v (link_of n i)) v (chosen_of n)) ≤ 1 =
        leb-true _ 1 (ap (λ (k : ℕ). leb k 1) (ap length (ap (λ (x : ℕ). into x v (chosen_of n)) (sym e) ∙ sym is) ∙ length-places left) ∙ few) in
        one-chosen ended end-left.plain.valid end-left.plain.loopless one

  module _ (v i j : ℕ) (f : Fitting n (Series v i j)) where
    abbrev lined : Terminals
    lined = series_left v (index_of n i) (index_of n j) g

    pub series-left : Plain lined
    unfolding ranked
    series-left = series-plain g work.simple v (index_of n i) (index_of n j) (known n work.holds (Series v i j) f)

    pub series-below : Below g lined
    unfolding leaves ranked
    series-below = below-factored g valid (listing v (chosen_of n)) _ _ (rule (Series v i j) f)

    pub series-tree : tree g ≡ cond (listing v (chosen_of n)) (multiplied (λ d. factor d (value d (link_of n i)) (value d (link_of n j))) (tree lined)) (tree lined)
    unfolding leaves ranked
    series-tree = tree-factored g valid (listing v (chosen_of n)) _ _ (rule (Series v i j) f)

  -- the work once a split is taken, by the place of its link
  abbrev pub works : ℕ → Tree
  works p = workAt g valid (min p (length (links_of n) - 1))

  module _ (i : ℕ) (f : Fitting n (Split i)) where
    -- a split, still to take
    pub split-tree : tree g ≡ fork (index_of n i) works
    unfolding ranked
    split-tree =
        let e = sym f.by_rule in
        tree-split g valid (index_of n i) e ∙ ap (λ (p : ℕ). fork p works) (sym (split-there (split_at g) g (index_of n i) e))

    pub several : 1 < length (chosen_of n)
    unfolding ranked
    several = (known n work.holds (Split i) f).1

    -- it is taken on link q, the chosen one or another
    module _ (q : ℕ) (used : Used n q) where
      abbrev sound : Terminals
      sound = sound_left (index_of n q) g

      abbrev broken : Terminals
      broken = broken_left (index_of n q) g

      pub at-link : AtSplit (network_of n) (index_of n q)
      at-link =
          let place = index-within n work.sized q used in
          let e = link_of n q in
          record { place = place; differ = eqb-false e.a e.b ((none_found is_loop (links_of n)).0 work.simple.plain.loopless e (getD-mem (links_of n) _ place)) }

      pub split-work : works (index_of n q) ≡ taken (index_of n q) (link_of n q) (tree sound) (tree broken)
      split-work = ap (workAt g valid) (let e : min (index_of n q) (length (links_of n) - 1) ≡ index_of n q = omega (arith, at-link.place) in e)

      pub sound-left : Plain sound
      sound-left = contracted-plain g work.simple (index_of n q) at-link several

      below_both : Below g sound × Below g broken
      unfolding ranked
      below_both = below-branches g valid (index_of n i) (sym f.by_rule) (index_of n q) at-link.place

      pub sound-below : Below g sound
      sound-below = below_both.0

      pub broken-below : Below g broken
      broken-below = below_both.1
