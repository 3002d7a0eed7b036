-- The row that each step makes of the rows of what it leaves.
use Prim.Native.Nat.{ℕ, ◌+◌, ◌*◌, ◌≤◌, ◌<◌, min, max, zero-le, suc-le-suc}
use mathlib.Core.Path.{◌≡◌, sym, ap, ap₂, ◌∙◌, subst}
use mathlib.Core.List.{List, [], ◌∷◌, Memᴰ}
use mathlib.Core.Bool.{false}
use mathlib.Core.Option.{some as found}
use native.Mathlib.Nat.{le_trans, le_of_eq}
use native.Mathlib.Omega.{arith}
use lib.ListN.{length, get_or, length-map}
use borrow.Author.Tests.{eqb-true, eqb-false}
use Rattle.reliability.specs.declared.Link.{Link}
use Rattle.reliability.specs.declared.Step.{Step}
use Rattle.reliability.specs.declared.Step.TheVariants.{OneNode, End, Series, Split}
use Rattle.reliability.specs.Networks.{Network as Graph, link_at, pieces_of}
use Rattle.reliability.specs.Rule.{is_loop, first_at, deleted, delete_at, renamed}
use Rattle.reliability.specs.Terminals.{sound_left, broken_left}
use Rattle.reliability.specs.Simple.{Loopless, Plain}
use Rattle.reliability.proofs.Lists.{getD-mem, length-delete}
use Rattle.reliability.proofs.Validity.{proper-at, across-node}
use Rattle.reliability.proofs.Searches.{Answers, Holds, Fails, first-at}
use Rattle.reliability.proofs.Steps.{AtLoop, AtSeries, AtSplit}
use Rattle.reliability.proofs.TerminalSteps.{Fits as FitsStep}
use Rattle.reliability.proofs.Simple.{no_loop, deleted-loopless, contracted-plain}
use Rattle.polynomials.specs.Rows.{some, Fits}
use Rattle.sets.specs.Bundles.{worth, most}
use Rattle.sets.proofs.Worths.{sound_at, worth-one-node, worth-loop, worth-end, worth-split, with-later, without-later, most-contracted, fewer-sets}
use Rattle.network.specs.declared.Network.{Network}
use Rattle.network.specs.Places.{network_of, terminals_of, links_of, nodes_of, chosen_of, index_of, link_of, Used, WithoutPlace, Invariant, Sized, ranked, Fitting}
use Rattle.network.specs.Workable.{Workable}
use Rattle.network.proofs.Picks.{index-within, link-at}
use Rattle.network.proofs.Kept.{known}
use Rattle.bundles.specs.Bundled.{Bundled}
use Rattle.counting.specs.Countable.{Countable}
use Rattle.counting.proofs.Branches.{Branch, broken, sound, at_split as splits-at, still-used, same_index, bundled-countable, workable, onward}

-- the number of links that the one at a place stands for
low-at : (n : Network) → Sized n → (i : ℕ) → Used n i → get_or n.low i 0 ≡ (link_of n i).low
low-at n sized i u = ap (λ (e : Link). e.low) (sym (link-at n sized i u))

-- two nodes are more than one
both-in : (vs : List ℕ) {u v : ℕ} → Memᴰ u vs → Memᴰ v vs → (u ≡ v → ⊥) → 1 < length vs
both-in (w ∷ []) (Memᴰ.head p) (Memᴰ.head q) d = absurd (d (p ∙ sym q))
both-in (w ∷ (y ∷ vs)) m n d = suc-le-suc (suc-le-suc zero-le)
both-in [] {u = u} {v = v} m n d = elim m [ ]
both-in (w ∷ []) {u = u} {v = v} (mathlib.Core.List.Memᴰ.head p) (mathlib.Core.List.Memᴰ.tail x26) d = elim x26 [ ]
both-in (w ∷ []) {u = u} {v = v} (mathlib.Core.List.Memᴰ.tail x21) n d = elim x21 [ ]

-- ---- a loop

module _ (n : Network) (sized : Sized n) (c : Countable n) (i : ℕ) (u : Used n i) (first : first_at is_loop (links_of n) ≡ found (index_of n i)) where
  at-loop : AtLoop (network_of n) (index_of n i)
  at-loop =
      let h = subst (Answers (Holds is_loop (links_of n)) (Fails is_loop (links_of n))) first (first-at is_loop (links_of n)) in
      record { place = h.place; same = eqb-true _ _ h.test }

  pub loop-row : (p : ℕ → ℕ) → ((x : ℕ) → p x ≡ worth x (deleted (index_of n i) (network_of n))) → (x : ℕ) → (some x (get_or n.low i 0) + 1) * p x ≡ worth x (network_of n)
  loop-row p e x = ap₂ (λ l w. (some x l + 1) * w) (low-at n sized i u) (e x) ∙ sym (worth-loop x (network_of n) c.holds.valid (index_of n i) at-loop)

-- ---- a link that is no loop

module _ (s n : Network) (c : Countable s) (b : Bundled s n) (sized : Sized n) where
  abbrev g : Graph
  g = network_of n

  own : Countable n
  own = bundled-countable s n c b

  pub no-loop-at : (i : ℕ) → Used n i → is_loop (link_of n i) ≡ false
  no-loop-at i u = no_loop g b.loopless (link_of n i) (getD-mem g.links _ (index-within n sized i u))

  -- its two branches
  module _ (i : ℕ) (u : Used n i) where
    abbrev l : ℕ
    l = index_of n i

    at_split : AtSplit g l
    at_split = splits-at n sized own i u (no-loop-at i u)

    pub sound-branch : (r : Network) → terminals_of r ≡ sound_left l (terminals_of n) → Invariant r → Branch s (sound_at l g) r
    sound-branch r e holds =
        onward s n r (sound_at l g) b.fewer (sound n sized own i u (no-loop-at i u) r e holds)

    pub broken-branch : (r : Network) → terminals_of r ≡ broken_left l (terminals_of n) → Invariant r → Branch s (deleted l g) r
    broken-branch r e holds =
        onward s n r (deleted l g) b.fewer (broken n sized own i u r e holds)

    pub split-row : (p q : ℕ → ℕ) → ((x : ℕ) → p x ≡ worth x (sound_at l g)) → ((x : ℕ) → q x ≡ worth x (deleted l g)) → (x : ℕ) → some x (get_or n.low i 0) * p x + q x ≡ worth x (network_of s)
    split-row p q e f x =
        ap₂ ◌+◌ (ap₂ (λ m w. some x m * w) (low-at n sized i u) (e x)) (f x) ∙ sym (worth-split x g own.holds.valid l at_split) ∙ b.worth x

    pub broken-room : Fits (λ x. most x (deleted l g))
    broken-room = λ x. le_trans (fewer-sets x g own.holds.valid l at_split.place) (own.room x)

    pub sound-room : Fits (λ x. most x (sound_at l g))
    sound-room = λ x. le_trans (le_of_eq (most-contracted x (deleted l g) (link_at g l))) (broken-room x)

  -- ---- the step that fits

  module _ (few : pieces_of g ≤ 1) where
    pub work : Workable n
    work = workable s n c b sized few

    fit : (t : Step) → Fitting n t → FitsStep (terminals_of n) (ranked n t)
    fit t f = known n b.holds t f

    pub one-row : Fitting n OneNode → (x : ℕ) → 1 ≡ worth x (network_of s)
    unfolding ranked
    one-row f x =
        let one : length (chosen_of n) ≤ 1 = fit OneNode f in
        sym (worth-one-node x g own.holds.valid b.loopless (omega (arith, ap length own.all))) ∙ b.worth x

    module _ (v i : ℕ) (f : Fitting n (End v i)) where
      pub end-used : Used n i
      end-used = f.placed.1

      pub end_row : (p : ℕ → ℕ) → ((x : ℕ) → p x ≡ worth x (sound_at (index_of n i) g)) → (x : ℕ) → some x (get_or n.low i 0) * p x ≡ worth x (network_of s)
      unfolding ranked
      end_row p e x =
          ap₂ (λ m w. some x m * w) (low-at n sized i end-used) (e x) ∙ sym (worth-end x g own.holds.valid v (index_of n i) (fit (End v i) f).0) ∙ b.worth x

    module _ (i : ℕ) (f : Fitting n (Split i)) where
      pub split-used : Used n i
      split-used = f.placed

    -- two links of a node, i before j
    module _ (v i j : ℕ) (f : Fitting n (Series v i j)) where
      pub first-used : Used n i
      first-used = f.placed.1

      pub second-used : Used n j
      second-used = f.placed.2

      at-series : AtSeries g v (index_of n i) (index_of n j)
      unfolding ranked
      at-series = (fit (Series v i j) f).two

      abbrev k : ℕ
      k = index_of n i

      abbrev m : ℕ
      m = index_of n j

      abbrev sounder : Graph
      sounder = sound_at m g

      abbrev breaker : Graph
      breaker = deleted m g

      early : k < m
      early = at-series.order

      here : k < length g.links
      here = omega (arith, early, at-series.place)

      two : 1 < length (chosen_of n)
      two =
          let e = link_at g k in
          let leg = at-series.first in
          subst (λ (vs : List ℕ). 1 < length vs) (sym own.all) (both-in (nodes_of n) (across-node (nodes_of n) v e (proper-at g own.holds.valid k here)) at-series.node leg.differ)

      plain : Plain (sound_left m (terminals_of n))
      plain = contracted-plain (terminals_of n) work.simple m (at_split j second-used) two

      first-in-sound : AtSplit sounder k
      first-in-sound =
          let f = link_at g m in
          let place : k < length sounder.links = omega (arith, early, at-series.place, length-delete g.links at-series.place, length-map (delete_at m g.links) (renamed (min f.a f.b) (max f.a f.b))) in
          record { place = place; differ = eqb-false _ _ (no_loop sounder plain.loopless (link_at sounder k) (getD-mem sounder.links _ place)) }

      -- link i is left where j is sound, or broken
      module _ (r : Network) (h : Graph) (rb : Branch s h r) (sized' : Sized r) (w : WithoutPlace n j r) (loopless : Loopless h) where
        pub first-here : Used r i × (is_loop (link_of r i) ≡ false)
        first-here =
            let u = still-used n r i j first-used early w in
            (u, no_loop (network_of r) (subst Loopless (sym rb.stands) loopless) (link_of r i) (getD-mem (links_of r) _ (index-within r sized' i u)))

        pub then-sound : (q : Network) → terminals_of q ≡ sound_left (index_of r i) (terminals_of r) → Invariant q → Branch s (sound_at k h) q
        then-sound q e holds =
            let qb = sound r sized' rb.countable i first-here.0 first-here.1 q e holds in
            let index = same_index n r i j first-used early w in
            record { stands = qb.stands ∙ (λ t. sound_at (index t) (rb.stands t)); countable = qb.countable; fewer = omega (arith, qb.fewer, rb.fewer) }

      pub sound-loopless : Loopless sounder
      sound-loopless = plain.loopless

      pub broken-loopless : Loopless breaker
      broken-loopless = deleted-loopless g b.loopless m

      pub sound-row : (p q : ℕ → ℕ) → ((x : ℕ) → p x ≡ worth x (sound_at k sounder)) → ((x : ℕ) → q x ≡ worth x (sound_at k breaker)) → (x : ℕ) → some x (get_or n.low i 0) * p x + q x ≡ worth x sounder
      sound-row p q e f x =
          ap₂ ◌+◌ (ap₂ (λ a w. some x a * w) (low-at n sized i first-used) (e x)) (f x) ∙ sym (with-later x g own.holds.valid v k m at-series plain.valid.valid first-in-sound)

      pub broken-row : (q : ℕ → ℕ) → ((x : ℕ) → q x ≡ worth x (sound_at k breaker)) → (x : ℕ) → some x (get_or n.low i 0) * q x ≡ worth x breaker
      broken-row q f x = ap₂ (λ a w. some x a * w) (low-at n sized i first-used) (f x) ∙ sym (without-later x g own.holds.valid v k m at-series)
