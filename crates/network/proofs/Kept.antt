-- The invariant, kept by what a network becomes.
use Prim.Native.Nat.{ℕ, ◌-◌, ◌<◌}
use mathlib.Core.Path.{◌≡◌, sym, ap, ap₂, subst, ◌∙◌}
use mathlib.Core.Logic.{⊎_elim}
use mathlib.Core.List.{List, Memᴰ}
use mathlib.Core.Bool.{Bool, true, false, cond, not, ◌&&◌, or_comm}
use native.Mathlib.Omega.{arith}
use lib.Dec.{eqb}
use lib.ListN.{length, get_or, set, replicate, get_or-replicate, length-replicate}
use borrow.Author.Tests.{eqb-false, ne_eqb}
use Rattle.reliability.specs.declared.Step.{Step}
use Rattle.reliability.specs.declared.Step.TheVariants.{End, Series}
use Rattle.reliability.specs.declared.Link.{Link}
use Rattle.reliability.specs.Networks.{Proper}
use Rattle.reliability.specs.Rule.{is_loop, without, across}
use Rattle.reliability.specs.Terminals.{Terminals, Chosen, among, has as listing, into, next, end_left, series_left, sound_left, broken_left, leaves}
use Rattle.reliability.proofs.Validity.{deleted-valid}
use Rattle.reliability.proofs.Steps.{Leg, AtSeries}
use Rattle.reliability.proofs.TerminalSteps.{Fits, fits, sound-terminals}
use Rattle.reliability.proofs.Unrolled.{below-factored}
use Rattle.bits.specs.Members.{members}
use Rattle.search.specs.Searches.{nodes_in, touching, Incidence}
use Rattle.search.proofs.Sets.{has, has-none, has-without, has-below, mem-has, has-mem, nodes-ascending}
use Rattle.parts.specs.Tallies.{Written}
use Rattle.parts.proofs.Laws.{counted, taken, added, turned}
use Rattle.network.specs.declared.Network.{Network}
use Rattle.network.specs.Places.{network_of, terminals_of, links_of, nodes_of, chosen_of, index_of, link_of, Used, Invariant, Built, ranked, Fitting, Sized}
use Rattle.network.proofs.Picks.{row_at, all_rows, link-at, index-within, deleted-links, built-free}
use Rattle.network.proofs.Ends.{bounded}

-- the chosen nodes of a network by value are nodes, each named once
pub chosen-of : (n : Network) → Invariant n → Chosen (terminals_of n)
chosen-of n holds = record { valid = holds.valid; ascending = nodes-ascending n.chosen; nodes = λ v m. has-mem n.nodes v (holds.inside v (mem-has n.chosen v m)) }

-- r stands for g, which is valid, and its tallies are right
pub stands : (r : Network) {g : Terminals} → terminals_of r ≡ g → Chosen g → Incidence r.at r.alive r.a r.b → (terminals_of r ≡ g) × Invariant r
stands r e valid tallies =
    let own = subst Chosen (sym e) valid in
    (e, record { valid = own.valid; inside = λ v h. mem-has r.nodes v (own.nodes v (has-mem r.chosen v h)); tallies = tallies })

module _ (n : Network) (holds : Invariant n) where
  abbrev g : Terminals
  g = terminals_of n

  -- s is the step that fits
  module _ (s : Step) (fitting : Fitting n s) where
    pub by_rule : leaves g (next g) ≡ leaves g (ranked n s)
    by_rule = ap (leaves g) (sym fitting.by_rule)

    pub known : Fits g (ranked n s)
    known = subst (Fits g) (sym fitting.by_rule) (fits g (chosen-of n holds))

  pub end-valid : (v i : ℕ) → Fitting n (End v i) → Chosen (end_left v (index_of n i) g)
  unfolding leaves ranked
  end-valid v i f = (below-factored g (chosen-of n holds) (listing v (chosen_of n)) _ _ (by_rule (End v i) f)).valid

  pub series-valid : (v i j : ℕ) → Fitting n (Series v i j) → Chosen (series_left v (index_of n i) (index_of n j) g)
  unfolding leaves ranked
  series-valid v i j f = (below-factored g (chosen-of n holds) (listing v (chosen_of n)) _ _ (by_rule (Series v i j) f)).valid

  pub sound-valid : Sized n → (i : ℕ) → Used n i → is_loop (link_of n i) ≡ false → Chosen (sound_left (index_of n i) g)
  sound-valid sized i u no_loop =
      let place = index-within n sized i u in
      (sound-terminals (length (links_of n) - 1) g (record { valid = chosen-of n holds; size = omega arith }) (index_of n i) (record { place = place; differ = eqb-false _ _ no_loop })).valid

  pub broken-valid : (i : ℕ) → Chosen (broken_left i g)
  broken-valid i = let own = chosen-of n holds in record { valid = deleted-valid (network_of n) holds.valid i; ascending = own.ascending; nodes = own.nodes }

-- the ends of a link in use
module _ (n : Network) (sized : Sized n) (holds : Invariant n) (i : ℕ) (u : Used n i) where
  pub ends-below : (get_or n.a i 0 < 32) × (get_or n.b i 0 < 32)
  ends-below = bounded n sized holds.valid i u.used

  -- the link goes from the tallies of both
  pub taken_out : (others : ℕ) (one two : List ℕ) → members others ≡ set (members n.alive) i false
      → Written false (get_or n.a i 0) i n.at one → Written false (get_or n.b i 0) i one two → Incidence two others n.a n.b
  taken_out others one two = taken n.at n.a n.b n.alive (record { a_length = sized.a_length; b_length = sized.b_length }) holds.tallies i others one two u.below

-- an empty network: no node has a link
pub none-counted : Incidence (replicate 32 0) 0 (replicate 64 0) (replicate 64 0)
none-counted = counted (replicate 32 0) (replicate 64 0) (replicate 64 0) 0 (record { a_length = length-replicate {A = ℕ} 64 0; b_length = length-replicate {A = ℕ} 64 0 })
    (λ v p h k. ap (λ (s : ℕ). has s p) (get_or-replicate 32 v 0 0 h) ∙ has-none p ∙ ap (λ (b : Bool). b && touching v (get_or (replicate 64 0) p 0) (get_or (replicate 64 0) p 0)) (sym (has-none p)))

-- the ends of a link that comes
pub proper-below : (n : Network) → Sized n → (l : Link) → Proper (nodes_of n) l → (l.a < 32) × (l.b < 32)
proper-below n sized l proper =
    let below : (v : ℕ) → Memᴰ v (nodes_of n) → v < 32 = λ v m. has-below n.nodes 32 v sized.nodes (mem-has n.nodes v m) in
    (below l.a proper.a_node, below l.b proper.b_node)

-- it is put into the tallies of both
pub put-into : (n : Network) → Sized n → Invariant n → (k : ℕ) → Built n k → k < 64 → (x y more : ℕ) (one two : List ℕ) → members more ≡ set (members n.alive) k true
    → Written true x k n.at one → Written true y k one two → Incidence two more (set n.a k x) (set n.b k y)
put-into n sized holds k built below x y more one two =
    added n.at n.a n.b n.alive (record { a_length = sized.a_length; b_length = sized.b_length }) holds.tallies k more x y one two below (built-free n k built)

-- the other end of a link
pub across-below : (v a b : ℕ) {w : ℕ} → (a < 32) × (b < 32) → w ≡ cond (eqb a v) b a → w < 32
across-below v a b {w} h e = go (eqb a v) e
  where
    go : (t : Bool) → w ≡ cond t b a → w < 32
    go true e = omega (arith, h)
    go false e = omega (arith, h)

-- link i from v goes to v's other neighbour, across link j, which goes
module _ (n : Network) (sized : Sized n) (holds : Invariant n) (v i j : ℕ) (fitting : Fitting n (Series v i j)) where
  at-series : AtSeries (network_of n) v (index_of n i) (index_of n j)
  unfolding ranked
  at-series = (known n holds (Series v i j) fitting).two

  leg : Leg v (row_at n i)
  leg = subst (Leg v) (link-at n sized i fitting.placed.1) at-series.first

  -- the ends of link i are v and its neighbour
  both_ways : (u : ℕ) → touching u (get_or n.a i 0) (get_or n.b i 0) ≡ touching u v (across v (row_at n i))
  both_ways u = ⊎_elim (λ q. ap₂ (touching u) q.0 q.1) (λ q. ap₂ (touching u) q.0 q.1 ∙ or_comm (eqb (across v (row_at n i)) u) (eqb v u)) leg.joins

  pub turned-over : (one two three four : List ℕ) (x : ℕ) → x ≡ across v (row_at n i) → {y : ℕ} (others : ℕ) → members others ≡ set (members n.alive) j false
      → Written false (get_or n.a j 0) j n.at one → Written false (get_or n.b j 0) j one two → Written false v i two three → Written true y i three four
      → Incidence four others (set n.a i x) (set n.b i y)
  turned-over one two three four x e {y} others cleared first second third fourth =
      let u = fitting.placed.1 in
      let w = fitting.placed.2 in
      let apart : i ≡ j → ⊥ = λ q. omega (arith, at-series.order, ap (index_of n) q) in
      let used : has others i ≡ true = has-without others n.alive j cleared w.below i ∙ ap₂ (λ (s t : Bool). not s && t) (ne_eqb i j apart) u.used in
      turned two n.a n.b others (record { a_length = sized.a_length; b_length = sized.b_length }) (taken_out n sized holds j w others one two cleared first second)
      i v x y three four u.below used (λ t. both_ways t ∙ ap (touching t v) (sym e)) (λ q. leg.differ (sym e ∙ sym q)) third fourth

-- link i goes
pub deletes : (n : Network) (sized : Sized n) (holds : Invariant n) (i : ℕ) (u : Used n i) (others : ℕ) (one two : List ℕ) → members others ≡ set (members n.alive) i false
    → Written false (get_or n.a i 0) i n.at one → Written false (get_or n.b i 0) i one two
    → let r : Network = record { alive = others; at = two; low = n.low; high = n.high; a = n.a; b = n.b; nodes = n.nodes; chosen = n.chosen } in (terminals_of r ≡ broken_left (index_of n i) (terminals_of n)) × Invariant r
deletes n sized holds i u others one two cleared first second =
    let links = deleted-links n others i (all_rows n) u cleared in
    stands _ (λ t. among (chosen_of n) (record { nodes = nodes_of n; links = links t })) (broken-valid n holds (index_of n i)) (taken_out n sized holds i u others one two cleared first second)

-- node v and its one link i go, and its neighbour w stands for it among the chosen
pub ended-as : (n : Network) (sized : Sized n) (holds : Invariant n) (v i : ℕ) (f : Fitting n (End v i)) (others nodes chosen w : ℕ) (one two : List ℕ) → members others ≡ set (members n.alive) i false
    → nodes_in nodes ≡ without v (nodes_of n) → w ≡ across v (link_of n i) → nodes_in chosen ≡ into w v (chosen_of n)
    → Written false (get_or n.a i 0) i n.at one → Written false (get_or n.b i 0) i one two
    → let r : Network = record { alive = others; at = two; low = n.low; high = n.high; a = n.a; b = n.b; nodes = nodes; chosen = chosen } in (terminals_of r ≡ end_left v (index_of n i) (terminals_of n)) × Invariant r
ended-as n sized holds v i f others nodes chosen w one two cleared left neighbour made_one first second =
    let u = f.placed.1 in
    let links = deleted-links n others i (all_rows n) u cleared in
    let handed = made_one ∙ ap (λ (x : ℕ). into x v (chosen_of n)) neighbour in
    stands _ (λ t. among (handed t) (record { nodes = left t; links = links t })) (end-valid n holds v i f) (taken_out n sized holds i u others one two cleared first second)
