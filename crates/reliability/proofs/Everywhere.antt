-- Choosing all nodes gives document 01's rule: the same tree, so the same figures to the unit and the same splits; what holds of the
-- rule for chosen nodes holds of document 01's.
use Prim.Native.Nat.{ℕ, ◌<◌, min, max}
use mathlib.Core.Path.{◌≡◌, refl, sym, ap, ap₂, ◌∙◌, subst}
use mathlib.Core.List.Memᴰ
use mathlib.Core.List.{List, [], ◌∷◌, map, Memᴰ}
use mathlib.Core.Bool.{Bool, true, false, not, ◌&&◌, ◌||◌}
use mathlib.Core.Logic.{⊎_elim}
use mathlib.Core.Option
use mathlib.Core.Option.{Option, some, none}
use native.Mathlib.Omega.{arith}
use lib.Dec.{eqb, leb}
use lib.ListN.{length}
use borrow.Author.Tests.{leb-false}
use Rattle.rounding.specs.declared.Direction.{Direction}
use Rattle.reliability.specs.declared.Link.{Link}
use Rattle.reliability.specs.declared.Step.{Step}
use Rattle.reliability.specs.declared.Step.TheVariants.{OneNode, Disconnected, Loop, Parallel, End, Series, Split}
use Rattle.reliability.specs.Networks.{Network, Valid, ends, link_at, connected, pieces_of}
use Rattle.reliability.specs.Rule.{is_loop, touches, places, first_at, first_pair, lowest, end_of, series_of, when, ◌otherwise◌, chosen as splitPlace, across, deleted, contracted, Remainder, settled, rest, scaled, branches, run, splits}
use Rattle.reliability.specs.Rule.{next_at as nextAll, leaves as leavesAll, step_at as stepAll, tree as treeAll, figure as figureAll, needed as neededAll}
use Rattle.reliability.specs.Terminals.{Terminals, Chosen, everywhere, has, astray, between, series_in, next_at, sound_left, leaves, step_at, split_at, tree, figure, needed}
use Rattle.reliability.proofs.Connection.{connected-sound, connected-complete}
use Rattle.reliability.proofs.Pieces.{one_piece}
use Rattle.reliability.proofs.Searches.{Fails, none_found, Placed, placed}
use Rattle.reliability.proofs.Validity.{proper-at, across-node, smaller-node, larger-node, valued}
use Rattle.reliability.proofs.Lawful.{Leaves, Place, Reduces, Fewer, Sized, Lawful}
use Rattle.reliability.proofs.Steps.{AtSplit, uniform}
use Rattle.reliability.proofs.Steps.{view as viewAll}
use Rattle.reliability.proofs.Chosen.{mem-has, into-both}
use Rattle.reliability.proofs.TerminalSteps.{view, Fits, fits-at, split-choice}
use Rattle.reliability.proofs.TerminalSums.{lawful as lawfulChosen}
use Rattle.reliability.proofs.Alike.{seen, trees-alike}

pub lowest-same : (r r' : ℕ → List ℕ → Option Step) (es : List Link) (vs : List ℕ)
    → ((v : ℕ) → Memᴰ v vs → r v (places (touches v) es) ≡ r' v (places (touches v) es)) → lowest r es vs ≡ lowest r' es vs
unfolding lowest
lowest-same r r' es [] h = refl
lowest-same r r' es (v ∷ vs) h =
    ap₂ (λ (o q : Option Step). elim o [ some s ↦ some s | none ↦ q ]) (h v (Memᴰ.head refl)) (lowest-same r r' es vs (λ u m. h u (Memᴰ.tail m)))

module _ (g : Network) (valid : Valid g) where
  abbrev es : List Link
  es = g.links

  abbrev vs : List ℕ
  vs = g.nodes

  -- in one piece no link is astray
  none-astray : connected vs (map ends es) ≡ true → Fails (astray (everywhere g)) es
  none-astray c e m = ap not (connected-complete (e.a ∷ vs) (map ends es) (λ χ k u v mu mv. connected-sound vs (map ends es) c χ k u v (node u mu) (node v mv)))
    where
      node : (u : ℕ) → Memᴰ u (e.a ∷ vs) → Memᴰ u vs
      node u n = ⊎_elim (λ p. Memᴰ.cast p (valid.proper e m).a_node) (λ n. n) (Memᴰ.cases_cons n)

  -- each neighbour is chosen
  series-all : (v : ℕ) → Memᴰ v vs → (is : List ℕ) → Placed (touches v) es is → series_in (everywhere g) v is ≡ series_of v is
  series-all v n [] p = refl
  series-all v n (i ∷ []) p = refl
  series-all v n (i ∷ (j ∷ [])) p =
      ap (λ b. when b (Series v i j)) both
    where
      chosen : (k : ℕ) → k < length es → has (across v (link_at g k)) vs ≡ true
      chosen k h = mem-has _ vs (across-node vs v (link_at g k) (proper-at g valid k h))

      or_right : (b : Bool) → b || (true && true) ≡ true
      or_right true = refl
      or_right false = refl

      both : between (everywhere g) v i j ≡ true
      both = rw (chosen i p.1.place, chosen j p.2.place) (or_right (not (has v vs)))
  series-all v n (i ∷ (j ∷ (k ∷ r))) p = refl

  same_next : (i : ℕ) → next_at i (everywhere g) ≡ nextAll i g
  unfolding next_at nextAll
  same_next i = go (first_at is_loop es) (leb (length vs) 1) refl (connected vs (map ends es)) refl
    where
      series : lowest (series_in (everywhere g)) es vs ≡ lowest series_of es vs
      series = lowest-same (series_in (everywhere g)) series_of es vs (λ v m. series-all v m (places (touches v) es) (placed (touches v) es))

      -- more than one node are connected if they are in one piece, else not
      parted : leb (length vs) 1 ≡ false → (whole : Bool) → connected vs (map ends es) ≡ whole → eqb (pieces_of g) 1 ≡ whole
      parted o whole w = sym (one_piece g (omega (arith, leb-false (length vs) 1 o))) ∙ w

      go : (loop : Option ℕ) (one : Bool) → leb (length vs) 1 ≡ one → (whole : Bool) → connected vs (map ends es) ≡ whole
          → Option.map Loop loop otherwise when one OneNode otherwise when (not whole) Disconnected otherwise Option.map Loop (first_at (astray (everywhere g)) es)
          otherwise Option.map (λ ij. Parallel ij.0 ij.1) (first_pair es) otherwise lowest end_of es vs otherwise lowest (series_in (everywhere g)) es vs otherwise Split i
          ≡ Option.map Loop loop otherwise when one OneNode otherwise when (not (eqb (pieces_of g) 1)) Disconnected
          otherwise Option.map (λ ij. Parallel ij.0 ij.1) (first_pair es) otherwise lowest end_of es vs otherwise lowest series_of es vs otherwise Split i
      go (some j) one o whole w = refl
      go none true o whole w = refl
      go none false o false w = rw (parted o false w)
      go none false o true w = rw (parted o true w, (none_found (astray (everywhere g)) es).1 (none-astray w), series)

  -- with all nodes chosen both ends of a link are
  pub sound-everywhere : (i : ℕ) → AtSplit g i → sound_left i (everywhere g) ≡ everywhere (contracted (link_at g i) (deleted i g))
  sound-everywhere i k =
      let e = link_at g i in
      let p = proper-at g valid i k.place in
      rw (into-both (min e.a e.b) (max e.a e.b) vs valid.ascending (smaller-node vs e p) (larger-node vs e p) (λ q. k.differ (omega arith)))

  same-leaves : (s : Step) → Fits (everywhere g) s → leaves (everywhere g) s ≡ seen everywhere (leavesAll g s)
  unfolding leaves leavesAll
  same-leaves OneNode h = refl
  same-leaves Disconnected h = refl
  same-leaves (Loop i) h = refl
  same-leaves (Parallel i j) h = refl
  same-leaves (End v i) h =
      let e = link_at g i in
      let k = h.0 in
      rw (mem-has v vs k.node, into-both (across v e) v vs valid.ascending (across-node vs v e (proper-at g valid i k.place)) k.node k.leg.differ)
  same-leaves (Series v i j) h = rw (mem-has v vs h.two.node)
  same-leaves (Split i) h = ap (λ (s : Terminals). branches (link_at g i) s (everywhere (deleted i g))) (sound-everywhere i h.0)

  pub chosen-all : Chosen (everywhere g)
  chosen-all = record { valid = valid; ascending = valid.ascending; nodes = λ v m. m }

  pub same_step : (i : ℕ) → Place view (everywhere g) i → step_at i (everywhere g) ≡ seen everywhere (stepAll i g)
  same_step i at = same-leaves (next_at i (everywhere g)) (fits-at (everywhere g) chosen-all i at) ∙ ap (λ s. seen everywhere (leavesAll g s)) (same_next i)

-- ---- the old answer to the unit

module _ (g : Network) (valid : Valid g) where
  -- the rule with all nodes chosen is the rule of document 01
  pub tree-everywhere : tree (everywhere g) ≡ treeAll g
  tree-everywhere = trees-alike everywhere stepAll splitPlace Chosen view step_at lawfulChosen split_at split-choice (λ h. refl) (λ h c. same_step h c.valid) (length g.links) g (record { valid = chosen-all g valid; size = refl })

  pub figure-everywhere : (limit : ℕ) → figure (everywhere g) limit ≡ figureAll g limit
  figure-everywhere limit = ap (λ t. run t limit) tree-everywhere

  pub needed-everywhere : needed (everywhere g) ≡ neededAll g
  needed-everywhere = ap splits tree-everywhere

-- ---- what holds of document 01's rule

module _ (m : ℕ) where
  unsized : (r : Remainder Network) → Leaves (Sized Chosen view m) (seen everywhere r) → Leaves (Sized Valid viewAll m) r
  unsized (settled k) l = l
  unsized (rest h) l = record { valid = l.valid.valid; size = l.size }
  unsized (scaled k h) l = (record { valid = l.0.valid.valid; size = l.0.size }, l.1)
  unsized (branches e s b) l = (record { valid = l.0.valid.valid; size = l.0.size }, record { valid = l.1.valid.valid; size = l.1.size }, l.2)

-- seen and seen back
back : (r : Remainder Network) → r ≡ seen (λ (h : Terminals). h.network) (seen everywhere r)
back (settled k) = refl
back (rest h) = refl
back (scaled k h) = refl
back (branches e s b) = refl

fewer-all : (g : Network) (r : Remainder Network) → Fewer view (everywhere g) (seen everywhere r) → Fewer viewAll g r
fewer-all g (settled k) f = f
fewer-all g (rest h) f = f
fewer-all g (scaled k h) f = f
fewer-all g (branches e s b) f = f

reduces-all : (d : Direction) (g : Network) (r : Remainder Network) → Reduces view d (everywhere g) (seen everywhere r) → Reduces viewAll d g r
reduces-all d g (settled k) f = f
reduces-all d g (rest h) f = f
reduces-all d g (scaled k h) f = f
reduces-all d g (branches e s b) f = f

pub lawful : Lawful Valid viewAll stepAll
lawful = record {
  uniform = uniform;
  values = λ g. valued;
  left = λ m g h i at. unsized m (stepAll i g)
      (subst (Leaves (Sized Chosen view m)) (same_step g h.valid i at) (lawfulChosen.left m (everywhere g) (record { valid = chosen-all g h.valid; size = h.size }) i at));
  none_left = λ g h i.
      let (k, range, e) = lawfulChosen.none_left (everywhere g) (record { valid = chosen-all g h.valid; size = h.size }) i in
      (k, range, back (stepAll i g) ∙ ap (seen (λ (t : Terminals). t.network)) (sym (same_step g h.valid i (λ here. absurd (omega (arith, h.size)))) ∙ e));
  fewer = λ g valid i at. fewer-all g (stepAll i g) (subst (Fewer view (everywhere g)) (same_step g valid i at) (lawfulChosen.fewer (everywhere g) (chosen-all g valid) i at));
  reduces = λ d g valid i at. reduces-all d g (stepAll i g) (subst (Reduces view d (everywhere g)) (same_step g valid i at) (lawfulChosen.reduces d (everywhere g) (chosen-all g valid) i at));
}
