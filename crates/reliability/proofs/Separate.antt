-- Chosen nodes in different pieces: the figure is 0, without a split.
use Prim.Native.Nat.{ℕ, zero, suc, ◌≤◌, ◌<◌}
use mathlib.Core.Path.{◌≡◌, refl, sym, ap, ◌∙◌}
use mathlib.Core.List.Memᴰ
use mathlib.Core.List.{List, [], ◌∷◌, map, Memᴰ}
use mathlib.Core.Bool.{Bool, true, false, true≢false}
use mathlib.Core.Option.{Option, some, none}
use native.Mathlib.Nat.{le_refl}
use native.Mathlib.Omega.{arith}
use lib.Dec.{leb, eqb}
use lib.ListN.{length}
use borrow.Author.Tests.{lt-leb, le-leb, leb-true, leb-false}
use Rattle.reliability.specs.declared.Step.{Step}
use Rattle.reliability.specs.declared.Step.TheVariants.{Disconnected, Loop}
use Rattle.reliability.specs.Networks.{Network, Valid, Ends, ends, every, connected, last_of_each, pieces, pieces_of}
use Rattle.reliability.specs.Rule.{is_loop, first_at, first_pair, lowest, end_of, delete_at, rest, Tree, ready, bounded, run, tree as treeAll, figure as figureAll}
use Rattle.reliability.specs.Terminals.{Terminals, Chosen, everywhere, astray, series_in, split_at, next, broken_left, leaves, tree}
use Rattle.reliability.proofs.Lists.{by_eqb, not-true-false, mem-delete}
use Rattle.reliability.proofs.Connection.{connected-within}
use Rattle.reliability.proofs.Pieces.{connected-pieces, first-parted}
use Rattle.reliability.proofs.TerminalSteps.{in_turn, next-by}
use Rattle.reliability.proofs.Unrolled.{Below, tree-settled, tree-rest, below_rest}
use Rattle.reliability.proofs.Everywhere.{chosen-all, tree-everywhere}

-- one node or none is connected by whatever links
few-connected : (cs : List ℕ) (t : List Ends) → length cs ≤ 1 → connected cs t ≡ true
unfolding connected every
few-connected [] t h = refl
few-connected (c ∷ []) t h = refl
few-connected (c ∷ (d ∷ cs)) t h = absurd (omega arith)

pub apart-several : (cs : List ℕ) (t : List Ends) → connected cs t ≡ false → 1 < length cs
apart-several cs t apart = go (leb (length cs) 1) refl
  where
    go : (b : Bool) → leb (length cs) 1 ≡ b → 1 < length cs
    go false e = leb-false (length cs) 1 e
    go true e = absurd (true≢false (sym (few-connected cs t (leb-true (length cs) 1 e)) ∙ apart))

-- and a link less does not connect them
pub still-apart : (cs : List ℕ) (g : Network) (i : ℕ) → connected cs (map ends g.links) ≡ false → connected cs (map ends (delete_at i g.links)) ≡ false
still-apart cs g i apart = not-true-false (λ h. true≢false (sym (connected-within cs cs _ _ (λ u m. m) more h) ∙ apart))
  where
    more : (e : Ends) → Memᴰ e (map ends (delete_at i g.links)) → Memᴰ e (map ends g.links)
    more e m = let (f, n, q) = Memᴰ.of_map ends (delete_at i g.links) m in Memᴰ.cast (sym q) (Memᴰ.map ends (mem-delete i g.links n))

module _ (g : Terminals) (apart : connected g.chosen (map ends g.network.links) ≡ false) where
  -- the step that fits where there is a loop, and where there is none
  abbrev first_step : Option ℕ → Step
  first_step (some i) = Loop i
  first_step none = Disconnected

  first_fits : next g ≡ first_step (first_at is_loop g.network.links)
  first_fits =
      next-by (split_at g) g _ refl false (lt-leb (length g.chosen) 1 (apart-several g.chosen _ apart)) false apart _ refl _ refl _ refl _ refl
      ∙ go (first_at is_loop g.network.links)
    where
      go : (loop : Option ℕ) → in_turn loop false false (first_at (astray g) g.network.links) (first_pair g.network.links) (lowest end_of g.network.links g.network.nodes) (lowest (series_in g) g.network.links g.network.nodes) (split_at g) ≡ first_step loop
      go (some i) = refl
      go none = refl

-- where networks with fewer links have it
by-fewer : (g : Terminals) → Chosen g → connected g.chosen (map ends g.network.links) ≡ false
    → ((h : Terminals) → Below g h → connected h.chosen (map ends h.network.links) ≡ false → tree h ≡ ready (λ d. 0)) → tree g ≡ ready (λ d. 0)
unfolding leaves
by-fewer g valid apart fewer = go (first_at is_loop g.network.links) (first_fits g apart)
  where
    go : (loop : Option ℕ) → next g ≡ first_step g apart loop → tree g ≡ ready (λ d. 0)
    go (some i) f =
        let left : leaves g (next g) ≡ rest (broken_left i g) = ap (leaves g) f in
        tree-rest g valid (broken_left i g) left ∙ fewer (broken_left i g) (below_rest g valid (broken_left i g) left) (still-apart g.chosen g.network i apart)
    go none f = tree-settled g valid 0 (ap (leaves g) f)

by-links : (m : ℕ) (g : Terminals) → Chosen g → length g.network.links ≤ m → connected g.chosen (map ends g.network.links) ≡ false → tree g ≡ ready (λ d. 0)
by-links zero g valid few apart = by-fewer g valid apart (λ h b s. let k = b.fewer in absurd (omega arith))
by-links (suc m) g valid few apart = by-fewer g valid apart (λ h b s. let k = b.fewer in by-links m h b.valid (omega arith) s)

-- nothing is left to work
pub apart-tree : (g : Terminals) → Chosen g → connected g.chosen (map ends g.network.links) ≡ false → tree g ≡ ready (λ d. 0)
apart-tree g valid = by-links (length g.network.links) g valid (le_refl (length g.network.links))

-- ---- all nodes

-- connected: in at most one piece
connected-pieces-few : (g : Network) → connected g.nodes (map ends g.links) ≡ leb (pieces_of g) 1
unfolding connected last_of_each
connected-pieces-few g = go g.nodes
  where
    t : List Ends
    t = map ends g.links

    same_test : (l : ℕ) → 0 < l → eqb l 1 ≡ leb l 1
    same_test l h = by_eqb (λ b. b ≡ leb l 1) l 1 (λ z. sym (le-leb l 1 (omega arith))) (λ n. sym (lt-leb l 1 (omega arith)))

    go : (vs : List ℕ) → connected vs t ≡ leb (pieces vs t) 1
    go [] = refl
    go (v ∷ vs) = connected-pieces t v vs ∙ same_test (pieces (v ∷ vs) t) (omega (arith, first-parted t v vs))

-- in several pieces nothing is left to work
separate-tree : (g : Network) → Valid g → 1 < pieces_of g → treeAll g ≡ ready (λ d. 0)
separate-tree g valid several =
    sym (tree-everywhere g valid) ∙ apart-tree (everywhere g) (chosen-all g valid) (connected-pieces-few g ∙ lt-leb (pieces_of g) 1 several)

-- low and high are 0, no step is taken, and the figure is finished
pub separate-figure : (g : Network) → Valid g → 1 < pieces_of g → (limit : ℕ) → figureAll g limit ≡ bounded (λ d. 0) 0 true
unfolding run
separate-figure g valid several limit = ap (λ (t : Tree). run t limit) (separate-tree g valid several)
