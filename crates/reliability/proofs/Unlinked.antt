-- An unchosen node without a link, which step 5 of document 02's rule lets go without a factor, bears on nothing: without it the work is the same.
use Prim.Native.Nat.{ℕ, zero, suc}
use mathlib.Core.Path.{◌≡◌, refl, sym, ap, ap₂, ◌∙◌}
use mathlib.Core.List.Memᴰ
use mathlib.Core.List.{List, [], ◌∷◌, map, Memᴰ}
use mathlib.Core.Bool.{Bool, true, false, not, ◌||◌}
use mathlib.Core.Option
use mathlib.Core.Option.{Option, some, none}
use lib.Dec.{eqb, leb}
use lib.ListN.{length}
use Rattle.rounding.specs.declared.Direction.{Direction}
use Rattle.reliability.specs.declared.Link.{Link}
use Rattle.reliability.specs.declared.Step.{Step}
use Rattle.reliability.specs.declared.Step.TheVariants.{OneNode, Disconnected, Loop, Parallel, End, Series, Split}
use Rattle.reliability.specs.Networks.{ends, connected}
use Rattle.reliability.specs.Rule.{is_loop, touches, places, first_at, first_pair, lowest, end_of, when, ◌otherwise◌, largest_sum, without, removed}
use Rattle.reliability.specs.Terminals.{Terminals, among, Chosen, has, astray, series_in, next_at, end_left, series_left, factored, leaves, step_at, split_at, tree}
use Rattle.reliability.proofs.Lists.{by_eqb, mem-without, without-mem}
use Rattle.reliability.proofs.Searches.{Fails}
use Rattle.reliability.proofs.Validity.{removed-valid}
use Rattle.reliability.proofs.Steps.{misses-off}
use Rattle.reliability.proofs.Enclosure.{keep}
use Rattle.reliability.proofs.TerminalSteps.{view, split-choice}
use Rattle.reliability.proofs.TerminalSums.{lawful}
use Rattle.reliability.proofs.Alike.{seen, trees-alike}
use Rattle.reliability.proofs.Everywhere.{lowest-same}

places-none : (p : Link → Bool) (es : List Link) → Fails p es → places p es ≡ []
unfolding places
places-none p [] h = refl
places-none p (e ∷ es) h =
    ap₂ (λ (b : Bool) (is : List ℕ). elim b [ true ↦ zero ∷ map suc is | false ↦ map suc is ]) (h e (Memᴰ.head refl)) (places-none p es (λ f m. h f (Memᴰ.tail m)))

module _ (v : ℕ) where
  -- two nodes go in either order
  without-twice : (w : ℕ) (l : List ℕ) → without w (without v l) ≡ without v (without w l)
  unfolding without
  without-twice w [] = refl
  without-twice w (u ∷ l) = go (eqb u v) refl (eqb u w) refl (without-twice w l)
    where
      go : (b : Bool) → eqb u v ≡ b → (c : Bool) → eqb u w ≡ c → without w (without v l) ≡ without v (without w l)
          → without w (keep b u (without v l)) ≡ without v (keep c u (without w l))
      go true p true q same = same
      go true p false q same = same ∙ sym (ap (λ b. keep b u (without v (without w l))) p)
      go false p true q same = ap (λ b. keep b u (without w (without v l))) q ∙ same
      go false p false q same = ap (λ b. keep b u (without w (without v l))) q ∙ ap (λ t. u ∷ t) same ∙ sym (ap (λ b. keep b u (without v (without w l))) p)

  -- a search passes over a node that its rule does not fit
  lowest-without : (r : ℕ → List ℕ → Option Step) (es : List Link) → r v (places (touches v) es) ≡ none → (vs : List ℕ) → lowest r es (without v vs) ≡ lowest r es vs
  unfolding lowest without
  lowest-without r es off [] = refl
  lowest-without r es off (u ∷ vs) =
      by_eqb (λ b. lowest r es (elim b [ true ↦ without v vs | false ↦ u ∷ without v vs ]) ≡ elim (r u (places (touches u) es)) [ some s ↦ some s | none ↦ lowest r es vs ]) u v
      (λ e. lowest-without r es off vs ∙ sym (ap (λ (o : Option Step). elim o [ some s ↦ some s | none ↦ lowest r es vs ]) (ap (λ n. r n (places (touches n) es)) e ∙ off)))
      (λ n. ap (λ (q : Option Step). elim (r u (places (touches u) es)) [ some s ↦ some s | none ↦ q ]) (lowest-without r es off vs))

  -- the network without node v
  abbrev pub lacking : Terminals → Terminals
  lacking g = among g.chosen (removed v g.network)

  factored-lacking : (b : Bool) (k : Direction → ℕ) (h : Terminals) → factored b k (lacking h) ≡ seen lacking (factored b k h)
  factored-lacking true k h = refl
  factored-lacking false k h = refl

  module _ (g : Terminals) where
    abbrev es : List Link
    es = g.network.links

    abbrev vs : List ℕ
    vs = g.network.nodes

    same-series : (u : ℕ) (is : List ℕ) → series_in (lacking g) u is ≡ series_in g u is
    same-series u [] = refl
    same-series u (i ∷ []) = refl
    same-series u (i ∷ (j ∷ [])) = refl
    same-series u (i ∷ (j ∷ (k ∷ r))) = refl

    -- the same step fits
    same_next : Chosen (lacking g) → (i : ℕ) → next_at i (lacking g) ≡ next_at i g
    unfolding next_at
    same_next valid i =
        ap₂ (λ (e s : Option Step).
        Option.map Loop (first_at is_loop es) otherwise when (leb (length g.chosen) 1) OneNode
        otherwise when (not (connected g.chosen (map ends es))) Disconnected otherwise Option.map Loop (first_at (astray g) es)
        otherwise Option.map (λ ij. Parallel ij.0 ij.1) (first_pair es) otherwise e otherwise s otherwise Split i)
        (lowest-without end_of es (ap (end_of v) none-at) vs)
        (lowest-same (series_in (lacking g)) (series_in g) es (without v vs) (λ u m. same-series u (places (touches u) es)) ∙ lowest-without (series_in g) es (ap (series_in g v) none-at) vs)
      where
        misses : (e : Link) → Memᴰ e es → touches v e ≡ false
        misses e m =
            let p = valid.valid.proper e m in
            by_eqb (λ b. b || eqb e.b v ≡ false) e.a v (λ q. absurd ((mem-without v e.a vs p.a_node).1 q))
            (λ n. by_eqb (λ b. b ≡ false) e.b v (λ q. absurd ((mem-without v e.b vs p.b_node).1 q)) (λ n. refl))

        none-at : places (touches v) es ≡ []
        none-at = places-none (touches v) es misses

    -- and leaves the same, without v
    same-leaves : (s : Step) → leaves (lacking g) s ≡ seen lacking (leaves g s)
    unfolding leaves
    same-leaves OneNode = refl
    same-leaves Disconnected = refl
    same-leaves (Loop i) = refl
    same-leaves (Parallel i j) = refl
    same-leaves (End w i) = rw (without-twice w vs) (factored-lacking (has w g.chosen) _ (end_left w i g))
    same-leaves (Series w i j) = rw (without-twice w vs) (factored-lacking (has w g.chosen) _ (series_left w i j g))
    same-leaves (Split i) = rw (without-twice _ vs)

  pub unlinked-tree : (g : Terminals) → Chosen g → (Memᴰ v g.chosen → ⊥) → Fails (touches v) g.network.links → tree (lacking g) ≡ tree g
  unfolding largest_sum
  unlinked-tree g valid unchosen misses =
      trees-alike lacking step_at split_at Chosen view step_at lawful split_at split-choice (λ h. refl)
      (λ h c i at. same-leaves h (next_at i (lacking h)) ∙ ap (λ s. seen lacking (leaves h s)) (same_next h c i)) (length g.network.links) g (record { valid = rest; size = refl })
    where
      rest : Chosen (lacking g)
      rest = record {
        valid = removed-valid g.network valid.valid v (λ e m. misses-off v e (misses e m));
        ascending = valid.ascending;
        nodes = λ u m. without-mem v u g.network.nodes (valid.nodes u m) (λ q. unchosen (Memᴰ.cast (sym q) m));
      }
