-- The work by what the step that fits leaves, and what is known of its figure.
use Prim.Native.Nat.{ℕ, zero, suc, ◌-◌, ◌≤◌, ◌<◌, min}
use mathlib.Core.Path.{◌≡◌, refl, sym, ap, ap₂, ◌∙◌, subst}
use mathlib.Core.Bool.{Bool, true, false, cond, true≢false}
use native.Mathlib.Omega.{arith}
use lib.ListN.{length}
use Rattle.rounding.specs.Rounding.{S}
use Rattle.rounding.specs.declared.Direction.{Direction}
use Rattle.reliability.specs.declared.Step.TheVariants.{Split}
use Rattle.reliability.specs.Networks.{link_at}
use Rattle.reliability.specs.Rule.{Remainder, settled, rest, scaled, branches, Tree, ready, multiplied, fork, taken, grown, is_split, tree_of, side}
use Rattle.reliability.specs.Terminals.{Terminals, Chosen, next_at, split_at, next, sound_left, broken_left, factored, leaves, step_at, tree, figure}
use Rattle.reliability.proofs.Lawful.{Leaves, View, Place, Sized, Lawful, Choice}
use Rattle.reliability.proofs.Runs.{steps, range}
use Rattle.reliability.proofs.TerminalSteps.{view, split-choice, split-anywhere, SizedTerminals}
use Rattle.reliability.proofs.Enclosure.{ranged}
use Rattle.reliability.proofs.TerminalSums.{lawful}

-- ---- one step of a tree

module _ {N : Type 0} (Valid : N → Type 0) (μ : View N) (step : ℕ → N → Remainder N) (lawful : Lawful Valid μ step) (choose : N → ℕ) (choice : Choice μ choose) where
  abbrev of : N → Tree
  of g = tree_of step choose (length (μ.links g)) g

  same_size : (m : ℕ) (h : N) → Sized Valid μ m h → tree_of step choose m h ≡ of h
  same_size m h s = ap (λ n. tree_of step choose n h) (sym s.size)

  grown-alike : (m i : ℕ) (r : Remainder N) → Leaves (Sized Valid μ m) r → grown (tree_of step choose m) i r ≡ grown of i r
  unfolding grown
  grown-alike m i (settled k) l = refl
  grown-alike m i (rest h) l = same_size m h l
  grown-alike m i (scaled k h) l = ap (multiplied k) (same_size m h l.0)
  grown-alike m i (branches e x y) l = ap₂ (taken i e) (same_size m x l.0) (same_size m y l.1)

  -- the work at place i
  abbrev at : N → ℕ → Tree
  at g i = grown of i (step i g)

  -- a split is still to take; at a place past the last it is taken at the last
  abbrev forked : ℕ → N → Tree
  forked m g = cond (is_split (step (choose g) g)) (fork (choose g) (λ i. at g (min i m))) (at g (choose g))

  -- the tree is grown from the trees of what the step leaves
  pub unrolled : (m : ℕ) (g : N) → Sized Valid μ (suc m) g → of g ≡ forked m g
  unfolding tree_of
  unrolled m g h =
      let work : (i : ℕ) → Place μ g i → grown (tree_of step choose m) i (step i g) ≡ at g i = λ i here. grown-alike m i (step i g) (lawful.left m g h i here) in
      sym (same_size (suc m) g h)
      ∙ ap₂ (λ w t. cond (is_split (step (choose g) g)) (fork (choose g) w) t) (λ j i. work (min i m) (λ here. omega (arith, h.size)) j) (work (choose g) (choice g))

  unrolled-none : (g : N) → Sized Valid μ 0 g → of g ≡ at g (choose g)
  unfolding tree_of grown
  unrolled-none g h =
      let s = (lawful.none_left g h (choose g)).2 in
      sym (same_size 0 g h) ∙ ap (grown (λ h. ready (λ d. 0)) (choose g)) s ∙ sym (ap (grown of (choose g)) s)

  -- but for a split
  pub unrolled-other : (g : N) → Valid g → is_split (step (choose g) g) ≡ false → of g ≡ at g (choose g)
  unrolled-other g valid other = go (length (μ.links g)) refl
    where
      go : (m : ℕ) → length (μ.links g) ≡ m → of g ≡ at g (choose g)
      go zero e = unrolled-none g (record { valid = valid; size = e })
      go (suc m) e = unrolled m g (record { valid = valid; size = e }) ∙ ap (λ c. cond c (fork (choose g) (λ i. at g (min i m))) (at g (choose g))) other

-- ---- the rule

-- a valid network, with its chosen nodes, that has fewer links than g
pub record Below (g h : Terminals) : Type 0 where
  pub valid : Chosen h
  pub fewer : length h.network.links < length g.network.links

module _ (g : Terminals) (valid : Chosen g) where
  by-step : (r : Remainder Terminals) → is_split r ≡ false → leaves g (next g) ≡ r → tree g ≡ grown tree (split_at g) r
  by-step r other e = unrolled-other Chosen view step_at lawful split_at split-choice g valid (ap is_split e ∙ other) ∙ ap (grown tree (split_at g)) e

  pub tree-settled : (k : ℕ) → leaves g (next g) ≡ settled k → tree g ≡ ready (λ d. k)
  unfolding grown
  tree-settled k e = by-step (settled k) refl e

  pub tree-rest : (h : Terminals) → leaves g (next g) ≡ rest h → tree g ≡ tree h
  unfolding grown
  tree-rest h e = by-step (rest h) refl e

  tree-scaled : (k : Direction → ℕ) (h : Terminals) → leaves g (next g) ≡ scaled k h → tree g ≡ multiplied k (tree h)
  unfolding grown
  tree-scaled k h e = by-step (scaled k h) refl e

  -- with a factor or without
  pub tree-factored : (b : Bool) (k : Direction → ℕ) (h : Terminals) → leaves g (next g) ≡ factored b k h → tree g ≡ cond b (multiplied k (tree h)) (tree h)
  tree-factored true k h e = tree-scaled k h e
  tree-factored false k h e = tree-rest h e

  -- the work once a split is taken at place i
  abbrev pub workAt : ℕ → Tree
  workAt i = taken i (link_at g.network i) (tree (sound_left i g)) (tree (broken_left i g))

  -- a split, still to take: it may be taken at each place
  pub tree-split : (c : ℕ) → next g ≡ Split c → tree g ≡ fork (split_at g) (λ i. workAt (min i (length g.network.links - 1)))
  unfolding grown leaves
  tree-split c e = go (length g.network.links) refl
    where
      there : (i : ℕ) → next_at i g ≡ Split i
      there = split-anywhere g (split_at g) c e

      go : (m : ℕ) → length g.network.links ≡ m → tree g ≡ fork (split_at g) (λ i. workAt (min i (m - 1)))
      go zero n = absurd (let k = lawful.none_left g (record { valid = valid; size = n }) (split_at g) in true≢false (ap is_split (sym (ap (leaves g) (there (split_at g))) ∙ k.2)))
      go (suc m) n =
          unrolled Chosen view step_at lawful split_at split-choice m g (record { valid = valid; size = n })
          ∙ ap (λ r. cond (is_split r) (fork (split_at g) (λ i. grown tree (min i m) (step_at (min i m) g))) (grown tree (split_at g) (step_at (split_at g) g))) (ap (leaves g) (there (split_at g)))
          ∙ ap (fork (split_at g)) (λ j i. grown tree (min i m) (leaves g (there (min i m) j)))
          ∙ ap (λ k. fork (split_at g) (λ i. workAt (min i k))) (let k : m ≡ suc m - 1 = omega arith in k)

  less : (m : ℕ) → length g.network.links ≡ suc m → (h : Terminals) → SizedTerminals m h → Below g h
  less m e h s = let k = s.size in record { valid = s.valid; fewer = omega arith }

  -- what is left
  remains : Leaves (Below g) (leaves g (next g))
  remains = go (length g.network.links) refl
    where
      known : (m : ℕ) → length g.network.links ≡ suc m → (r : Remainder Terminals) → Leaves (SizedTerminals m) r → Leaves (Below g) r
      known m e (settled k) l = l
      known m e (rest h) l = less m e h l
      known m e (scaled k h) l = (less m e h l.0, l.1)
      known m e (branches f s b) l = (less m e s l.0, less m e b l.1, l.2)

      go : (m : ℕ) → length g.network.links ≡ m → Leaves (Below g) (leaves g (next g))
      go zero e = let n = lawful.none_left g (record { valid = valid; size = e }) (split_at g) in rw n.2 n.1
      go (suc m) e = known m e (leaves g (next g)) (lawful.left m g (record { valid = valid; size = e }) (split_at g) (split-choice g))

  pub below_rest : (h : Terminals) → leaves g (next g) ≡ rest h → Below g h
  below_rest h e = rw e at remains

  below-scaled : (k : Direction → ℕ) (h : Terminals) → leaves g (next g) ≡ scaled k h → Below g h
  below-scaled k h e = let l = rw e at remains in l.0

  pub below-factored : (b : Bool) (k : Direction → ℕ) (h : Terminals) → leaves g (next g) ≡ factored b k h → Below g h
  below-factored true k h e = below-scaled k h e
  below-factored false k h e = below_rest h e

  -- wherever a split is taken, its branches have fewer links
  pub below-branches : (c : ℕ) → next g ≡ Split c → (i : ℕ) → i < length g.network.links → Below g (sound_left i g) × Below g (broken_left i g)
  unfolding leaves
  below-branches c e i here = go (length g.network.links) refl
    where
      go : (m : ℕ) → length g.network.links ≡ m → Below g (sound_left i g) × Below g (broken_left i g)
      go zero n = absurd (omega arith)
      go (suc m) n =
          let s : SizedTerminals (suc m) g = record { valid = valid; size = n } in
          let l = subst (Leaves (SizedTerminals m)) (ap (leaves g) (split-anywhere g (split_at g) c e i)) (lawful.left m g s i (λ _. here)) in
          (less m n (sound_left i g) l.0, less m n (broken_left i g) l.1)

-- what is known of a figure: its range, its steps
pub figure-range : (d : Direction) (g : Terminals) (limit : ℕ) → Chosen g → side d (figure g limit) ≤ S
figure-range d g limit valid = range (tree g) (ranged Chosen view step_at lawful split_at split-choice (length g.network.links) g (record { valid = valid; size = refl })) d limit

pub figure-steps : (g : Terminals) (limit : ℕ) → Chosen g → (figure g limit).steps ≤ limit
figure-steps g limit valid = omega (arith, steps (tree g) limit)
