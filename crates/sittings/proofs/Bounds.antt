-- Of work put back: its ranges, how many splits are open, and that each split may be taken where it is.
use Prim.Native.Nat.{ℕ, zero, suc, ◌-◌, ◌≤◌, min, zero-le, suc-le-suc}
use mathlib.Core.Path.{◌≡◌, refl, sym, ap, subst}
use mathlib.Core.List.{List, [], ◌∷◌}
use mathlib.Core.Bool.{Bool, true, false, cond, ◌||◌, false≢true, and-eq-true_iff}
use native.Mathlib.Nat.{le-suc, le_of_suc-le-suc, not-suc-le-zero}
use native.Mathlib.Omega.{arith}
use lib.Dec.{eqb}
use lib.ListN.{length}
use Rattle.reliability.specs.declared.Figure.{Figure}
use Rattle.reliability.specs.Networks.{Network, Valid}
use Rattle.reliability.specs.Rule.{Remainder, settled, rest, scaled, branches, Tree, ready, multiplied, fork, taken, grown, is_split, tree_of, tree as treeAll, run}
use Rattle.reliability.specs.Terminals.{Terminals, Chosen, everywhere as all, split_at, step_at, tree}
use Rattle.reliability.proofs.Lawful.{Leaves, View, Place, Sized, Lawful, Choice, everywhere, of_tree}
use Rattle.reliability.proofs.Runs.{Ranged}
use Rattle.reliability.proofs.TerminalSteps.{view, split-choice}
use Rattle.reliability.proofs.Enclosure.{ranged}
use Rattle.reliability.proofs.TerminalSums.{lawful as law}
use Rattle.reliability.proofs.Everywhere.{chosen-all, tree-everywhere}
use Rattle.sittings.specs.Sittings.{Open, running, known, place_of, sides, opened, opens, aside, resumed, traced}
use Rattle.sittings.specs.Entries.{Known, InRange}
use Rattle.sittings.proofs.Sittings.{Back, Formed}

-- what holds of the open splits of a taken split, whether its sound branch is finished or not
pub by-opened : (P : List Open → Type 0) (i : ℕ) (f : Figure) (sound broken : List Open)
    → (f.finished ≡ true → P (known i (sides f) ∷ broken)) → P (running i ∷ sound) → P (opened i f sound broken)
by-opened P i f sound broken whole part = go f.finished refl
  where
    go : (c : Bool) → f.finished ≡ c → P (elim c [ true ↦ known i (sides f) ∷ broken | false ↦ running i ∷ sound ])
    go true e = whole e
    go false e = part

-- ---- ranges

pub resumed-ranged : (t : Tree) (os : List Open) → Ranged t → Known InRange os → Ranged (resumed t os)
unfolding resumed
resumed-ranged t [] h q = h
resumed-ranged (ready k) (o ∷ os) h q = h
resumed-ranged (multiplied k t) (o ∷ os) h q = (h.0, resumed-ranged t (o ∷ os) h.1 q)
resumed-ranged (fork i w) (o ∷ os) h q = resumed-ranged (w (place_of o)) (o ∷ os) (h (place_of o)) q
resumed-ranged (taken i e s b) (running j ∷ os) h q = (h.0, resumed-ranged s os h.1 q, h.2)
resumed-ranged (taken i e s b) (known j k ∷ os) h q = (h.0, q.0, resumed-ranged b os h.2 q.1)

-- ---- how many splits are open

-- at most n splits on a way down, wherever each is taken
abbrev pub Deep : ℕ → Tree → Type 0
Deep n (ready k) = Unit {0}
Deep n (multiplied k t) = Deep n t
Deep n (fork i w) = (j : ℕ) → Deep n (w j)
Deep zero (taken i e s b) = ⊥
Deep (suc n) (taken i e s b) = Deep n s × Deep n b

pub opens-few : (n : ℕ) (t : Tree) → Deep n t → (l : ℕ) → length (opens t l) ≤ n
unfolding opens
opens-few n (ready k) h l = zero-le
opens-few n (multiplied k t) h l = opens-few n t h l
opens-few n (fork i w) h zero = zero-le
opens-few n (fork i w) h (suc l) = opens-few n (w i) (h i) l
opens-few zero (taken i e s b) h l = absurd h
opens-few (suc n) (taken i e s b) h l =
    by-opened (λ os. length os ≤ suc n) i (run s l) (opens s l) (opens b (l - (run s l).steps))
    (λ done. suc-le-suc (opens-few n b h.1 (l - (run s l).steps))) (suc-le-suc (opens-few n s h.0 l))

pub resumed-deep : (n : ℕ) (t : Tree) → Deep n t → (os : List Open) → Deep n (resumed t os)
unfolding resumed
resumed-deep n t h [] = h
resumed-deep n (ready k) h (o ∷ os) = tt
resumed-deep n (multiplied k t) h (o ∷ os) = resumed-deep n t h (o ∷ os)
resumed-deep n (fork i w) h (o ∷ os) = resumed-deep n (w (place_of o)) (h (place_of o)) (o ∷ os)
resumed-deep zero (taken i e s b) h (o ∷ os) = absurd h
resumed-deep (suc n) (taken i e s b) h (running j ∷ os) = (resumed-deep n s h.0 os, h.1)
resumed-deep (suc n) (taken i e s b) h (known j k ∷ os) = (tt, resumed-deep n b h.1 os)

-- a carried run sets aside no more open splits than there are splits on a way down
pub aside-few : (n : ℕ) (t : Tree) → Deep n t → (os : List Open) (l : ℕ) → length (aside (resumed t os) l) ≤ n
unfolding aside
aside-few n t h os l = go (run (resumed t os) l).finished
  where
    go : (c : Bool) → length {A = Open} (elim c [ true ↦ [] | false ↦ opens (resumed t os) l ]) ≤ n
    go true = zero-le
    go false = opens-few n (resumed t os) (resumed-deep n t h os) l

-- no more open splits pass check 11
pub traced-few : (n : ℕ) (t : Tree) → Deep n t → (os : List Open) → traced t os ≡ true → length os ≤ n
unfolding traced
traced-few n t d [] h = zero-le
traced-few n (ready k) d (o ∷ os) h = absurd (false≢true h)
traced-few n (multiplied k t) d (o ∷ os) h = traced-few n t d (o ∷ os) h
traced-few n (fork i w) d (o ∷ os) h =
    let j = place_of o in
    traced-few n (w j) (d j) (o ∷ os) ((and-eq-true_iff (eqb j 0 || eqb j i) (traced (w j) (o ∷ os))).0 h).1
traced-few zero (taken i e s b) d (o ∷ os) h = absurd d
traced-few (suc n) (taken i e s b) d (running j ∷ os) h = suc-le-suc (traced-few n s d.0 os ((and-eq-true_iff (eqb j i) (traced s os)).0 h).1)
traced-few (suc n) (taken i e s b) d (known j k ∷ os) h = suc-le-suc (traced-few n b d.1 os ((and-eq-true_iff (eqb j i) (traced b os)).0 h).1)

pub deeper : (n m : ℕ) (t : Tree) → n ≤ m → Deep n t → Deep m t
deeper n m (ready k) h d = tt
deeper n m (multiplied k t) h d = deeper n m t h d
deeper n m (fork i w) h d = λ j. deeper n m (w j) h (d j)
deeper zero m (taken i e s b) h d = absurd d
deeper (suc n) zero (taken i e s b) h d = absurd (not-suc-le-zero h)
deeper (suc n) (suc m) (taken i e s b) h d = (deeper n m s (le_of_suc-le-suc h) d.0, deeper n m b (le_of_suc-le-suc h) d.1)

-- ---- the work of a rule

module _ {N : Type 0} (Valid : N → Type 0) (μ : View N) (step : ℕ → N → Remainder N) (lawful : Lawful Valid μ step) (choose : N → ℕ) (choice : Choice μ choose) where
  grown-deep : (m : ℕ) (grow : N → Tree) → ((h : N) → Sized Valid μ m h → Deep m (grow h)) → (i : ℕ) (r : Remainder N) → Leaves (Sized Valid μ m) r → Deep (suc m) (grown grow i r)
  unfolding grown
  grown-deep m grow each i (settled k) l = tt
  grown-deep m grow each i (rest h) l = deeper m (suc m) (grow h) (le-suc m) (each h l)
  grown-deep m grow each i (scaled k h) l = deeper m (suc m) (grow h) (le-suc m) (each h l.0)
  grown-deep m grow each i (branches e x y) l = (each x l.0, each y l.1)

  -- no more splits lie on a way down than the network has links
  pub deep_of : (m : ℕ) (g : N) → Sized Valid μ m g → Deep m (tree_of step choose m g)
  unfolding tree_of grown
  deep_of zero g h = subst (λ (r : Remainder N). Deep 0 (grown (λ h. ready (λ d. 0)) (choose g) r)) (sym (lawful.none_left g h (choose g)).2) tt
  deep_of (suc m) g h =
      of_tree Valid μ step choose choice (Deep (suc m)) m g h (λ work each. each) (λ i at. grown-deep m (tree_of step choose m) (deep_of m) i (step i g) (lawful.left m g h i at))

  grown-formed : (m : ℕ) (grow : N → Tree) → ((h : N) → Sized Valid μ m h → Formed (grow h)) → (i : ℕ) (r : Remainder N) → Leaves (Sized Valid μ m) r → Formed (grown grow i r)
  unfolding grown
  grown-formed m grow each i (settled k) l = tt
  grown-formed m grow each i (rest h) l = each h l
  grown-formed m grow each i (scaled k h) l = each h l.0
  grown-formed m grow each i (branches e x y) l = (each x l.0, each y l.1)

  pub formed-of : (m : ℕ) (g : N) → Sized Valid μ m g → Formed (tree_of step choose m g)
  unfolding tree_of grown
  formed-of zero g h = subst (λ (r : Remainder N). Formed (grown (λ h. ready (λ d. 0)) (choose g) r)) (sym (lawful.none_left g h (choose g)).2) tt
  formed-of (suc m) g h =
      let at : (i : ℕ) → Place μ g i → Formed (grown (tree_of step choose m) i (step i g)) = λ i here. grown-formed m (tree_of step choose m) (formed-of m) i (step i g) (lawful.left m g h i here) in
      go at (is_split (step (choose g) g)) refl
    where
      back : is_split (step (choose g) g) ≡ true → (j : ℕ) → Back (λ i. grown (tree_of step choose m) (min i m) (step (min i m) g)) (grown (tree_of step choose m) (min j m) (step (min j m) g))
      back split j =
          let p = min j m in
          let (e, s, b, q) = everywhere (lawful.uniform g) (choose g) split p in
          let same : min p m ≡ p = omega arith in
          subst (λ (r : Remainder N). grown (tree_of step choose m) (min p m) (step (min p m) g) ≡ grown (tree_of step choose m) p r → Back (λ i. grown (tree_of step choose m) (min i m) (step (min i m) g)) (grown (tree_of step choose m) p r)) (sym q)
          (λ h. h) (ap (λ i. grown (tree_of step choose m) i (step i g)) same)

      go : ((i : ℕ) → Place μ g i → Formed (grown (tree_of step choose m) i (step i g))) → (c : Bool) → is_split (step (choose g) g) ≡ c
          → Formed (cond c (fork (choose g) (λ i. grown (tree_of step choose m) (min i m) (step (min i m) g))) (grown (tree_of step choose m) (choose g) (step (choose g) g)))
      go at true e = λ j. (back e j, at (min j m) (λ here. omega (arith, h.size)))
      go at false e = at (choose g) (choice g)

-- ---- the rule

module _ (g : Terminals) (valid : Chosen g) where
  sized : Sized Chosen view (length g.network.links) g
  sized = record { valid = valid; size = refl }

  pub terminals-deep : Deep (length g.network.links) (tree g)
  terminals-deep = deep_of Chosen view step_at law split_at split-choice (length g.network.links) g sized

  pub terminals-ranged : Ranged (tree g)
  terminals-ranged = ranged Chosen view step_at law split_at split-choice (length g.network.links) g sized

  terminals-formed : Formed (tree g)
  terminals-formed = formed-of Chosen view step_at law split_at split-choice (length g.network.links) g sized

-- of document 01's rule: that of all nodes
module _ (g : Network) (valid : Valid g) where
  pub tree-deep : Deep (length g.links) (treeAll g)
  tree-deep = subst (Deep (length g.links)) (tree-everywhere g valid) (terminals-deep (all g) (chosen-all g valid))

  pub tree-formed : Formed (treeAll g)
  tree-formed = subst Formed (tree-everywhere g valid) (terminals-formed (all g) (chosen-all g valid))
