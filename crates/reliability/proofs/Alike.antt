-- Two rules that leave the same, network for network, have the same trees.
use Prim.Native.Nat.{ℕ, zero, suc, min}
use mathlib.Core.Path.{◌≡◌, refl, ap, ap₂, ◌∙◌, subst}
use mathlib.Core.Bool.{cond}
use native.Mathlib.Omega.{arith}
use Rattle.reliability.specs.Rule.{Remainder, settled, rest, scaled, branches, Tree, ready, multiplied, fork, taken, grown, is_split, tree_of}
use Rattle.reliability.proofs.Lawful.{Leaves, View, Place, Sized, Lawful, Choice}

module _ {N M : Type 0} (φ : N → M) where
  -- what is left, seen as networks of another kind
  abbrev pub seen : Remainder N → Remainder M
  seen (settled k) = settled k
  seen (rest h) = rest (φ h)
  seen (scaled k h) = scaled k (φ h)
  seen (branches e s b) = branches e (φ s) (φ b)

  seen-split : (r : Remainder N) → is_split (seen r) ≡ is_split r
  seen-split (settled k) = refl
  seen-split (rest h) = refl
  seen-split (scaled k h) = refl
  seen-split (branches e s b) = refl

  grown-alike : (P : M → Type 0) (grow : N → Tree) (grow' : M → Tree) → ((h : N) → P (φ h) → grow' (φ h) ≡ grow h)
      → (i : ℕ) (r : Remainder N) → Leaves P (seen r) → grown grow' i (seen r) ≡ grown grow i r
  unfolding grown
  grown-alike P grow grow' same i (settled k) l = refl
  grown-alike P grow grow' same i (rest h) l = same h l
  grown-alike P grow grow' same i (scaled k h) l = ap (multiplied k) (same h l.0)
  grown-alike P grow grow' same i (branches e s b) l = ap₂ (taken i e) (same s l.0) (same b l.1)

  ended : (i : ℕ) (r : Remainder N) → grown (λ h. ready (λ d. 0)) i (seen r) ≡ grown (λ h. ready (λ d. 0)) i r
  unfolding grown
  ended i (settled k) = refl
  ended i (rest h) = refl
  ended i (scaled k h) = refl
  ended i (branches e s b) = refl

module _ {N M : Type 0} (φ : N → M) (step : ℕ → N → Remainder N) (choose : N → ℕ)
    (Valid : M → Type 0) (μ : View M) (step' : ℕ → M → Remainder M) (lawful : Lawful Valid μ step') (choose' : M → ℕ) (choice : Choice μ choose')
    (place : (g : N) → choose' (φ g) ≡ choose g)
    (alike : (g : N) → Valid (φ g) → (i : ℕ) → Place μ (φ g) i → step' i (φ g) ≡ seen φ (step i g)) where
  -- the work at each place, where that of what is left is the same
  worked : (m : ℕ) → ((h : N) → Sized Valid μ m (φ h) → tree_of step' choose' m (φ h) ≡ tree_of step choose m h) → (g : N) → Sized Valid μ (suc m) (φ g)
      → (i : ℕ) → Place μ (φ g) i → grown (tree_of step' choose' m) i (step' i (φ g)) ≡ grown (tree_of step choose m) i (step i g)
  worked m each g s i at =
      let same = alike g s.valid i at in
      ap (grown (tree_of step' choose' m) i) same
      ∙ grown-alike φ (Sized Valid μ m) (tree_of step choose m) (tree_of step' choose' m) each i (step i g) (subst (Leaves (Sized Valid μ m)) same (lawful.left m (φ g) s i at))

  pub trees-alike : (m : ℕ) (g : N) → Sized Valid μ m (φ g) → tree_of step' choose' m (φ g) ≡ tree_of step choose m g
  unfolding tree_of
  trees-alike zero g s =
      let c = choose' (φ g) in
      ap (grown (λ h. ready (λ d. 0)) c) (alike g s.valid c (choice (φ g))) ∙ ended φ c (step c g)
      ∙ ap (λ i. grown (λ h. ready (λ d. 0)) i (step i g)) (place g)
  trees-alike (suc m) g s =
      let c = choose' (φ g) in
      let work = worked m (trees-alike m) g s in
      let split : is_split (step' c (φ g)) ≡ is_split (step c g) = ap is_split (alike g s.valid c (choice (φ g))) ∙ seen-split φ (step c g) in
      (λ j. cond (split j) (fork c (λ i. work (min i m) (λ here. omega (arith, s.size)) j)) (work c (choice (φ g)) j))
      ∙ ap (λ i. cond (is_split (step i g)) (fork i (λ k. grown (tree_of step choose m) (min k m) (step (min k m) g))) (grown (tree_of step choose m) i (step i g))) (place g)
