-- The places of a plan's splits are numbers of 32 bits.
use Prim.Native.Nat.{ℕ, zero, suc, ◌^◌, ◌≤◌, ◌<◌}
use mathlib.Core.Path.{◌≡◌, refl, sym, subst}
use mathlib.Core.List.{List, [], ◌∷◌}
use mathlib.Core.Bool.{true, ◌||◌, false≢true, and-eq-true_iff}
use native.Mathlib.Omega.{arith}
use lib.Dec.{eqb}
use lib.ListN.{length}
use borrow.Author.Tests.{eqb-true}
use Rattle.reliability.specs.Networks.{Network, Valid as NetworkValid}
use Rattle.reliability.specs.Rule.{chosen, step_at, Remainder, settled, rest, scaled, branches, Tree, ready, multiplied, fork, taken, grown, tree_of, tree}
use Rattle.reliability.proofs.Lawful.{Leaves, View, Sized, Lawful, Choice, of_tree}
use Rattle.reliability.proofs.Steps.{view, chosen-link}
use Rattle.reliability.proofs.Everywhere.{lawful as law}
use Rattle.sittings.specs.Sittings.{Open, running, known, place_of, traced}
use Rattle.saved.specs.Format.{places}
use Rattle.saved.proofs.Laws.{Fit}

-- each split's place is below n
abbrev Below : ℕ → Tree → Type 0
Below n (ready k) = Unit {0}
Below n (multiplied k t) = Below n t
Below n (fork i w) = (j : ℕ) → Below n (w j)
Below n (taken i e s b) = (i < n) × Below n s × Below n b

module _ {N : Type 0} (Valid : N → Type 0) (μ : View N) (step : ℕ → N → Remainder N) (lawful : Lawful Valid μ step) (choose : N → ℕ) (choice : Choice μ choose) (n : ℕ) where
  grown-below : (m : ℕ) (grow : N → Tree) → ((h : N) → Sized Valid μ m h → Below n (grow h)) → (i : ℕ) → i < n → (r : Remainder N) → Leaves (Sized Valid μ m) r → Below n (grown grow i r)
  unfolding grown
  grown-below m grow each i less (settled k) l = tt
  grown-below m grow each i less (rest h) l = each h l
  grown-below m grow each i less (scaled k h) l = each h l.0
  grown-below m grow each i less (branches e x y) l = (less, each x l.0, each y l.1)

  below_of : (m : ℕ) → m ≤ n → (g : N) → Sized Valid μ m g → Below n (tree_of step choose m g)
  unfolding tree_of grown
  below_of zero h g s = subst (λ (r : Remainder N). Below n (grown (λ h. ready (λ d. 0)) (choose g) r)) (sym (lawful.none_left g s (choose g)).2) tt
  below_of (suc m) h g s =
      of_tree Valid μ step choose choice (Below n) m g s (λ work each. each)
      (λ i at. grown-below m (tree_of step choose m) (below_of m (omega arith)) i (omega (arith, at (omega (arith, s.size)), s.size)) (step i g) (lawful.left m g s i at))

-- so are the places of open splits that pass check 11
traced-places : (n : ℕ) (t : Tree) (os : List Open) → n ≤ 2 ^ 32 → Below n t → traced t os ≡ true → Fit (places os)
unfolding traced places
traced-places n t [] m h e = tt
traced-places n (ready k) (o ∷ os) m h e = absurd (false≢true e)
traced-places n (multiplied k t) (o ∷ os) m h e = traced-places n t (o ∷ os) m h e
traced-places n (fork i w) (o ∷ os) m h f =
    let j = place_of o in
    traced-places n (w j) (o ∷ os) m (h j) ((and-eq-true_iff (eqb j 0 || eqb j i) (traced (w j) (o ∷ os))).0 f).1
traced-places n (taken i e s b) (running j ∷ os) m h f = let (p, q) = (and-eq-true_iff (eqb j i) (traced s os)).0 f in (omega (arith, eqb-true j i p, h.0), traced-places n s os m h.1 q)
traced-places n (taken i e s b) (known j k ∷ os) m h f = let (p, q) = (and-eq-true_iff (eqb j i) (traced b os)).0 f in (omega (arith, eqb-true j i p, h.0), traced-places n b os m h.2 q)

pub places-fit : (g : Network) → NetworkValid g → length g.links ≤ 64 → (os : List Open) → traced (tree g) os ≡ true → Fit (places os)
places-fit g valid few os e =
    traced-places (length g.links) (tree g) os (omega arith)
    (below_of NetworkValid view step_at law chosen chosen-link (length g.links) (length g.links) (omega arith) g (record { valid = valid; size = refl })) e
