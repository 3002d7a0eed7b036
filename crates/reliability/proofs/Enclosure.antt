-- Each figure bounds S times the exact sum from its side, and a finished one is off by at most m + 2n units.
use Prim.Native.Nat.{ℕ, zero, suc, ◌+◌, ◌-◌, ◌*◌, ◌^◌, ◌≤◌, ◌<◌, zero-le, suc-le-suc}
use mathlib.Core.Path.{◌≡◌, refl, sym, ap, ap₂, ◌∙◌, subst}
use mathlib.Core.List.{List, [], ◌∷◌, map, Memᴰ}
use mathlib.Core.Bool.{Bool, true, false, ◌&&◌, false≢true, and-eq-true_iff}
use native.Mathlib.Nat.{zero-mul, add-mul, mul_comm, mul_left_comm, mul-le-mul_left, mul-le-mul_right, le_refl, le-suc, le_trans, le_of_eq, pow-succ'}
use native.Mathlib.Omega.{arith}
use lib.Dec.{eqb}
use borrow.Author.Tests.{eq-eqb}
use lib.ListN.{length}
use Rattle.rounding.specs.Rounding.{S, product, split}
use Rattle.rounding.specs.declared.Direction.{Direction}
use Rattle.rounding.specs.declared.Direction.TheVariants.{Down, Up}
use Rattle.rounding.proofs.Laws.{ring}
use Rattle.rounding.proofs.Operations.{product-rounds, split-rounds, shares as portions}
use Rattle.reliability.specs.declared.Link.{Link}
use Rattle.reliability.specs.declared.Figure.{Figure}
use Rattle.reliability.specs.Networks.{value}
use Rattle.reliability.specs.Exact.{weighted}
use Rattle.reliability.specs.Rule.{without, Remainder, settled, rest, scaled, branches, Tree, ready, fork, grown, tree_of, bounded, side, times, mixed, stepped, unfinished, run, budget}
use Rattle.reliability.proofs.States.{sum-total}
use Rattle.reliability.proofs.Within.{Within, equal, rounded, weaken, trans, plus, by, same}
use Rattle.reliability.proofs.Lawful.{Leaves, View, exactly, Place, Reduces, Fewer, Sized, Lawful, Choice, of_tree}
use Rattle.reliability.proofs.Runs.{side-bounded, Ranged}
use Rattle.reliability.proofs.Reductions.{total-is}

-- one power more
scale : (m x : ℕ) → x * S ^ suc m ≡ S * (x * S ^ m)
scale m x = ap (λ k. x * k) (pow-succ' S m) ∙ mul_left_comm x S (S ^ m)

reverse : (a b c : ℕ) → a * (b * c) ≡ c * (b * a)
reverse a b c = simp ring

outward : (k x P : ℕ) → k * (x * P) ≡ P * (k * x)
outward k x P = simp ring

gather : (p x q y P : ℕ) → p * (x * P) + q * (y * P) ≡ P * (p * x + q * y)
gather p x q y P = simp ring

gather' : (p x q y : ℕ) → p * (S * x) + q * (S * y) ≡ S * (p * x + q * y)
gather' p x q y = ap₂ (λ a b. p * a + q * b) (mul_comm S x) (mul_comm S y) ∙ gather p x q y S

-- k units more are within the budget
spend : (m c c' k : ℕ) → c + k ≤ c' → S * (c * S ^ m) + k * (S * S ^ m) ≤ c' * S ^ suc m
spend m c c' k h =
    let all : (c + k) * (S * S ^ m) ≤ c' * (S * S ^ m) = mul-le-mul_right (S * S ^ m) h in
    omega (arith, add-mul c k (S * S ^ m), mul_left_comm c S (S ^ m), ap (λ n. c' * n) (pow-succ' S m))

-- a network g of m links and figures of it
module _ {N : Type 0} (μ : View N) (d : Direction) where
  -- a figure x of g, worked to its end or not
  abbrev pub Encloses : ℕ → Bool → ℕ → N → Type 0
  Encloses m done x g = Within d done (budget m (length (μ.nodes g)) * S ^ m) (x * S ^ m) (S * exactly μ d g)

  abbrev pub Figured : ℕ → Figure → N → Type 0
  Figured m f g = Encloses m f.finished (side d f) g

  at-settled : (m : ℕ) (g : N) (k : ℕ) → length (μ.links g) ≡ m → Reduces μ d g (settled k) → Figured m (bounded (λ c. k) 0 true) g
  at-settled m g k size e =
      weaken d true zero-le (λ t. t) (equal d true (ap₂ (λ x n. x * S ^ n) (side-bounded d (λ c. k) 0 true) (sym size) ∙ e))

  pub at-limit : (m : ℕ) (g : N) → exactly μ Up g ≤ S ^ m → Figured m unfinished g
  at-limit m g most = go d
    where
      go : (c : Direction) → Within c false (budget m (length (μ.nodes g)) * S ^ m) (side c unfinished * S ^ m) (S * exactly μ c g)
      go Down = record { bounds = le_trans (le_of_eq (zero-mul (S ^ m))) zero-le; close = λ t. absurd (false≢true t) }
      go Up = record { bounds = mul-le-mul_left S most; close = λ t. absurd (false≢true t) }

  module _ (m : ℕ) (g : N) where
    abbrev P : ℕ
    P = S ^ m

    at_rest : (f : Figure) (h : N) → length (μ.links h) ≡ m → length (μ.nodes h) ≤ length (μ.nodes g) → Reduces μ d g (rest h) → Figured m f h → Figured (suc m) f g
    at_rest f h size n r given =
        let done = f.finished in
        let step = by d S (weaken d done (le_of_eq (ap (λ k. S ^ k) size)) (λ t. refl) r) in
        weaken d done (le_trans (omega arith) (spend m (budget m (length (μ.nodes h))) (budget (suc m) (length (μ.nodes g))) 1 (omega arith))) (λ t. t)
        (same d (sym (scale m (side d f))) refl (trans d (by d S given) step))

    at_scaled : (k : Direction → ℕ) (f : Figure) (h : N) → k d ≤ S → length (μ.links g) ≡ suc m → length (μ.nodes h) < length (μ.nodes g)
        → Reduces μ d g (scaled k h) → Figured m f h → Figured (suc m) (times k f) g
    at_scaled k f h kd size n r given =
        let done = f.finished in
        let x = side d f in
        let first = weaken d done (le_of_eq refl) (λ t. refl) (by d P (rounded d (product-rounds d (k d) x))) in
        let second = by d (k d) given in
        let third = weaken d done (le_of_eq (ap (λ n. 2 * n) (ap (λ n. S ^ n) size ∙ pow-succ' S m))) (λ t. refl) r in
        weaken d done
        (le_trans (omega (arith, mul-le-mul_right (budget m (length (μ.nodes h)) * P) kd, mul_comm P S)) (spend m (budget m (length (μ.nodes h))) (budget (suc m) (length (μ.nodes g))) 3 (omega arith))) (λ t. t)
        (same d (reverse P (product d (k d) x) S ∙ sym (scale m (product d (k d) x)) ∙ ap (λ y. y * S ^ suc m) (sym (side-bounded d (λ c. product c (k c) (side c f)) f.steps done))) refl
        (trans d (trans d first (same d (outward (k d) x P) (mul_left_comm (k d) S (exactly μ d h)) second)) third))

    at-branches : (e : Link) (sound broken : N) (s t : Figure) → value d e ≤ S
        → (length (μ.nodes sound) ≤ length (μ.nodes g)) × (length (μ.nodes broken) ≤ length (μ.nodes g)) → Reduces μ d g (branches e sound broken)
        → Figured m s sound → Figured m t broken → Figured (suc m) (mixed e s t) g
    at-branches e sound broken s t pe n r hs hb =
        let done = s.finished && t.finished in
        let p = value d e in
        let x = side d s in
        let y = side d t in
        let c = budget m (length (μ.nodes g)) in
        let first = weaken d done (le_of_eq refl) (λ t. refl) (by d P (rounded d (split-rounds d p x y))) in
        let soundly = weaken d done (mul-le-mul_left p (mul-le-mul_right P (nodes n.0))) (λ both. ((and-eq-true_iff s.finished t.finished).0 both).0) (by d p hs) in
        let brokenly = weaken d done (mul-le-mul_left (S - p) (mul-le-mul_right P (nodes n.1))) (λ both. ((and-eq-true_iff s.finished t.finished).0 both).1) (by d (S - p) hb) in
        weaken d done
        (le_trans (omega (arith, portions p (c * P) pe, mul_comm P S)) (spend m c (budget (suc m) (length (μ.nodes g))) 1 (omega arith))) (λ t. t)
        (same d (reverse P (split d p x y) S ∙ sym (scale m (split d p x y)) ∙ ap (λ y. y * S ^ suc m) (sym (side-bounded d (λ c. split c (value c e) (side c s) (side c t)) (s.steps + t.steps) done)))
        (ap (λ k. S * k) (sym r))
        (trans d first (same d (gather p x (S - p) y P) (gather' p (exactly μ d sound) (S - p) (exactly μ d broken)) (plus d soundly brokenly))))
      where
        nodes : {k : ℕ} → k ≤ length (μ.nodes g) → budget m k ≤ budget m (length (μ.nodes g))
        nodes h = omega arith

  -- what a step says of a figure of g, given any figures of what it leaves
  abbrev pub Says : ℕ → N → Remainder N → Type 0
  Says m g (settled k) = Figured (suc m) (bounded (λ c. k) 0 true) g
  Says m g (rest h) = (f : Figure) → Figured m f h → Figured (suc m) f g
  Says m g (scaled k h) = (f : Figure) → Figured m f h → Figured (suc m) (times k f) g
  Says m g (branches e sound broken) = (s t : Figure) → Figured m s sound → Figured m t broken → Figured (suc m) (mixed e s t) g

-- a rule whose steps bear on the exact sum as their figures say
module _ {N : Type 0} (Valid : N → Type 0) (μ : View N) (step : ℕ → N → Remainder N) (lawful : Lawful Valid μ step) where
  pub says : (d : Direction) (m : ℕ) (g : N) → Sized Valid μ (suc m) g → (i : ℕ) → Place μ g i → Says μ d m g (step i g)
  says d m g h i at = go (step i g) (lawful.left m g h i at) (lawful.fewer g h.valid i at) (lawful.reduces d g h.valid i at)
    where
      go : (r : Remainder N) → Leaves (Sized Valid μ m) r → Fewer μ g r → Reduces μ d g r → Says μ d m g r
      go (settled k) l f r = at-settled μ d (suc m) g k h.size r
      go (rest x) l f r = λ y given. at_rest μ d m g y x l.size f r given
      go (scaled k x) l f r = λ y given. at_scaled μ d m g k y x (l.1 d) h.size f r given
      go (branches e sound broken) l f r = λ s t hs hb. at-branches μ d m g e sound broken s t (l.2 d) f r hs hb

  -- a network without links
  pub says-settled : (d : Direction) (g : N) → Sized Valid μ 0 g → (i k : ℕ) → step i g ≡ settled k → Figured μ d 0 (bounded (λ c. k) 0 true) g
  says-settled d g h i k e = at-settled μ d zero g k h.size (rw e at (lawful.reduces d g h.valid i (λ here. absurd (omega (arith, h.size)))))

  pub below : (d : Direction) (m : ℕ) (g : N) → Sized Valid μ m g → exactly μ d g ≤ S ^ m
  below d m g h =
      le_trans (sum-total (μ.terminals g) (map (weighted d) (μ.links g)) [])
      (le_of_eq (total-is d (μ.links g) ((lawful.values g h.valid).range d) ∙ ap (λ n. S ^ n) h.size))

  pub counted : (d : Direction) (m : ℕ) (f : Figure) (g : N) → Figured μ d m f g → Figured μ d m (stepped f) g
  counted Down m f g h = h
  counted Up m f g h = h

  grown-encloses : (d : Direction) (m : ℕ) (g : N) (grow : N → Tree) → ((h : N) → Sized Valid μ m h → (l : ℕ) → Figured μ d m (run (grow h) l) h)
      → (i : ℕ) (r : Remainder N) → Leaves (Sized Valid μ m) r → Says μ d m g r → (l : ℕ) → Figured μ d (suc m) (run (grown grow i r) l) g
  unfolding grown run
  grown-encloses d m g grow each i (settled k) q say l = say
  grown-encloses d m g grow each i (rest x) q say l = say (run (grow x) l) (each x q l)
  grown-encloses d m g grow each i (scaled k x) q say l = say (run (grow x) l) (each x q.0 l)
  grown-encloses d m g grow each i (branches e x y) q say l =
      let s = run (grow x) l in
      let t = run (grow y) (l - s.steps) in
      say s t (each x q.0 l) (each y q.1 (l - s.steps))

  -- a split that is still to take encloses what it encloses once it is taken
  fork-encloses : (d : Direction) (m : ℕ) (g : N) → Sized Valid μ (suc m) g → (i : ℕ) (work : ℕ → Tree) → ((l : ℕ) → Figured μ d (suc m) (run (work i) l) g)
      → (l : ℕ) → Figured μ d (suc m) (run (fork i work) l) g
  unfolding run
  fork-encloses d m g h i work each zero = at-limit μ d (suc m) g (below Up (suc m) g h)
  fork-encloses d m g h i work each (suc l) = counted d (suc m) (run (work i) l) g (each l)

  module _ (choose : N → ℕ) (choice : Choice μ choose) where
    pub encloses : (d : Direction) (m : ℕ) (g : N) → Sized Valid μ m g → (l : ℕ) → Figured μ d m (run (tree_of step choose m g) l) g
    unfolding tree_of grown run
    encloses d zero g h l =
        let (k, b, e) = lawful.none_left g h (choose g) in
        subst (λ (r : Remainder N). Figured μ d 0 (run (grown (λ h. ready (λ d. 0)) (choose g) r) l) g) (sym e) (says-settled d g h (choose g) k e)
    encloses d (suc m) g h l =
        of_tree Valid μ step choose choice (λ t. (l : ℕ) → Figured μ d (suc m) (run t l) g) m g h (λ work each. fork-encloses d m g h (choose g) work (each (choose g)))
        (λ i at. grown-encloses d m g (tree_of step choose m) (encloses d m) i (step i g) (lawful.left m g h i at) (says d m g h i at)) l

    -- all figures, factors and values of the tree are at most S
    grown-ranged : (m : ℕ) (grow : N → Tree) → ((h : N) → Sized Valid μ m h → Ranged (grow h)) → (i : ℕ) (r : Remainder N) → Leaves (Sized Valid μ m) r → Ranged (grown grow i r)
    unfolding grown
    grown-ranged m grow each i (settled k) l = λ d. l
    grown-ranged m grow each i (rest h) l = each h l
    grown-ranged m grow each i (scaled k h) l = (l.1, each h l.0)
    grown-ranged m grow each i (branches e x y) l = (l.2, each x l.0, each y l.1)

    pub ranged : (m : ℕ) (g : N) → Sized Valid μ m g → Ranged (tree_of step choose m g)
    unfolding tree_of grown
    ranged zero g h =
        let (k, b, e) = lawful.none_left g h (choose g) in
        subst (λ (r : Remainder N). Ranged (grown (λ h. ready (λ d. 0)) (choose g) r)) (sym e) (λ d. b)
    ranged (suc m) g h =
        of_tree Valid μ step choose choice Ranged m g h (λ work each. each)
        (λ i at. grown-ranged m (tree_of step choose m) (ranged m) i (step i g) (lawful.left m g h i at))

-- ---- a node goes

abbrev pub keep : Bool → ℕ → List ℕ → List ℕ
keep t u vs = elim t [ true ↦ vs | false ↦ u ∷ vs ]

keep-length : (t : Bool) (u : ℕ) (vs : List ℕ) → length (keep t u vs) ≤ suc (length vs)
keep-length true u vs = le-suc (length vs)
keep-length false u vs = le_refl (suc (length vs))

pub without-length : (v : ℕ) (vs : List ℕ) → length (without v vs) ≤ length vs
unfolding without
without-length v [] = zero-le
without-length v (u ∷ vs) = le_trans (keep-length (eqb u v) u (without v vs)) (suc-le-suc (without-length v vs))

pub without-less : (v : ℕ) (vs : List ℕ) → Memᴰ v vs → length (without v vs) < length vs
unfolding without
without-less v (u ∷ vs) (Memᴰ.head p) =
    subst (λ (t : Bool). length (keep t u (without v vs)) < suc (length vs)) (sym (eq-eqb u v (sym p))) (suc-le-suc (without-length v vs))
without-less v (u ∷ vs) (Memᴰ.tail n) = suc-le-suc (le_trans (keep-length (eqb u v) u (without v vs)) (without-less v vs n))
without-less v [] x' = elim x' [ ]
