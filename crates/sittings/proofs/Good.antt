-- Good open splits: a sitting keeps them good, whichever of the allowed links it splits on, and its figures enclose the exact sum.
use Prim.Native.Nat.{ℕ, zero, suc, ◌+◌, ◌-◌, ◌≤◌, min}
use mathlib.Core.Path.{◌≡◌, refl, sym, ap, ap₂, ◌∙◌, subst}
use mathlib.Core.List.{List, [], ◌∷◌}
use mathlib.Core.Bool.{Bool, true, false, cond, ◌&&◌, ◌||◌, true≢false, false≢true}
use native.Mathlib.Omega.{arith}
use lib.Dec.{eqb}
use borrow.Author.Tests.{eq-eqb}
use lib.ListN.{length}
use Rattle.rounding.specs.Rounding.{S}
use Rattle.rounding.specs.declared.Direction.{Direction}
use Rattle.reliability.specs.declared.Link.{Link}
use Rattle.reliability.specs.declared.Figure.{Figure}
use Rattle.reliability.specs.Networks.{value}
use Rattle.reliability.specs.Exact.{altogether}
use Rattle.reliability.specs.Rule.{Remainder, settled, rest, scaled, branches, Tree, ready, multiplied, fork, taken, grown, is_split, tree_of, bounded, side, run, budget}
use Rattle.reliability.proofs.Lawful.{Leaves, all_alike, same_step, View, Place, Sized, Lawful, Choice}
use Rattle.reliability.proofs.Runs.{side-bounded, Ranged, range}
use Rattle.reliability.proofs.Enclosure.{Encloses, Figured, Says, says, encloses, ranged}
use Rattle.reliability.proofs.Weights.{near-weights, low-below-high, total-pos, gaps, low-enclosed}
use Rattle.sittings.specs.Sittings.{Open, running, known, place_of, sides, opens, resumed, traced}
use Rattle.sittings.specs.Entries.{Known, InRange, InOrder}
use Rattle.sittings.proofs.Bounds.{by-opened}

-- the place of the first open split
abbrev pub first_place : List Open → ℕ
first_place [] = 0
first_place (o ∷ os) = place_of o

module _ {N : Type 0} (μ : View N) where
  -- the figures of a network of m links, all worked: in range, and each bounds S times the exact sum from its side within the budget
  pub record Exactly (m : ℕ) (g : N) (k : Direction → ℕ) : Type 0 where
    pub range : (d : Direction) → k d ≤ S
    pub encloses : (d : Direction) → Encloses μ d m true (k d) g

  exactly-figured : (d : Direction) (m : ℕ) (g : N) (k : Direction → ℕ) → Exactly m g k → Figured μ d m (bounded k 0 true) g
  exactly-figured d m g k x = rw side-bounded (x.encloses d)

-- `Allowed g i`: a sitting may split g on the link at place i
module _ {N : Type 0} (Valid : N → Type 0) (μ : View N) (step : ℕ → N → Remainder N) (lawful : Lawful Valid μ step)
    (Allowed : N → ℕ → Type 0) (named : (g : N) (i : ℕ) → Allowed g i → Place μ g i) where
  -- the open splits os on what is left of g: the first is at an allowed place of a split, and the figures of a known sound branch are all worked
  unfoldable pub Stand : ℕ → (N → List Open → Type 0) → N → List Open → Remainder N → Type 0
  Stand m on g [] r = Unit {0}
  Stand m on g (o ∷ os) (settled k) = ⊥
  Stand m on g (o ∷ os) (rest h) = on h (o ∷ os)
  Stand m on g (o ∷ os) (scaled k h) = on h (o ∷ os)
  Stand m on g (running i ∷ os) (branches e sound broken) = Allowed g i × on sound os
  Stand m on g (known i k ∷ os) (branches e sound broken) = Allowed g i × Exactly μ m sound k × on broken os

  -- open splits on a network of m links
  unfoldable pub Stands : ℕ → N → List Open → Type 0
  Stands zero g os = Stand 0 (λ h os. ⊥) g os (settled 0)
  Stands (suc m) g os = Stand m (Stands m) g os (step (first_place os) g)

  -- the open splits of a network: each is at an allowed place, and the figures of each known sound branch are all worked
  abbrev pub Good : N → List Open → Type 0
  Good g os = Stands (length (μ.links g)) g os

  stands-none : (m : ℕ) (g : N) → Stands m g []
  unfolding Stand Stands
  stands-none zero g = tt
  stands-none (suc m) g = tt

  pub good_none : (g : N) → Good g []
  good_none g = stands-none (length (μ.links g)) g

  -- ---- one step

  module _ (g : N) where
    module _ (m : ℕ) where
      abbrev On : List Open → Remainder N → Type 0
      On os r = Stand m (Stands m) g os r

      -- where a split is left, the first open split is at an allowed place
      on-allowed : (o : Open) (os : List Open) (r : Remainder N) → On (o ∷ os) r → is_split r ≡ true → Allowed g (place_of o)
      unfolding Stand
      on-allowed o os (settled k) on split = absurd on
      on-allowed o os (rest h) on split = absurd (false≢true split)
      on-allowed o os (scaled k h) on split = absurd (false≢true split)
      on-allowed (running i) os (branches e x y) on split = on.0
      on-allowed (known i k) os (branches e x y) on split = on.0

      -- but for a split, what is left does not depend on the place
      stands-other : (i : ℕ) (r : Remainder N) → step i g ≡ r → is_split r ≡ false → (os : List Open) → On os r → Stands (suc m) g os
      unfolding Stands
      stands-other i r e other os on = subst (On os) (sym (same_step (lawful.uniform g) i (first_place os) (ap is_split e ∙ other) ∙ e)) on

      on-other : (i : ℕ) → is_split (step i g) ≡ false → (os : List Open) → Stands (suc m) g os → On os (step i g)
      unfolding Stands
      on-other i other os on = subst (On os) (same_step (lawful.uniform g) i (first_place os) other) on

      -- where one network is left, what stands on it stands on what is left
      on_one : (h : N) (r : Remainder N) → ((o : Open) (os : List Open) → Stands m h (o ∷ os) → On (o ∷ os) r) → (os : List Open) → Stands m h os → On os r
      unfolding Stand
      on_one h r each [] s = tt
      on_one h r each (o ∷ os) s = each o os s

      -- what holds of what is left at each link's place holds of what is left at the first open split's
      at_first : (P : Remainder N → Type 0) → ((i : ℕ) → Place μ g i → P (step i g)) → (o : Open) (os : List Open) → On (o ∷ os) (step (place_of o) g) → P (step (place_of o) g)
      at_first P each o os on = go (is_split (step (place_of o) g)) refl
        where
          go : (c : Bool) → is_split (step (place_of o) g) ≡ c → P (step (place_of o) g)
          go true e = each (place_of o) (named g (place_of o) (on-allowed o os (step (place_of o) g) on e))
          go false e = subst P (same_step (lawful.uniform g) (place_of o) 0 e) (each 0 (λ here. here))

  -- ---- the known figures

  -- a figure that encloses the exact sum has its low no higher than its high
  in_order : (m : ℕ) (g : N) (f : Figure) → Sized Valid μ m g → ((d : Direction) → Figured μ d m f g) → f.low ≤ f.high
  in_order m g f h near =
      let w = low-enclosed (μ.links g) (lawful.values g h.valid) in
      let c = budget (length (μ.links g)) (length (μ.nodes g)) in
      low-below-high (c + altogether (gaps (μ.links g))) _ _ f (total-pos w)
      (λ d. near-weights d c f (μ.terminals g) (lawful.values g h.valid) w (subst (λ n. Figured μ d n f g) (sym h.size) (near d)))

  module _ (Q : (Direction → ℕ) → Type 0) (each : (m : ℕ) (g : N) (k : Direction → ℕ) → Sized Valid μ m g → Exactly μ m g k → Q k) where
    left-known : (m : ℕ) → ((h : N) (os : List Open) → Sized Valid μ m h → Stands m h os → Known Q os)
        → (g : N) (os : List Open) (r : Remainder N) → Leaves (Sized Valid μ m) r → On g m os r → Known Q os
    unfolding Stand
    left-known m below g [] r l on = tt
    left-known m below g (o ∷ os) (settled k) l on = absurd on
    left-known m below g (o ∷ os) (rest h) l on = below h (o ∷ os) l on
    left-known m below g (o ∷ os) (scaled k h) l on = below h (o ∷ os) l.0 on
    left-known m below g (running i ∷ os) (branches e x y) l on = below x os l.0 on.1
    left-known m below g (known i k ∷ os) (branches e x y) l on = (each m x k l.0 on.1, below y os l.1 on.2)

    stands-known : (m : ℕ) (g : N) (os : List Open) → Sized Valid μ m g → Stands m g os → Known Q os
    unfolding Stand Stands
    stands-known zero g [] h on = tt
    stands-known zero g (o ∷ os) h on = absurd on
    stands-known (suc m) g [] h on = tt
    stands-known (suc m) g (o ∷ os) h on =
        left-known m (stands-known m) g (o ∷ os) (step (place_of o) g) (at_first g m (Leaves (Sized Valid μ m)) (lawful.left m g h) o os on) on

  -- ---- work put back

  -- what a sitting needs of the work t of a network of m links: ranges, figures that enclose, and open splits that stand
  record Carries (m : ℕ) (g : N) (t : Tree) : Type 0 where
    range : Ranged t
    near : (d : Direction) (l : ℕ) → Figured μ d m (run t l) g
    kept : (l : ℕ) → Stands m g (opens t l)

  finished-exactly : (m : ℕ) (g : N) (t : Tree) → Carries m g t → (l : ℕ) → (run t l).finished ≡ true → Exactly μ m g (sides (run t l))
  finished-exactly m g t c l done = record {
    range = λ d. range t c.range d l;
    encloses = λ d. subst (λ b. Encloses μ d m b (side d (run t l)) g) done (c.near d l);
  }

  carries-known : (m : ℕ) (g : N) (k : Direction → ℕ) → Exactly μ m g k → Carries m g (ready k)
  unfolding run opens
  carries-known m g k x = record { range = x.range; near = λ d l. exactly-figured μ d m g k x; kept = λ l. stands-none m g }

  module _ (m : ℕ) (g : N) (i : ℕ) where
    carries-taken : (e : Link) (x y : N) (s b : Tree) → step i g ≡ branches e x y → Allowed g i → ((d : Direction) → value d e ≤ S) → ((d : Direction) → Says μ d m g (branches e x y))
        → Carries m x s → Carries m y b → Carries (suc m) g (taken i e s b)
    unfolding run opens Stand Stands
    carries-taken e x y s b q at values say sound broken = record {
      range = (values, sound.range, broken.range);
      near = λ d l.
          let f = run s l in
          say d f (run b (l - f.steps)) (sound.near d l) (broken.near d (l - f.steps));
      kept = λ l.
          let n = l - (run s l).steps in
          by-opened (Stands (suc m) g) i (run s l) (opens s l) (opens b n)
          (λ done. subst (On g m (known i (sides (run s l)) ∷ opens b n)) (sym q) (at, finished-exactly m x s sound l done, broken.kept n))
          (subst (On g m (running i ∷ opens s l)) (sym q) (at, sound.kept l));
    }

    carries-rest : (h : N) (t : Tree) → step i g ≡ rest h → ((d : Direction) → Says μ d m g (rest h)) → Carries m h t → Carries (suc m) g t
    unfolding Stand
    carries-rest h t q say c = record {
      range = c.range;
      near = λ d l. say d (run t l) (c.near d l);
      kept = λ l. stands-other g m i (rest h) q refl (opens t l) (on_one g m h (rest h) (λ o os s. s) (opens t l) (c.kept l));
    }

    carries-scaled : (k : Direction → ℕ) (h : N) (t : Tree) → step i g ≡ scaled k h → ((d : Direction) → k d ≤ S) → ((d : Direction) → Says μ d m g (scaled k h))
        → Carries m h t → Carries (suc m) g (multiplied k t)
    unfolding run opens Stand
    carries-scaled k h t q factor say c = record {
      range = (factor, c.range);
      near = λ d l. say d (run t l) (c.near d l);
      kept = λ l. stands-other g m i (scaled k h) q refl (opens t l) (on_one g m h (scaled k h) (λ o os s. s) (opens t l) (c.kept l));
    }

  module _ (choose : N → ℕ) (allowed : (g : N) → Allowed g (choose g)) where
    choice : Choice μ choose
    choice g = named g (choose g) (allowed g)

    abbrev of : ℕ → N → Tree
    of = tree_of step choose

    -- the work at place i, and the whole work: a split that is still to take, or not a split
    abbrev work : ℕ → N → ℕ → Tree
    work m g i = grown (of m) i (step i g)

    abbrev whole : ℕ → N → Bool → Tree
    whole m g split = cond split (fork (choose g) (λ i. work m g (min i m))) (work m g (choose g))

    -- an allowed place is not past the last
    not-past : (P : Tree → Type 0) (m : ℕ) (g : N) → Sized Valid μ (suc m) g → (i : ℕ) → Allowed g i → P (work m g i) → P (work m g (min i m))
    not-past P m g h i at = subst (λ j. P (work m g j)) (let e : i ≡ min i m = omega (arith, h.size, named g i at (omega (arith, h.size))) in e)

    -- where a split is next, the first open split is at an allowed place
    first-allowed : (m : ℕ) (g : N) → is_split (step (choose g) g) ≡ true → (o : Open) (os : List Open) → Stands (suc m) g (o ∷ os) → Allowed g (place_of o)
    unfolding Stands
    first-allowed m g e o os on = on-allowed g m o os (step (place_of o) g) on (all_alike (lawful.uniform g) (place_of o) (choose g) ∙ e)

    module _ (m : ℕ) (each : (h : N) (os : List Open) → Sized Valid μ m h → Stands m h os → Carries m h (resumed (of m h) os)) (g : N) where
      left-carries : (i : ℕ) (r : Remainder N) → step i g ≡ r → Allowed g i → Leaves (Sized Valid μ m) r → ((d : Direction) → Says μ d m g r)
          → (os : List Open) → On g m os r → Carries (suc m) g (resumed (grown (of m) i r) os)
      unfolding grown resumed run opens Stand
      left-carries i (settled k) q at l say [] on = record { range = λ d. l; near = λ d n. say d; kept = λ n. stands-none (suc m) g }
      left-carries i (settled k) q at l say (o ∷ os) on = absurd on
      left-carries i (rest h) q at l say [] on = carries-rest m g i h (of m h) q say (each h [] l (stands-none m h))
      left-carries i (rest h) q at l say (o ∷ os) on = carries-rest m g i h (resumed (of m h) (o ∷ os)) q say (each h (o ∷ os) l on)
      left-carries i (scaled k h) q at l say [] on = carries-scaled m g i k h (of m h) q l.1 say (each h [] l.0 (stands-none m h))
      left-carries i (scaled k h) q at l say (o ∷ os) on = carries-scaled m g i k h (resumed (of m h) (o ∷ os)) q l.1 say (each h (o ∷ os) l.0 on)
      left-carries i (branches e x y) q at l say [] on =
          carries-taken m g i e x y (of m x) (of m y) q at l.2 say (each x [] l.0 (stands-none m x)) (each y [] l.1 (stands-none m y))
      left-carries i (branches e x y) q at l say (running j ∷ os) on =
          carries-taken m g i e x y (resumed (of m x) os) (of m y) q at l.2 say (each x os l.0 on.1) (each y [] l.1 (stands-none m y))
      left-carries i (branches e x y) q at l say (known j k ∷ os) on =
          carries-taken m g i e x y (ready k) (resumed (of m y) os) q at l.2 say (carries-known m x k on.1) (each y os l.1 on.2)

      module _ (h : Sized Valid μ (suc m) g) where
        work-carries : (i : ℕ) → Allowed g i → (os : List Open) → On g m os (step i g) → Carries (suc m) g (resumed (work m g i) os)
        work-carries i at os on = left-carries i (step i g) refl at (lawful.left m g h i (named g i at)) (λ d. says Valid μ step lawful d m g h i (named g i at)) os on

        whole-kept : (c : Bool) (l : ℕ) → Stands (suc m) g (opens (whole m g c) l)
        unfolding opens resumed Stand
        whole-kept true zero = stands-none (suc m) g
        whole-kept true (suc l) = not-past (λ t. Stands (suc m) g (opens t l)) m g h (choose g) (allowed g) ((work-carries (choose g) (allowed g) [] tt).kept l)
        whole-kept false l = (work-carries (choose g) (allowed g) [] tt).kept l

        whole_carries : (c : Bool) → is_split (step (choose g) g) ≡ c → (o : Open) (os : List Open) → Stands (suc m) g (o ∷ os) → Carries (suc m) g (resumed (whole m g c) (o ∷ os))
        unfolding resumed Stands
        whole_carries true e o os on =
            let at = first-allowed m g e o os on in
            not-past (λ t. Carries (suc m) g (resumed t (o ∷ os))) m g h (place_of o) at (work-carries (place_of o) at (o ∷ os) on)
        whole_carries false e o os on = work-carries (choose g) (allowed g) (o ∷ os) (on-other g m (choose g) e (o ∷ os) on)

    carries : (m : ℕ) (g : N) (os : List Open) → Sized Valid μ m g → Stands m g os → Carries m g (resumed (of m g) os)
    unfolding tree_of grown resumed opens Stand Stands
    carries zero g [] h on = record {
      range = ranged Valid μ step lawful choose choice 0 g h;
      near = λ d. encloses Valid μ step lawful choose choice d 0 g h;
      kept = λ l. subst (λ (r : Remainder N). Stands 0 g (opens (grown (λ h. ready (λ d. 0)) (choose g) r) l)) (sym (lawful.none_left g h (choose g)).2) tt;
    }
    carries zero g (o ∷ os) h on = absurd on
    carries (suc m) g [] h on = record {
      range = ranged Valid μ step lawful choose choice (suc m) g h;
      near = λ d. encloses Valid μ step lawful choose choice d (suc m) g h;
      kept = whole-kept m (carries m) g h (is_split (step (choose g) g));
    }
    carries (suc m) g (o ∷ os) h on = whole_carries m (carries m) g h (is_split (step (choose g) g)) refl o os on

    -- ---- check 11

    module _ (tests : (g : N) (i : ℕ) → Allowed g i → (eqb i 0 || eqb i (choose g)) ≡ true) where
      module _ (m : ℕ) (each : (h : N) (os : List Open) → Sized Valid μ m h → Stands m h os → traced (of m h) os ≡ true) (g : N) where
        left-traced : (i : ℕ) (r : Remainder N) → Leaves (Sized Valid μ m) r → (o : Open) (os : List Open) → (is_split r ≡ true → place_of o ≡ i) → On g m (o ∷ os) r
            → traced (grown (of m) i r) (o ∷ os) ≡ true
        unfolding grown traced Stand
        left-traced i (settled k) l o os same on = absurd on
        left-traced i (rest h) l o os same on = each h (o ∷ os) l on
        left-traced i (scaled k h) l o os same on = each h (o ∷ os) l.0 on
        left-traced i (branches e x y) l (running j) os same on = ap₂ ◌&&◌ (eq-eqb j i (same refl)) (each x os l.0 on.1)
        left-traced i (branches e x y) l (known j k) os same on = ap₂ ◌&&◌ (eq-eqb j i (same refl)) (each y os l.1 on.2)

        whole-traced : Sized Valid μ (suc m) g → (c : Bool) → is_split (step (choose g) g) ≡ c → (o : Open) (os : List Open) → Stands (suc m) g (o ∷ os) → traced (whole m g c) (o ∷ os) ≡ true
        unfolding traced Stands
        whole-traced h true e o os on =
            let i = place_of o in
            let at = first-allowed m g e o os on in
            ap₂ ◌&&◌ (tests g i at) (not-past (λ t. traced t (o ∷ os) ≡ true) m g h i at (left-traced i (step i g) (lawful.left m g h i (named g i at)) o os (λ split. refl) on))
        whole-traced h false e o os on =
            left-traced (choose g) (step (choose g) g) (lawful.left m g h (choose g) (choice g)) o os (λ split. absurd (true≢false (sym split ∙ e))) (on-other g m (choose g) e (o ∷ os) on)

      stands-traced : (m : ℕ) (g : N) (os : List Open) → Sized Valid μ m g → Stands m g os → traced (of m g) os ≡ true
      unfolding tree_of traced Stand Stands
      stands-traced zero g [] h on = refl
      stands-traced zero g (o ∷ os) h on = absurd on
      stands-traced (suc m) g [] h on = refl
      stands-traced (suc m) g (o ∷ os) h on = whole-traced m (stands-traced m) g h (is_split (step (choose g) g)) refl o os on

    -- ---- good open splits put back

    module _ (g : N) (valid : Valid g) (os : List Open) (good : Good g os) where
      abbrev m : ℕ
      m = length (μ.links g)

      abbrev from : Tree
      from = resumed (tree_of step choose (length (μ.links g)) g) os

      sized : Sized Valid μ (length (μ.links g)) g
      sized = record { valid = valid; size = refl }

      carried : Carries m g from
      carried = carries m g os sized good

      -- a sitting keeps the open splits good
      pub good-kept : (l : ℕ) → Good g (opens from l)
      good-kept = carried.kept

      pub carried-near : (d : Direction) (l : ℕ) → Figured μ d (length (μ.links g)) (run from l) g
      carried-near = carried.near

      pub carried-ranged : Ranged from
      carried-ranged = carried.range

      pub good-range : Known InRange os
      good-range = stands-known InRange (λ m g k h x. x.range) m g os sized good

      -- no known pair is taken for the mark of a sound branch that runs
      pub good-order : Known InOrder os
      good-order = stands-known InOrder (λ m g k h x. in_order m g (bounded k 0 true) h (λ d. exactly-figured μ d m g k x)) m g os sized good

      -- they pass check 11
      pub good-traced : ((g : N) (i : ℕ) → Allowed g i → (eqb i 0 || eqb i (choose g)) ≡ true) → traced (tree_of step choose (length (μ.links g)) g) os ≡ true
      good-traced tests = stands-traced tests m g os sized good
