-- What is asked of a rule, whatever its networks are, so that its figures enclose the exact sum.
use Prim.Native.Nat.{ℕ, zero, suc, ◌+◌, ◌-◌, ◌*◌, ◌^◌, ◌≤◌, ◌<◌, min}
use mathlib.Core.Path.{◌≡◌, refl, sym, ap, ◌∙◌}
use mathlib.Core.List.{List, [], ◌∷◌, ◌++◌, map, Memᴰ}
use mathlib.Core.Bool.{Bool, true, false, cond, false≢true, true≢false}
use mathlib.Core.Logic.{◌⊎◌, inl, inr}
use native.Mathlib.Omega.{arith}
use lib.ListN.{length}
use Rattle.rounding.specs.Rounding.{S}
use Rattle.rounding.specs.declared.Direction.{Direction}
use Rattle.reliability.specs.declared.Link.{Link}
use Rattle.reliability.specs.Networks.{value, linked}
use Rattle.reliability.specs.Exact.{weighted, sum}
use Rattle.reliability.specs.Rule.{Remainder, settled, rest, scaled, branches, Tree, ready, multiplied, fork, taken, grown, is_split, tree_of}
use Rattle.reliability.proofs.Within.{Within}

-- what is left has the property P, and its factors and values are at most S
abbrev pub Leaves : {N : Type 0} → (N → Type 0) → Remainder N → Type 0
Leaves P (settled k) = k ≤ S
Leaves P (rest g) = P g
Leaves P (scaled k g) = P g × ((d : Direction) → k d ≤ S)
Leaves P (branches e sound broken) = P sound × P broken × ((d : Direction) → value d e ≤ S)

-- what is left is the same for every place, or for every place it is two branches
abbrev pub Uniform : {N : Type 0} → (ℕ → Remainder N) → Type 0
Uniform {N} x = ((r : Remainder N) × ((i : ℕ) → x i ≡ r)) ⊎ ((i : ℕ) → (e : Link) × (s : N) × (b : N) × (x i ≡ branches e s b))

module _ {N : Type 0} {x : ℕ → Remainder N} where
  -- a split is left for every place, or for none
  pub all_alike : Uniform x → (i j : ℕ) → is_split (x i) ≡ is_split (x j)
  all_alike (inl u) i j = ap is_split (u.1 i ∙ sym (u.1 j))
  all_alike (inr u) i j = let (e, s, b, q) = u i in let (e, s, b, p) = u j in ap is_split q ∙ sym (ap is_split p)

  -- but for a split, what is left is the same for every place
  pub same_step : Uniform x → (i j : ℕ) → is_split (x i) ≡ false → x j ≡ x i
  same_step (inl u) i j other = u.1 j ∙ sym (u.1 i)
  same_step (inr u) i j other = let (e, s, b, q) = u i in absurd (true≢false (ap is_split (sym q) ∙ other))

  -- the two branches of a split
  pub everywhere : Uniform x → (i : ℕ) → is_split (x i) ≡ true → (j : ℕ) → (e : Link) × (s : N) × (b : N) × (x j ≡ branches e s b)
  everywhere u i split j = of (x j) refl
    where
      of : (r : Remainder N) → x j ≡ r → (e : Link) × (s : N) × (b : N) × (x j ≡ branches e s b)
      of (branches e s b) q = (e, s, b, q)
      of (settled k) q = absurd (false≢true (ap is_split (sym q) ∙ all_alike u j i ∙ split))
      of (rest h) q = absurd (false≢true (ap is_split (sym q) ∙ all_alike u j i ∙ split))
      of (scaled k h) q = absurd (false≢true (ap is_split (sym q) ∙ all_alike u j i ∙ split))

-- the sum over the sets of the links es that connect the nodes vs, at one direction's values
abbrev pub over : Direction → List ℕ → List Link → ℕ
over d vs es = sum vs (map (weighted d) es) []

-- each link's low and high value are in order and at most S
pub record Valued (es : List Link) : Type 0 where
  pub range : (d : Direction) (e : Link) → Memᴰ e es → value d e ≤ S
  pub order : (e : Link) → Memᴰ e es → e.low ≤ e.high

-- what a network of any kind shows: its links, its nodes, and its terminals, the nodes that have to be connected
pub record View (N : Type 0) : Type 0 where
  pub links : N → List Link
  pub nodes : N → List ℕ
  pub terminals : N → List ℕ

module _ {N : Type 0} (μ : View N) where
  abbrev pub exactly : Direction → N → ℕ
  exactly d g = over d (μ.terminals g) (μ.links g)

  -- i is the place of a link, where there is one
  abbrev pub Place : N → ℕ → Type 0
  Place g i = 0 < length (μ.links g) → i < length (μ.links g)

  -- how the exact sums of what is left bear on that of g
  abbrev pub Reduces : Direction → N → Remainder N → Type 0
  Reduces d g (settled k) = k * S ^ length (μ.links g) ≡ S * exactly d g
  Reduces d g (rest h) = Within d true (S ^ length (μ.links h)) (S * exactly d h) (exactly d g)
  Reduces d g (scaled k h) = Within d true (2 * S ^ length (μ.links g)) (S * (k d * exactly d h)) (S * exactly d g)
  Reduces d g (branches e sound broken) = exactly d g ≡ value d e * exactly d sound + (S - value d e) * exactly d broken

  -- each step leaves no more nodes, and one less where it multiplies
  abbrev pub Fewer : N → Remainder N → Type 0
  Fewer g (settled k) = Unit {0}
  Fewer g (rest h) = length (μ.nodes h) ≤ length (μ.nodes g)
  Fewer g (scaled k h) = length (μ.nodes h) < length (μ.nodes g)
  Fewer g (branches e sound broken) = (length (μ.nodes sound) ≤ length (μ.nodes g)) × (length (μ.nodes broken) ≤ length (μ.nodes g))

module _ {N : Type 0} (Valid : N → Type 0) (μ : View N) where
  -- a valid network of m links
  pub record Sized (m : ℕ) (g : N) : Type 0 where
    pub valid : Valid g
    pub size : length (μ.links g) ≡ m

  -- step i g is what is left of g where a split is on the link at place i
  pub record Lawful (step : ℕ → N → Remainder N) : Type 0 where
    pub uniform : (g : N) → Uniform (λ i. step i g)
    pub values : (g : N) → Valid g → Valued (μ.links g)
    -- each step takes a link away
    pub left : (m : ℕ) (g : N) → Sized (suc m) g → (i : ℕ) → Place μ g i → Leaves (Sized m) (step i g)
    -- a network without links is settled
    pub none_left : (g : N) → Sized 0 g → (i : ℕ) → (k : ℕ) × (k ≤ S) × (step i g ≡ settled k)
    pub fewer : (g : N) → Valid g → (i : ℕ) → Place μ g i → Fewer μ g (step i g)
    pub reduces : (d : Direction) (g : N) → Valid g → (i : ℕ) → Place μ g i → Reduces μ d g (step i g)

-- a choice of a link, where there is one
abbrev pub Choice : {N : Type 0} → View N → (N → ℕ) → Type 0
Choice {N} μ choose = (g : N) → Place μ g (choose g)

-- the place chosen for each split, and that at which it is taken, sound branch first
pub split_places : Tree → List ℕ
split_places (ready k) = []
split_places (multiplied k t) = split_places t
split_places (fork i work) = i ∷ split_places (work i)
split_places (taken i e s b) = i ∷ (split_places s ++ split_places b)

-- a small rule: networks are numbers, and a split leaves one less in both branches
pub one_less : ℕ → ℕ → Remainder ℕ
one_less i zero = settled S
one_less i (suc n) = branches (linked 0 1 (λ d. S)) n n

-- each split is at the place that is chosen for what is then left: computed from the definition
pub places-chosen : split_places (tree_of one_less (λ n. n - 1) 2 2) ≡ 1 ∷ 1 ∷ 0 ∷ 0 ∷ 0 ∷ 0 ∷ []
unfolding split_places one_less tree_of grown
places-chosen = refl

-- what holds of the work at each place, and of a split that is still to take if it holds of the work once it is taken, holds of the tree
module _ {N : Type 0} (Valid : N → Type 0) (μ : View N) (step : ℕ → N → Remainder N) (choose : N → ℕ) (choice : Choice μ choose) where
  pub of_tree : (P : Tree → Type 0) (m : ℕ) (g : N) → Sized Valid μ (suc m) g → ((work : ℕ → Tree) → ((i : ℕ) → P (work i)) → P (fork (choose g) work))
      → ((i : ℕ) → Place μ g i → P (grown (tree_of step choose m) i (step i g))) → P (tree_of step choose (suc m) g)
  unfolding tree_of
  of_tree P m g h split at = go (is_split (step (choose g) g))
    where
      go : (c : Bool) → P (cond c (fork (choose g) (λ i. grown (tree_of step choose m) (min i m) (step (min i m) g))) (grown (tree_of step choose m) (choose g) (step (choose g) g)))
      go true = split (λ i. grown (tree_of step choose m) (min i m) (step (min i m) g)) (λ i. at (min i m) (λ here. omega (arith, h.size)))
      go false = at (choose g) (choice g)
