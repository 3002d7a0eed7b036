-- The place of a link among the links left, counted by sets; the link to split on.
use Prim.Native.Nat.{ℕ, zero, suc, ◌*◌, ◌<◌}
use mathlib.Core.Path.{◌≡◌, refl, sym, ap, ◌∙◌}
use mathlib.Core.List.{List, [], ◌∷◌, ◌++◌, zip_with}
use mathlib.Core.Bool.{Bool, true, false, cond, ◌||◌}
use mathlib.Core.Logic.{◌⊎◌, inl, inr}
use native.Mathlib.Omega.{arith}
use lib.Dec.{eqb}
use lib.ListN.{get_or, replicate}
use borrow.Author.Tests.{eqb-true, eq-eqb, ne_eqb}
use Rattle.bits.specs.Members.{members, first_of, how_many, both}
use Rattle.bits.proofs.Places.{first-set, count-cleared}
use Rattle.reliability.proofs.Lists.{by_eqb, or-true}
use Rattle.search.proofs.Sets.{has, has-place}
use Rattle.network.specs.declared.Network.{Network}
use Rattle.network.specs.Places.{rank, Used}
use Rattle.steps.specs.Simple.{split_on}

none_below : (bs : List Bool) (k : ℕ) → how_many (both bs (replicate k false)) ≡ 0
unfolding zip_with
none_below [] k = refl
none_below (b ∷ bs) zero = refl
none_below (true ∷ bs) (suc k) = none_below bs k
none_below (false ∷ bs) (suc k) = none_below bs k

-- how many of a list are in it and among its first p
pub rank-count : (bs : List Bool) (p k : ℕ) → how_many (both bs (replicate p true ++ replicate k false)) ≡ rank p bs
unfolding rank zip_with
rank-count bs zero k = none_below bs k
rank-count [] (suc p) k = refl
rank-count (true ∷ bs) (suc p) k = ap suc (rank-count bs p k)
rank-count (false ∷ bs) (suc p) k = rank-count bs p k

-- the first link stands at the lowest place
pub rank-lowest : (us : List Bool) → rank (first_of us) us ≡ 0
unfolding rank
rank-lowest [] = refl
rank-lowest (true ∷ us) = refl
rank-lowest (false ∷ us) = rank-lowest us

-- a place of the set is in use
pub place-used : (n : Network) (k : ℕ) → has n.alive k ≡ true → Used n k
place-used n k e = record { below = has-place n.alive k e; used = e }

-- ---- the link to split on

module _ (alive i : ℕ) (row : List ℕ) (k : ℕ) where
  pub split-fresh : (left : ℕ) → left ≡ 0 → split_on alive i row k left ≡ i
  split-fresh left e = ap (λ (b : Bool). cond (b || eqb (get_or row (3 * k) 0) (rank i (members alive))) i (first_of (members alive))) (eq-eqb left 0 e)

  module _ (left : ℕ) (some : 0 < left) where
    asked : split_on alive i row k left ≡ cond (eqb (get_or row (3 * k) 0) (rank i (members alive))) i (first_of (members alive))
    asked = ap (λ (b : Bool). cond (b || eqb (get_or row (3 * k) 0) (rank i (members alive))) i (first_of (members alive))) (ne_eqb left 0 (λ e. omega arith))

    pub split-same : get_or row (3 * k) 0 ≡ rank i (members alive) → split_on alive i row k left ≡ i
    split-same e = asked ∙ ap (λ (b : Bool). cond b i (first_of (members alive))) (eq-eqb (get_or row (3 * k) 0) (rank i (members alive)) e)

    pub split-first : (get_or row (3 * k) 0 ≡ rank i (members alive) → ⊥) → split_on alive i row k left ≡ first_of (members alive)
    split-first n = asked ∙ ap (λ (b : Bool). cond b i (first_of (members alive))) (ne_eqb (get_or row (3 * k) 0) (rank i (members alive)) n)

    -- it stands at the place of the open split, if that is the chosen place or the first
    pub split-placed : (eqb (get_or row (3 * k) 0) 0 || eqb (get_or row (3 * k) 0) (rank i (members alive))) ≡ true → rank (split_on alive i row k left) (members alive) ≡ get_or row (3 * k) 0
    split-placed h = go (or-true (eqb (get_or row (3 * k) 0) 0) (eqb (get_or row (3 * k) 0) (rank i (members alive))) h)
      where
        go : (eqb (get_or row (3 * k) 0) 0 ≡ true) ⊎ (eqb (get_or row (3 * k) 0) (rank i (members alive)) ≡ true) → rank (split_on alive i row k left) (members alive) ≡ get_or row (3 * k) 0
        go (inr z) = let e = eqb-true (get_or row (3 * k) 0) (rank i (members alive)) z in ap (λ (p : ℕ). rank p (members alive)) (split-same e) ∙ sym e
        go (inl z) =
            ap (λ (p : ℕ). rank p (members alive)) asked
            ∙ by_eqb (λ b. rank (cond b i (first_of (members alive))) (members alive) ≡ get_or row (3 * k) 0) (get_or row (3 * k) 0) (rank i (members alive)) sym (λ n. rank-lowest (members alive) ∙ sym (eqb-true (get_or row (3 * k) 0) 0 z))

-- it is in use
pub split-used : (n : Network) (i : ℕ) → Used n i → (row : List ℕ) (k left : ℕ) → Used n (split_on n.alive i row k left)
split-used n i used row k left = go (eqb left 0 || eqb (get_or row (3 * k) 0) (rank i (members n.alive)))
  where
    go : (b : Bool) → Used n (cond b i (first_of (members n.alive)))
    go true = used
    go false = place-used n _ (first-set (members n.alive) (omega (arith, count-cleared (members n.alive) i used.used))).1
