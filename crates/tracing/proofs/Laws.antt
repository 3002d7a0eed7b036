-- Whether the open splits of a row are splits of a tree, by what the tree is.
use Prim.Native.Nat.{ℕ, zero, suc, ◌+◌, ◌-◌, ◌*◌, ◌<◌}
use mathlib.Core.Path.{◌≡◌, refl, sym, ap, ap₂, ◌∙◌}
use mathlib.Core.List.{List, [], ◌∷◌}
use mathlib.Core.Bool.{Bool, true, false, cond, not, ◌&&◌, ◌||◌, or-true as or_right}
use native.Mathlib.Numerals.{add-one}
use native.Mathlib.Omega.{arith}
use lib.Dec.{eqb, leb}
use lib.ListN.{get_or}
use borrow.Author.Tests.{eq-eqb, ne_eqb}
use Rattle.rounding.specs.declared.Direction.{Direction}
use Rattle.reliability.specs.declared.Link.{Link}
use Rattle.reliability.specs.Rule.{Tree, ready, multiplied, fork, taken}
use Rattle.bits.specs.Members.{members}
use Rattle.reliability.proofs.Lists.{by_eqb}
use Rattle.network.specs.Places.{rank}
use Rattle.steps.specs.Simple.{split_on}
use Rattle.steps.proofs.Places.{rank-lowest, split-first, split-placed}
use Rattle.sittings.specs.Sittings.{Open, traced}
use Rattle.sittings.specs.Entries.{opens_in}
use Rattle.sittings.proofs.Opened.{open_by, fork-open, taken-open}

-- ---- open splits

traced-multiplied : (v : Direction → ℕ) (t : Tree) (os : List Open) → traced t os ≡ traced (multiplied v t) os
unfolding traced
traced-multiplied v t [] = refl
traced-multiplied v t (o ∷ os) = refl

-- with a factor or without
pub traced-factored : (c : Bool) (v : Direction → ℕ) (t : Tree) (os : List Open) → traced t os ≡ traced (cond c (multiplied v t) t) os
traced-factored true v t os = traced-multiplied v t os
traced-factored false v t os = refl

module _ (row : List ℕ) (k : ℕ) where
  pub traced-none : (t : Tree) (left : ℕ) → left ≡ 0 → true ≡ traced t (opens_in row k left)
  unfolding traced opens_in
  traced-none t left h = ap (λ n. traced t (opens_in row k n)) (sym h)

  pub traced-ready : (v : Direction → ℕ) (left : ℕ) → eqb left 0 ≡ traced (ready v) (opens_in row k left)
  unfolding traced opens_in
  traced-ready v zero = refl
  traced-ready v (suc n) = ne_eqb (suc n) 0 (λ e. absurd (omega arith))

  -- the place of the open split at place k, and whether the figures of its sound branch are known
  abbrev here : ℕ
  here = get_or row (3 * k) 0

  abbrev is_known : Bool
  is_known = leb (get_or row (3 * k + 1) 0) (get_or row (3 * k + 2) 0)

  pub known_by : (left : ℕ) → (left ≡ 0 → ⊥) → (not (eqb left 0) && is_known) ≡ is_known
  known_by left h = ap (λ (t : Bool). not t && is_known) (ne_eqb left 0 h)

  -- a split that is still to take, c the chosen place
  module _ {t : Tree} {c : ℕ} {w : ℕ → Tree} (is : t ≡ fork c w) where
    -- the branch behind the next open split, where it is taken
    abbrev followed : Bool → ℕ → Bool
    followed kn left = traced (w here) (open_by row k kn ∷ opens_in row (k + 1) (left - 1))

    traced-fork : (left : ℕ) → (left ≡ 0 → ⊥) → (kn : Bool) → is_known ≡ kn → ((eqb here 0 || eqb here c) && followed kn left) ≡ traced t (opens_in row k left)
    unfolding opens_in
    traced-fork zero h kn q = absurd (h refl)
    traced-fork (suc n) h kn q =
        let less : suc n - 1 ≡ n = omega arith in
        ap₂ (λ (j m : ℕ). (eqb here 0 || eqb here c) && traced (w here) (open_by row k kn ∷ opens_in row j m)) (add-one k) less ∙ sym (fork-open is row k (opens_in row (suc k) n) kn (sym q))

    module _ (left : ℕ) (h : left ≡ 0 → ⊥) where
      -- neither the first link's place nor the chosen one
      pub traced-elsewhere : (eqb here 0 || eqb here c) ≡ false → false ≡ traced t (opens_in row k left)
      traced-elsewhere other = ap (λ (x : Bool). x && followed is_known left) (sym other) ∙ traced-fork left h is_known refl

      pub traced-here : {i : ℕ} {e : Link} {s b : Tree} → w i ≡ taken i e s b → here ≡ i → (eqb here 0 || eqb here c) ≡ true → (kn : Bool) → is_known ≡ kn
          → traced (cond kn b s) (opens_in row (k + 1) (left - 1)) ≡ traced t (opens_in row k left)
      traced-here {i} {e} {s} {b} work place either kn q =
          let os = opens_in row (k + 1) (left - 1) in
          ap (λ (x : Bool). x && traced (cond kn b s) os) (sym (eq-eqb here i place))
          ∙ sym (taken-open i e s b row k os kn)
          ∙ ap (λ (u : Tree). traced u (open_by row k kn ∷ os)) (sym (ap w place ∙ work))
          ∙ ap (λ (x : Bool). x && followed kn left) (sym either)
          ∙ traced-fork left h kn q

-- the link to split on stands at the place of the open split exactly where that is the first link's or the chosen one's
module _ (alive c : ℕ) (row : List ℕ) (k left : ℕ) (some : 0 < left) where
  abbrev stored : ℕ
  stored = get_or row (3 * k) 0

  abbrev chosenAt : ℕ
  chosenAt = rank c (members alive)

  abbrev onAt : ℕ
  onAt = rank (split_on alive c row k left) (members alive)

  pub on-link : stored ≡ onAt → (eqb stored 0 || eqb stored chosenAt) ≡ true
  on-link e = by_eqb (λ b. (eqb stored 0 || b) ≡ true) stored chosenAt
      (λ same. or_right (eqb stored 0))
      (λ other. ap (λ (b : Bool). b || false) (eq-eqb stored 0 (e ∙ ap (λ (p : ℕ). rank p (members alive)) (split-first alive c row k left some other) ∙ rank-lowest (members alive))))

  pub off-link : (stored ≡ onAt → ⊥) → (eqb stored 0 || eqb stored chosenAt) ≡ false
  off-link h = go (eqb stored 0 || eqb stored chosenAt) refl
    where
      go : (b : Bool) → (eqb stored 0 || eqb stored chosenAt) ≡ b → b ≡ false
      go false e = refl
      go true e = absurd (h (sym (split-placed alive c row k left some e)))
