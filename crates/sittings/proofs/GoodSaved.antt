-- Sittings of a network, one after another, each by document 01's choice or by the rule's: what is saved, and what is promised of every answer.
use Prim.Native.Nat.{ℕ, ◌+◌, ◌-◌, ◌*◌, ◌≤◌, min, zero-le}
use mathlib.Core.Path.{◌≡◌, refl, sym, ap, ◌∙◌, subst}
use mathlib.Core.List.{List, [], ◌∷◌}
use mathlib.Core.Bool.{Bool, true, false, ◌||◌, or-true as or_right}
use mathlib.Core.Logic.{◌⊎◌, inl, inr}
use native.Mathlib.Nat.{le_refl}
use native.Mathlib.Omega.{arith}
use lib.Dec.{eqb}
use borrow.Author.Tests.{eq-eqb}
use lib.ListN.{length}
use Rattle.rounding.specs.Rounding.{S}
use Rattle.rounding.specs.declared.Direction.{Direction}
use Rattle.rounding.specs.declared.Direction.TheVariants.{Down, Up}
use Rattle.reliability.specs.declared.Figure.{Figure}
use Rattle.reliability.specs.Networks.{Network, Valid}
use Rattle.reliability.specs.Exact.{Weighted, sum, total, AllEnclosed, altogether}
use Rattle.reliability.specs.Rule.{first_link, chosen, step_at, Tree, tree_by, tree, side, more, run, budget}
use Rattle.reliability.proofs.Lawful.{Place}
use Rattle.reliability.proofs.Runs.{steps, range, nested}
use Rattle.reliability.proofs.Steps.{view, first-link, chosen-link}
use Rattle.reliability.proofs.Validity.{valued}
use Rattle.reliability.proofs.Enclosure.{Encloses, Figured}
use Rattle.reliability.proofs.Everywhere.{lawful}
use Rattle.reliability.proofs.Weights.{Near, near-weights, low-below-high, no-wider, total-pos}
use Rattle.reliability.proofs.Theorems.{low-weights}
use Rattle.sittings.specs.Sittings.{Open, sides, opens, resumed, traced, Saved, begun, complete, nothing, most, sitting, Choosing, by_first_link, by_largest_sum, choice_of, saved_by}
use Rattle.sittings.specs.Entries.{Known, InRange, InOrder}
use Rattle.sittings.proofs.Bounds.{traced-few, tree-deep}
use Rattle.sittings.proofs.Good.{Exactly, Good, good_none, good-kept, carried-near, carried-ranged, good-range, good-order, good-traced}

-- the first link or the chosen one
abbrev pub Either : Network → ℕ → Type 0
Either g i = (i ≡ first_link g) ⊎ (i ≡ chosen g)

pub either-link : (g : Network) (i : ℕ) → Either g i → Place view g i
either-link g i (inl e) = subst (Place view g) (sym e) (first-link g)
either-link g i (inr e) = subst (Place view g) (sym e) (chosen-link g)

either-choice : (c : Choosing) (g : Network) → Either g (choice_of c g)
either-choice by_first_link g = inl refl
either-choice by_largest_sum g = inr refl

either-tested : (g : Network) (i : ℕ) → Either g i → (eqb i 0 || eqb i (chosen g)) ≡ true
either-tested g i (inl e) = ap (λ a. a || eqb i (chosen g)) (eq-eqb i 0 e)
either-tested g i (inr e) = ap (λ b. eqb i 0 || b) (eq-eqb i (chosen g) e) ∙ or_right (eqb i 0)

module _ (g : Network) where
  -- figures of a network, all worked: in range, and they enclose the exact sum within the budget
  abbrev pub Worked : Figure → Type 0
  Worked f = Exactly view (length g.links) g (sides f)

  -- open splits, each on the first link or on the chosen one; of each known sound branch the figures are all worked
  abbrev pub GoodWork : List Open → Type 0
  GoodWork os = Good Valid view step_at lawful Either either-link g os

  abbrev pub GoodSaved : Saved → Type 0
  GoodSaved (begun os n) = GoodWork os × (n ≤ most)
  GoodSaved (complete f) = Worked f × (f.finished ≡ true) × (f.steps ≤ most)

  pub nothing-good : GoodSaved nothing
  nothing-good = (good_none Valid view step_at lawful Either either-link g, zero-le)

  -- what is promised of a figure, finished or not
  record Promised (f : Figure) : Type 0 where
    near : (d : Direction) → Figured view d (length g.links) f g
    range : (d : Direction) → side d f ≤ S

  -- the steps of earlier sittings change no figure
  more-promised : (n : ℕ) (f : Figure) → Promised f → Promised (more n f)
  more-promised n f k = record { near = λ d. near d; range = λ d. in_range d }
    where
      near : (d : Direction) → Figured view d (length g.links) (more n f) g
      near Down = k.near Down
      near Up = k.near Up

      in_range : (d : Direction) → side d (more n f) ≤ S
      in_range Down = k.range Down
      in_range Up = k.range Up

  worked-promised : (f : Figure) → Worked f → f.finished ≡ true → Promised f
  worked-promised f x done = record { near = λ d. subst (λ b. Encloses view d (length g.links) b (side d f) g) (sym done) (x.encloses d); range = x.range }

  promised-worked : (f : Figure) → f.finished ≡ true → Promised f → Worked f
  promised-worked f done k = record { range = k.range; encloses = λ d. subst (λ b. Encloses view d (length g.links) b (side d f) g) done (k.near d) }

  module _ (valid : Valid g) where
    module _ (c : Choosing) where
      abbrev by : Tree
      by = tree_by (choice_of c) g

      run-promised : (os : List Open) → GoodWork os → (l : ℕ) → Promised (run (resumed by os) l)
      run-promised os good l = record {
        near = λ d. carried-near Valid view step_at lawful Either either-link (choice_of c) (either-choice c) g valid os good d l;
        range = λ d. range (resumed by os) (carried-ranged Valid view step_at lawful Either either-link (choice_of c) (either-choice c) g valid os good) d l;
      }

      answer-promised : (s : Saved) → GoodSaved s → (limit : ℕ) → Promised (sitting by s limit).answer
      unfolding sitting
      answer-promised (begun os n) h limit = let l = min limit (most - n) in more-promised n (run (resumed by os) l) (run-promised os h.0 l)
      answer-promised (complete f) h limit = worked-promised f h.0 h.1

      -- a sitting by either choice keeps saved work good
      pub sitting-good : (s : Saved) → GoodSaved s → (limit : ℕ) → GoodSaved (sitting by s limit).saved
      unfolding sitting
      sitting-good (begun os n) h limit = go (run u l).finished refl
        where
          u : Tree
          u = resumed by os

          l : ℕ
          l = min limit (most - n)

          f : Figure
          f = more n (run u l)

          few : f.steps ≤ most
          few = omega (arith, steps u l, h.1)

          go : (b : Bool) → (run u l).finished ≡ b → GoodSaved (elim b [ true ↦ complete f | false ↦ begun (opens u l) f.steps ])
          go true done = (promised-worked f done (more-promised n (run u l) (run-promised os h.0 l)), done, few)
          go false e = (good-kept Valid view step_at lawful Either either-link (choice_of c) (either-choice c) g valid os h.0 l, few)
      sitting-good (complete f) h limit = h

    pub saved-again : (s : Saved) → GoodSaved s → (xs : List (Choosing × ℕ)) → GoodSaved (saved_by g s xs)
    unfolding saved_by
    saved-again s h [] = h
    saved-again s h (x ∷ xs) = saved-again (sitting (by x.0) s x.1).saved (sitting-good x.0 s h x.1) xs

    -- what is saved after any sittings is good
    pub saved-good : (xs : List (Choosing × ℕ)) → GoodSaved (saved_by g nothing xs)
    saved-good xs = saved-again nothing nothing-good xs

    -- of good open splits
    module _ (os : List Open) (good : GoodWork os) where
      pub work-range : Known InRange os
      work-range = good-range Valid view step_at lawful Either either-link chosen (either-choice by_largest_sum) g valid os good

      pub work-order : Known InOrder os
      work-order = good-order Valid view step_at lawful Either either-link chosen (either-choice by_largest_sum) g valid os good

      -- they pass check 11
      pub work-traced : traced (tree g) os ≡ true
      work-traced = good-traced Valid view step_at lawful Either either-link chosen (either-choice by_largest_sum) g valid os good either-tested

    -- no sitting goes past the most steps
    pub sitting-few : (s : Saved) → GoodSaved s → (limit : ℕ) → (sitting (tree g) s limit).answer.steps ≤ most
    unfolding sitting
    sitting-few (begun os n) h limit = omega (arith, steps (resumed (tree g) os) (min limit (most - n)), h.1)
    sitting-few (complete f) h limit = h.2

    -- with a larger limit the pair lies within the smaller limit's, from the same saved work
    pub sitting-nesting : (s : Saved) → GoodSaved s → (limit larger : ℕ) → limit ≤ larger
        → let f = (sitting (tree g) s limit).answer in let h = (sitting (tree g) s larger).answer in (f.low ≤ h.low) × (h.high ≤ f.high)
    unfolding sitting
    sitting-nesting (begun os n) h limit larger less =
        let u = resumed (tree g) os in
        let r = carried-ranged Valid view step_at lawful Either either-link chosen (either-choice by_largest_sum) g valid os h.0 in
        let k : min limit (most - n) ≤ min larger (most - n) = omega arith in
        ((nested u r Down (min limit (most - n)) (min larger (most - n)) k).order, (nested u r Up (min limit (most - n)) (min larger (most - n)) k).order)
    sitting-nesting (complete f) h limit larger less = (le_refl f.low, le_refl f.high)

    -- the answer of a sitting by the rule's choice, whatever good work it is handed
    module _ (s : Saved) (good : GoodSaved s) (limit : ℕ) where
      abbrev answer : Figure
      answer = (sitting (tree g) s limit).answer

      promised : Promised answer
      promised = answer-promised by_largest_sum s good limit

      pub sitting-range : answer.high ≤ S
      sitting-range = promised.range Up

      -- for any exact weights that the links' values enclose, each off by at most its own units
      module _ {cs : List ℕ} {ws : List Weighted} (h : AllEnclosed cs g.links ws) where
        abbrev units : ℕ
        units = budget (length g.links) (length g.nodes) + altogether cs

        near-exact : (d : Direction) → Near d units (total ws) (sum g.nodes ws []) answer
        near-exact d = near-weights d (budget (length g.links) (length g.nodes)) answer g.nodes (valued valid) h (promised.near d)

        pub sitting-enclosure : (answer.low * total ws ≤ S * sum g.nodes ws []) × (S * sum g.nodes ws [] ≤ answer.high * total ws)
        sitting-enclosure = ((near-exact Down).bounds, (near-exact Up).bounds)

        -- a finished pair is at most 2m + 4n wide, and twice the links' own units
        pub sitting-width : answer.finished ≡ true → answer.high ≤ answer.low + (2 * length g.links + 4 * length g.nodes + 2 * altogether cs)
        sitting-width done =
            let w = no-wider units (total ws) (sum g.nodes ws []) answer (total-pos h) near-exact done in
            omega arith

        ordered : answer.low ≤ answer.high
        ordered = low-below-high units (total ws) (sum g.nodes ws []) answer (total-pos h) near-exact

      pub sitting-low-high : answer.low ≤ answer.high
      sitting-low-high = ordered (low-weights g valid)

-- ---- what the checks of saved work ask

-- open splits and steps so far
pub record Begun (g : Network) (os : List Open) (n : ℕ) : Type 0 where
  pub traces : traced (tree g) os ≡ true
  pub in_order : Known InOrder os
  pub in_range : Known InRange os
  pub few : length os ≤ length g.links
  pub within : n ≤ most

abbrev pub Fits : Network → Saved → Type 0
Fits g (begun os n) = Begun g os n
Fits g (complete f) = f.steps ≤ most

-- good saved work passes them
pub good-fits : (g : Network) → Valid g → (s : Saved) → GoodSaved g s → Fits g s
good-fits g valid (begun os n) h =
    let traces = work-traced g valid os h.0 in
    record { traces = traces; in_order = work-order g valid os h.0; in_range = work-range g valid os h.0; few = traced-few (length g.links) (tree g) (tree-deep g valid) os traces; within = h.1 }
good-fits g valid (complete f) h = h.2
