-- What is promised of the figures of a rule, whatever its networks are.
use Prim.Native.Nat.{ℕ, ◌+◌, ◌*◌, ◌≤◌}
use mathlib.Core.Path.{◌≡◌, refl}
use mathlib.Core.List.{List, []}
use mathlib.Core.Bool.{true}
use native.Mathlib.Omega.{arith}
use lib.ListN.{length}
use Rattle.rounding.specs.Rounding.{S}
use Rattle.rounding.specs.declared.Direction.{Direction}
use Rattle.rounding.specs.declared.Direction.TheVariants.{Down, Up}
use Rattle.reliability.specs.Exact.{Weighted, sum, total, AllEnclosed, altogether}
use Rattle.reliability.specs.Rule.{Remainder, Tree, tree_of, side, run, budget}
use Rattle.reliability.proofs.Lawful.{View, Sized, Lawful, Choice}
use Rattle.reliability.proofs.Runs.{Ranged, range, nested}
use Rattle.reliability.proofs.Enclosure.{encloses, ranged}
use Rattle.reliability.proofs.Weights.{Near, near-weights, low-below-high, no-wider, total-pos, gaps, low-enclosed}

module _ {N : Type 0} (Valid : N → Type 0) (μ : View N) (step : ℕ → N → Remainder N) (lawful : Lawful Valid μ step) (choose : N → ℕ) (choice : Choice μ choose)
    (g : N) (valid : Valid g) (l : ℕ) where
  abbrev m : ℕ
  m = length (μ.links g)

  abbrev n : ℕ
  n = length (μ.nodes g)

  abbrev work : Tree
  work = tree_of step choose (length (μ.links g)) g

  sized : Sized Valid μ (length (μ.links g)) g
  sized = record { valid = valid; size = refl }

  in_range : Ranged work
  in_range = ranged Valid μ step lawful choose choice m g sized

  pub figure-range : (d : Direction) → side d (run work l) ≤ S
  figure-range d = range work in_range d l

  -- with a larger limit the pair lies within the smaller limit's
  pub nesting : (larger : ℕ) → l ≤ larger → ((run work l).low ≤ (run work larger).low) × ((run work larger).high ≤ (run work l).high)
  nesting larger h = ((nested work in_range Down l larger h).order, (nested work in_range Up l larger h).order)

  -- for any exact weights that the links' values enclose, each off by at most its own units
  module _ {cs : List ℕ} {ws : List Weighted} (h : AllEnclosed cs (μ.links g) ws) where
    pub near-exact : (d : Direction) → Near d (budget m n + altogether cs) (total ws) (sum (μ.terminals g) ws []) (run work l)
    near-exact d = near-weights d (budget m n) (run work l) (μ.terminals g) (lawful.values g valid) h (encloses Valid μ step lawful choose choice d m g sized l)

    pub enclosure : ((run work l).low * total ws ≤ S * sum (μ.terminals g) ws []) × (S * sum (μ.terminals g) ws [] ≤ (run work l).high * total ws)
    enclosure = ((near-exact Down).bounds, (near-exact Up).bounds)

    -- a finished pair is at most 2m + 4n wide, and twice the links' own units
    pub width : (run work l).finished ≡ true → (run work l).high ≤ (run work l).low + (2 * m + 4 * n + 2 * altogether cs)
    width done =
        let w = no-wider (budget m n + altogether cs) (total ws) (sum (μ.terminals g) ws []) (run work l) (total-pos h) near-exact done in
        omega arith

  pub low-high : (run work l).low ≤ (run work l).high
  low-high =
      let h = low-enclosed (μ.links g) (lawful.values g valid) in
      low-below-high (budget m n + altogether (gaps (μ.links g))) _ _ (run work l) (total-pos h) (near-exact h)
