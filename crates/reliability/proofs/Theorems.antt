-- What is promised of a figure, for every valid network and every limit.
use Prim.Native.Nat.{ℕ, ◌+◌, ◌*◌, ◌≤◌, min}
use mathlib.Core.Path.{◌≡◌}
use mathlib.Core.List.{List, [], map}
use mathlib.Core.Bool.{true}
use native.Mathlib.Omega.{arith}
use lib.Dec.{leb}
use lib.ListN.{length}
use Rattle.rounding.specs.Rounding.{S}
use Rattle.rounding.specs.declared.Direction.{Direction}
use Rattle.rounding.specs.declared.Direction.TheVariants.{Down, Up}
use Rattle.reliability.specs.Networks.{Network, Valid}
use Rattle.reliability.specs.Exact.{Weighted, weighted, sum, total, AllEnclosed, altogether}
use Rattle.reliability.specs.Rule.{chosen, step_at, tree, side, figure, needed, budget}
use Rattle.reliability.proofs.Runs.{steps, finished}
use Rattle.reliability.proofs.Steps.{view, chosen-link}
use Rattle.reliability.proofs.Everywhere.{lawful}
use Rattle.reliability.proofs.Weights.{Near, gaps, low-enclosed}
use Rattle.reliability.proofs.Validity.{valued}
use Rattle.reliability.proofs.Promises as rule

-- a network's low values as exact weights
pub low-weights : (g : Network) → Valid g → AllEnclosed (gaps g.links) g.links (map (weighted Down) g.links)
low-weights g valid = low-enclosed g.links (valued valid)

module _ (g : Network) (limit : ℕ) where
  -- demand 3: the splits taken are those needed, as far as the limit goes
  pub steps-taken : (figure g limit).steps ≡ min (needed g) limit
  steps-taken = steps (tree g) limit

  pub within-limit : (figure g limit).steps ≤ limit
  within-limit = omega (arith, steps-taken)

  -- demand 3: finished exactly when no more splits are needed than the limit
  pub finished-when : (figure g limit).finished ≡ leb (needed g) limit
  finished-when = finished (tree g) limit

module _ (g : Network) (valid : Valid g) (limit : ℕ) where
  -- demand 3: with a larger limit the pair lies within the smaller limit's
  pub nesting : (larger : ℕ) → limit ≤ larger → ((figure g limit).low ≤ (figure g larger).low) × ((figure g larger).high ≤ (figure g limit).high)
  nesting = rule.nesting Valid view step_at lawful chosen chosen-link g valid limit

  pub figure-range : (d : Direction) → side d (figure g limit) ≤ S
  figure-range = rule.figure-range Valid view step_at lawful chosen chosen-link g valid limit

  pub high-range : (figure g limit).high ≤ S
  high-range = figure-range Up

  pub low-high : (figure g limit).low ≤ (figure g limit).high
  low-high = rule.low-high Valid view step_at lawful chosen chosen-link g valid limit

  -- for any exact weights that the links' values enclose, each off by at most its own units
  module _ {cs : List ℕ} {ws : List Weighted} (h : AllEnclosed cs g.links ws) where
    pub near-exact : (d : Direction) → Near d (budget (length g.links) (length g.nodes) + altogether cs) (total ws) (sum g.nodes ws []) (figure g limit)
    near-exact = rule.near-exact Valid view step_at lawful chosen chosen-link g valid limit h

    -- demand 2
    pub enclosure : ((figure g limit).low * total ws ≤ S * sum g.nodes ws []) × (S * sum g.nodes ws [] ≤ (figure g limit).high * total ws)
    enclosure = rule.enclosure Valid view step_at lawful chosen chosen-link g valid limit h

    -- demand 3: a finished pair is at most 2m + 4n wide, and twice the links' own units
    pub width : (figure g limit).finished ≡ true → (figure g limit).high ≤ (figure g limit).low + (2 * length g.links + 4 * length g.nodes + 2 * altogether cs)
    width = rule.width Valid view step_at lawful chosen chosen-link g valid limit h
