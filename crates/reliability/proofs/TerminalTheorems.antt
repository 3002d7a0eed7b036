-- What is promised of a figure of chosen nodes, for every valid network, every choice and every limit.
use Prim.Native.Nat.{ℕ, ◌+◌, ◌*◌, ◌≤◌, min}
use mathlib.Core.Path.{◌≡◌, ap, ◌∙◌}
use mathlib.Core.List.{List, [], map}
use mathlib.Core.Bool.{true, false}
use lib.Dec.{leb}
use lib.ListN.{length}
use Rattle.rounding.specs.Rounding.{S}
use Rattle.rounding.specs.declared.Direction.TheVariants.{Up}
use Rattle.reliability.specs.Networks.{ends, connected}
use Rattle.reliability.specs.Exact.{Weighted, sum, total, AllEnclosed, altogether}
use Rattle.reliability.specs.Rule.{bounded, run}
use Rattle.reliability.specs.Terminals.{Terminals, Chosen, step_at, split_at, tree, figure, needed}
use Rattle.reliability.proofs.Runs.{steps, finished}
use Rattle.reliability.proofs.Promises as rule
use Rattle.reliability.proofs.TerminalSteps.{view, split-choice}
use Rattle.reliability.proofs.TerminalSums.{lawful}
use Rattle.reliability.proofs.Simple.{unlooped-tree, unlooped-loopless, unlooped-chosen, one-tree}
use Rattle.reliability.proofs.Separate.{apart-tree}

module _ (g : Terminals) (limit : ℕ) where
  -- the splits taken are those needed, as far as the limit goes
  pub steps-taken : (figure g limit).steps ≡ min (needed g) limit
  steps-taken = steps (tree g) limit

  -- finished exactly when no more splits are needed than the limit
  pub finished-when : (figure g limit).finished ≡ leb (needed g) limit
  finished-when = finished (tree g) limit

module _ (g : Terminals) (valid : Chosen g) (limit : ℕ) where
  -- with a larger limit the pair lies within the smaller limit's
  pub nesting : (larger : ℕ) → limit ≤ larger → ((figure g limit).low ≤ (figure g larger).low) × ((figure g larger).high ≤ (figure g limit).high)
  nesting = rule.nesting Chosen view step_at lawful split_at split-choice g valid limit

  pub high-range : (figure g limit).high ≤ S
  high-range = rule.figure-range Chosen view step_at lawful split_at split-choice g valid limit Up

  pub low-high : (figure g limit).low ≤ (figure g limit).high
  low-high = rule.low-high Chosen view step_at lawful split_at split-choice g valid limit

  -- for any exact weights that the links' values enclose, each off by at most its own units
  module _ {cs : List ℕ} {ws : List Weighted} (h : AllEnclosed cs g.network.links ws) where
    -- the chance that all chosen nodes are connected
    pub enclosure : ((figure g limit).low * total ws ≤ S * sum g.chosen ws []) × (S * sum g.chosen ws [] ≤ (figure g limit).high * total ws)
    enclosure = rule.enclosure Chosen view step_at lawful split_at split-choice g valid limit h

    -- a finished pair is at most 2m + 4n wide, and twice the links' own units
    pub width : (figure g limit).finished ≡ true → (figure g limit).high ≤ (figure g limit).low + (2 * length g.network.links + 4 * length g.network.nodes + 2 * altogether cs)
    width = rule.width Chosen view step_at lawful split_at split-choice g valid limit h

  -- one chosen node: S, without a step, whatever the links
  pub one-chosen : length g.chosen ≤ 1 → figure g limit ≡ bounded (λ d. S) 0 true
  unfolding run
  one-chosen one = ap (λ t. run t limit) (unlooped-tree g valid ∙ one-tree _ (unlooped-chosen g valid) (unlooped-loopless g.network) one)

  -- chosen nodes in different pieces: 0, without a step
  pub apart : connected g.chosen (map ends g.network.links) ≡ false → figure g limit ≡ bounded (λ d. 0) 0 true
  unfolding run
  apart pieces = ap (λ t. run t limit) (apart-tree g valid pieces)
