use Prim.Native.Nat.{ℕ, ◌≤◌}
use mathlib.Core.Path.{◌≡◌, sym, ap, ap₂, ◌∙◌, subst}
use native.Mathlib.Omega.{arith}
use Rattle.reliability.specs.Comparisons.{minus}
use Rattle.rounding.specs.Rounding.{S}
use Rattle.rounding.specs.declared.Direction.TheVariants.{Down, Up}
use Rattle.reliability.specs.declared.Figure.{Figure}
use Rattle.reliability.specs.Rule.{figure}
use Rattle.reliability.specs.Terminals.{among, figure as figureOf}
use Rattle.reliability.proofs.Theorems.{figure-range, within-limit}
use Rattle.reliability.proofs.Everywhere.{figure-everywhere}
use Rattle.search.specs.Searches.{nodes_in}
use Rattle.network.specs.declared.Network.{Network}
use Rattle.network.specs.Places.{network_of, terminals_of, Invariant}
use Rattle.comparisons.proofs.difference.Goals as goal

-- a figure of all nodes, and what is known of it
module _ (n : Network) (holds : Invariant n) (all : n.chosen ≡ n.nodes) (limit : ℕ) (f : Figure) (is : f ≡ figureOf (terminals_of n) limit) where
  of-all : f ≡ figure (network_of n) limit
  of-all = is ∙ ap (λ (s : ℕ). figureOf (among (nodes_in s) (network_of n)) limit) all ∙ figure-everywhere (network_of n) holds.valid limit

  figure-within : (f.low ≤ S) × (f.high ≤ S)
  figure-within =
      let r = figure-range (network_of n) holds.valid limit in
      subst (λ (k : Figure). (k.low ≤ S) × (k.high ≤ S)) (sym of-all) (r Down, r Up)

  steps-within : f.steps ≤ limit
  steps-within = subst (λ (k : Figure). k.steps ≤ limit) (sym of-all) (within-limit (network_of n) limit)

pub minus-requires : goal.minus-requires
minus-requires c =
    let f = c.work-f.result in
    let g = c.work-g.result in
    let x = figure-within c.args.first c.requires.0 c.requires.3 _ f c.work-f.ensures in
    let y = figure-within c.args.second c.requires.1 c.requires.4 _ g c.work-g.ensures in
    let xs = steps-within c.args.first c.requires.0 c.requires.3 _ f c.work-f.ensures in
    let ys = steps-within c.args.second c.requires.1 c.requires.4 _ g c.work-g.ensures in
    (omega (arith, x, y), omega (arith, x, y), omega (arith, x, y), omega (arith, x, y), omega (arith, xs, ys), omega (arith, xs, ys))

pub returns : goal.returns
returns c =
    c.minus.ensures ∙ ap₂ minus (of-all c.args.first c.requires.0 c.requires.3 _ _ c.work-f.ensures) (of-all c.args.second c.requires.1 c.requires.4 _ _ c.work-g.ensures)
