use mathlib.Core.Path.{refl, ap, ◌∙◌}
use native.Mathlib.Omega.{arith}
use Rattle.reliability.specs.Rule.{Tree, run}
use Rattle.reliability.specs.Terminals.{tree}
use Rattle.network.specs.Places.{terminals_of}
use Rattle.sittings.specs.Sittings.{traced}
use Rattle.sittings.specs.Entries.{opens_in}
use Rattle.sittings.proofs.Sittings.{resumed-none}
use Rattle.factoring.proofs.work.Goals as goal

pub returns : goal.returns
unfolding opens_in
returns c =
    let a = c.args in
    c.carry.ensures.figure ∙ ap (λ (t : Tree). run t a.limit) (resumed-none (tree (terminals_of a.net)))

pub carry-requires : goal.carry-requires
unfolding opens_in traced
carry-requires c = (c.requires.0, omega (arith, c.requires.1), record { size = refl; traces = refl; range = tt })
