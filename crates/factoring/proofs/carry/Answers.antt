use mathlib.Core.Path.{sym, ◌∙◌, subst}
use native.Mathlib.Omega.{arith}
use Rattle.reliability.specs.Rule.{Tree}
use Rattle.network.proofs.Made.{links-few}
use Rattle.simple.specs.Begins.{Begins}
use Rattle.simple.specs.declared.Begun.TheVariants.{Settled, Simple}
use Rattle.sittings.specs.Sittings.{resumed}
use Rattle.sittings.specs.Entries.{opens_in}
use Rattle.engine.specs.Carrying.{Carries, Worked}
use Rattle.engine.proofs.Splits.{ready-worked}
use Rattle.factoring.proofs.carry.Goals as goal
use Rattle.factoring.proofs.carry.Goals.{In-Simple}

pub returns-in-Settled : goal.returns-in-Settled
returns-in-Settled c =
    let a = c.args in
    let ready : Begins a.net (Settled c.in-Settled.units) = subst (Begins a.net) c.in-Settled.is c.start.ensures in
    ready-worked ready _ a.limit a.row.now 0 c.whole.result (c.whole.ensures.0 ∙ c.settled.ensures) c.whole.ensures.1

begins : (c : In-Simple) → Begins c.args.net (Simple c.in-Simple.rest)
begins c = subst (Begins c.args.net) c.in-Simple.is c.start.ensures

pub returns-in-Simple : goal.returns-in-Simple
returns-in-Simple c =
    let a = c.args in
    subst (λ (u : Tree). Worked (resumed u (opens_in a.row.now 0 a.left)) a.limit a.row.now 0 c.run.result c.run.new.row)
    (sym (begins (goal.at.returns-in-Simple c).In-Simple).1) c.run.ensures

pub run-requires : goal.run-requires
run-requires c =
    let a = c.args in
    let s = begins (goal.at.run-requires c).In-Simple in record { workable = (s.0, omega (arith, c.requires.1)); carries = (omega (arith, links-few _ s.0.sized), subst (λ (u : Tree). Carries u a.row.now 0 a.left) s.1 c.requires.2) }
