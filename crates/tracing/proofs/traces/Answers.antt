use mathlib.Core.Path.{◌≡◌, sym, ap, ◌∙◌, subst}
use native.Mathlib.Omega.{arith}
use Rattle.reliability.specs.Rule.{Tree}
use Rattle.simple.specs.declared.Begun.{Begun}
use Rattle.simple.specs.Begins.{Begins}
use Rattle.sittings.specs.Sittings.{traced}
use Rattle.sittings.specs.Entries.{opens_in}
use Rattle.tracing.proofs.Laws.{traced-ready}
use Rattle.tracing.proofs.traces.Goals as goal
use Rattle.tracing.proofs.traces.Goals.{After-start}

begun : (d : After-start) (b : Begun) → d.start.result ≡ b → Begins d.args.net b
begun d b e = subst (Begins d.args.net) e d.start.ensures

pub returns-in-Settled : goal.returns-in-Settled
returns-in-Settled c =
    let a = c.args in
    traced-ready a.row.now 0 _ a.left ∙ ap (λ (u : Tree). traced u (opens_in a.row.now 0 a.left)) (sym (begun (goal.at.returns-in-Settled c).After-start _ c.in-Settled.is))

pub follow-requires : goal.follow-requires
follow-requires c = ((begun (goal.at.follow-requires c).After-start _ c.in-Simple.is).0, omega (arith, c.requires.1))

pub returns-in-Simple : goal.returns-in-Simple
returns-in-Simple c =
    let a = c.args in
    c.follow.ensures ∙ ap (λ (u : Tree). traced u (opens_in a.row.now 0 a.left)) (sym (begun (goal.at.returns-in-Simple c).After-start _ c.in-Simple.is).1)
