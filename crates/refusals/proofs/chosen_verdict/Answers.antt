use mathlib.Core.Path.{sym, ◌∙◌}
use native.Mathlib.Omega.{arith}
use Rattle.refusals.proofs.Calls.{figure-means}
use Rattle.refusals.proofs.chosen_verdict.Goals as goal

pub choice_verdict-requires : goal.choice_verdict-requires
choice_verdict-requires c =
    let e = sym c.figure_verdict.ensures ∙ c.in_ok-figure_verdict.was in
    let a = c.args in
    let w = ((figure-means a.plan.now a.table.now a.limit a.room).0 e).3 in
    (omega (arith, w.whole), w.nodes)
