use mathlib.Core.Path.{sym, ◌∙◌}
use Rattle.plan.proofs.Verdicts.{accepted-means}
use Rattle.refusals.proofs.Calls.{sitting-means}
use Rattle.sitting_desk.proofs.verdict_of.Goals as goal

pub saved_verdict-requires : goal.saved_verdict-requires
saved_verdict-requires c =
    let a = c.args in
    let e = sym c.sitting_verdict.ensures ∙ c.in_ok-sitting_verdict.was in
    let h = (sitting-means a.plan.now a.table.now a.limit a.room a.space).0 e in
    ((accepted-means a.plan.now).1 h.4, h.3)
