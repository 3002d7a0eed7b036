use mathlib.Core.Path.{sym, ◌∙◌}
use native.Mathlib.Omega.{arith}
use Rattle.plan.proofs.Verdicts.{accepted-means}
use Rattle.plan.specs.Plans.{verdict}
use Rattle.refusals.proofs.Calls.{planned-means}
use Rattle.count_desk.proofs.count_verdict.Goals as goal

pub room_verdict-requires : goal.room_verdict-requires
room_verdict-requires c =
    let plan = c.args.plan.now in
    let e = sym c.plan_verdict.ensures ∙ c.in_ok-plan_verdict.was in
    let w = (accepted-means plan).0 ((planned-means (verdict plan)).0 e) in
    omega (arith, w.whole)
