use Prim.Native.Nat.{◌≤◌, ◌<◌}
use mathlib.Core.Path.{◌≡◌, sym, ap, ◌∙◌}
use native.Mathlib.Omega.{arith}
use lib.ListN.{length}
use Rattle.std.proofs.lemmas.Result.{err_from_is_err_and}
use Rattle.reliability.specs.declared.Figure.{Figure}
use Rattle.reliability.specs.Comparisons.{importance}
use Rattle.tables.specs.Tables.{rating, AcceptedTable}
use Rattle.std.specs.Prelude.{Ok}
use Rattle.plan.specs.Plans.{size_m, verdict, plan_of}
use Rattle.network.proofs.Picks.{built-used}
use Rattle.loading.proofs.Stands.{stands-importance}
use Rattle.causes.specs.Causes.{call_returned}
use Rattle.causes.proofs.Outcomes.{refused, answers}
use Rattle.refusals.specs.Refusals.{placed, figure_verdict, importance_verdict}
use Rattle.refusals.proofs.Calls.{figure-asks, placed-means, also-means}
use Rattle.answers.specs.Answers.{with_figure}
use Rattle.desk.specs.Outcomes.{importance_outcome}
use Rattle.desk.proofs.answer_importance.Goals as goal
use Rattle.desk.proofs.answer_importance.Goals.{In_ok-importance_verdict}

pub returns-in_err-importance_verdict : goal.returns-in_err-importance_verdict
unfolding importance_outcome
returns-in_err-importance_verdict c =
    let a = c.args in
    let e = sym c.importance_verdict.ensures ∙ c.in_err-importance_verdict.was in
    let p = err_from_is_err_and c.from_residual.result c.from_residual.ensures.1 in
    let r = refused (importance_verdict a.plan.now a.table.now a.place a.limit (length a.answer.now)) a.answer.now (with_figure (importance (plan_of (rating a.table.now) a.plan.now) a.place a.limit) a.answer.now) _ e in
    record { returned = ap call_returned (rw (p.1, p.2) (sym e)) ∙ r.0; answer_after = r.1 }

ok : (c : In_ok-importance_verdict) → let a = c.args in importance_verdict a.plan.now a.table.now a.place a.limit (length a.answer.now) ≡ Ok tt
ok c = sym c.importance_verdict.ensures ∙ c.in_ok-importance_verdict.was

-- the limit, the buffer, the table and the plan were accepted, and then the place
asks : (c : In_ok-importance_verdict) → let a = c.args in (a.limit ≤ 1000000) × (16 ≤ length a.answer.now) × AcceptedTable a.table.now × (verdict a.plan.now ≡ Ok tt) × (a.place < size_m a.plan.now)
asks c =
    let a = c.args in
    let (w, z) = (also-means (figure_verdict a.plan.now a.table.now a.limit (length a.answer.now)) (placed a.plan.now a.place)).0 (ok c) in
    let (l, r, t, p) = figure-asks a.plan.now a.table.now a.limit (length a.answer.now) w in
    (l, r, t, p, (placed-means a.plan.now a.place).0 z)

pub network_of-requires : goal.network_of-requires
network_of-requires c = ((asks c).3, (asks c).2)

pub importance-gain-requires : goal.importance-gain-requires
importance-gain-requires c =
    let k = asks (goal.at.importance-gain-requires c).In_ok-importance_verdict in
    let a = c.args in
    let at = built-used c.network_of.result (size_m a.plan.now) c.network_of.ensures.1 in
    let within = k.4 in
    let some : 0 < size_m a.plan.now = omega arith in
    (c.network_of.ensures.2, search at, omega (arith, k.0), c.network_of.ensures.3)

pub put_answer-requires : goal.put_answer-requires
put_answer-requires c = (asks (goal.at.put_answer-requires c).In_ok-importance_verdict).1

pub returns : goal.returns
unfolding importance_outcome
returns c =
    let a = c.args in
    let b = a.answer.now in
    let n = c.network_of in
    let e = answers (importance_verdict a.plan.now a.table.now a.place a.limit (length a.answer.now)) b (with_figure (importance (plan_of (rating a.table.now) a.plan.now) a.place a.limit) b) (ok (goal.at.returns c).In_ok-importance_verdict) in record {
      returned = e.0;
      answer_after = c.put_answer.ensures
          ∙ ap (λ (f : Figure). with_figure f b) (c.importance-gain.ensures ∙ stands-importance (plan_of (rating a.table.now) a.plan.now) a.plan.now n.result n.ensures.0 n.ensures.1 a.place (asks (goal.at.returns c).In_ok-importance_verdict).4 a.limit)
          ∙ e.1;
    }
