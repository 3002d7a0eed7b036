use Prim.Native.Nat.{◌^◌, ◌≤◌, ◌<◌}
use native.Mathlib.Nat.{le_trans}
use lib.Pow.{pow_mono}
use mathlib.Core.List.{Memᴰ}
use mathlib.Core.Path.{◌≡◌, sym, ap, subst, ◌∙◌}
use native.Mathlib.Omega.{arith}
use lib.ListN.{length}
use Rattle.std.proofs.lemmas.Result.{err_from_is_err_and}
use Rattle.reliability.specs.declared.Figure.{Figure}
use Rattle.reliability.specs.Networks.{Network as Graph}
use Rattle.reliability.specs.Terminals.{Terminals, figure}
use Rattle.search.proofs.Sets.{has-below, mem-has, from-node}
use Rattle.tables.specs.Tables.{rating, AcceptedTable}
use Rattle.std.specs.Prelude.{Ok}
use Rattle.plan.specs.Plans.{size_n, verdict, plan_of}
use Rattle.plan.proofs.Verdicts.{accepted-means}
use Rattle.causes.specs.Causes.{call_returned}
use Rattle.causes.proofs.Outcomes.{refused, answers}
use Rattle.refusals.specs.Refusals.{chosen_verdict}
use Rattle.refusals.proofs.Calls.{chosen-asks}
use Rattle.answers.specs.Answers.{with_figure}
use Rattle.desk.specs.Outcomes.{chosen_by, figure_outcome}
use Rattle.desk.proofs.answer_figure.Goals as goal
use Rattle.desk.proofs.answer_figure.Goals.{In_ok-chosen_verdict}

pub returns-in_err-chosen_verdict : goal.returns-in_err-chosen_verdict
unfolding figure_outcome
returns-in_err-chosen_verdict c =
    let a = c.args in
    let e = sym c.chosen_verdict.ensures ∙ c.in_err-chosen_verdict.was in
    let p = err_from_is_err_and c.from_residual.result c.from_residual.ensures.1 in
    let r = refused (chosen_verdict a.plan.now a.table.now a.choice a.limit (length a.answer.now)) a.answer.now (with_figure (figure (chosen_by a.choice (plan_of (rating a.table.now) a.plan.now)) a.limit) a.answer.now) _ e in
    record { returned = ap call_returned (rw (p.1, p.2) (sym e)) ∙ r.0; answer_after = r.1 }

ok : (c : In_ok-chosen_verdict) → let a = c.args in chosen_verdict a.plan.now a.table.now a.choice a.limit (length a.answer.now) ≡ Ok tt
ok c = sym c.chosen_verdict.ensures ∙ c.in_ok-chosen_verdict.was

-- the limit, the buffer, the table, the plan and the choice were accepted
asks : (c : In_ok-chosen_verdict) → let a = c.args in (a.limit ≤ 1000000) × (16 ≤ length a.answer.now) × AcceptedTable a.table.now × (verdict a.plan.now ≡ Ok tt) × (0 < a.choice) × (a.choice < 2 ^ size_n a.plan.now)
asks c =
    let a = c.args in
    chosen-asks a.plan.now a.table.now a.choice a.limit (length a.answer.now) (ok c)

pub network_of-requires : goal.network_of-requires
network_of-requires c = ((asks c).3, (asks c).2)

pub overflow_cast-choice : goal.overflow_cast-choice
overflow_cast-choice c =
    let a = c.args in
    let w = (accepted-means a.plan.now).0 (asks (goal.at.overflow_cast-choice c).In_ok-chosen_verdict).3 in
    record { fits = le_trans (asks (goal.at.overflow_cast-choice c).In_ok-chosen_verdict).5 (pow_mono w.nodes) }

-- the nodes that it names are the plan's
pub with_chosen-net-requires : goal.with_chosen-net-requires
with_chosen-net-requires c =
    let a = c.args in
    let n = c.network_of in
    let few = (asks (goal.at.with_chosen-net-requires c).In_ok-chosen_verdict).5 in
    (n.ensures.2, λ v h. mem-has n.result.nodes v (subst (Memᴰ v) (sym (ap (λ (g : Graph). g.nodes) n.ensures.0)) (let below = has-below a.choice (size_n a.plan.now) v few h in from-node 0 (size_n a.plan.now) v (omega arith) (omega arith))))

pub work-f-requires : goal.work-f-requires
work-f-requires c =
    let k = asks (goal.at.work-f-requires c).In_ok-chosen_verdict in
    (c.with_chosen-net.ensures.1, omega (arith, k.0))

pub put_answer-requires : goal.put_answer-requires
put_answer-requires c = (asks (goal.at.put_answer-requires c).In_ok-chosen_verdict).1

pub returns : goal.returns
unfolding figure_outcome
returns c =
    let a = c.args in
    let b = a.answer.now in
    let e = answers (chosen_verdict a.plan.now a.table.now a.choice a.limit (length a.answer.now)) b (with_figure (figure (chosen_by a.choice (plan_of (rating a.table.now) a.plan.now)) a.limit) b) (ok (goal.at.returns c).In_ok-chosen_verdict) in
    let same = c.with_chosen-net.ensures.0 ∙ ap (chosen_by a.choice) c.network_of.ensures.0 in record { returned = e.0; answer_after = c.put_answer.ensures ∙ ap (λ (f : Figure). with_figure f b) (c.work-f.ensures ∙ ap (λ (h : Terminals). figure h a.limit) same) ∙ e.1 }
