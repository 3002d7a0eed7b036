use Prim.Native.Nat.{ℕ, ◌≤◌}
use mathlib.Core.Path.{◌≡◌, sym, ap, ap₂, ◌∙◌}
use native.Mathlib.Omega.{arith}
use mir.Syntax.{w32}
use mir.Facts.{to_z-of_z}
use lib.ListN.{length}
use Rattle.std.proofs.lemmas.Result.{err_from_is_err_and}
use Rattle.reliability.specs.declared.Difference.{Difference}
use Rattle.reliability.specs.Networks.{Network as Graph}
use Rattle.reliability.specs.Comparisons.{difference}
use Rattle.tables.specs.Tables.{rating, AcceptedTable}
use Rattle.std.specs.Prelude.{Ok, Err}
use Rattle.plan.specs.Plans.{verdict, plan_of}
use Rattle.causes.specs.declared.CallCause.{CallCause}
use Rattle.causes.specs.Causes.{CallVerdict}
use Rattle.causes.specs.Causes.{call_returned}
use Rattle.causes.proofs.Outcomes.{refused, answers}
use Rattle.refusals.specs.Refusals.{planned_second, also, figure_verdict, difference_verdict}
use Rattle.refusals.proofs.Calls.{figure-asks, second-means, also-means}
use Rattle.answers.specs.Answers.{answered}
use Rattle.desk.specs.Outcomes.{twos, with_difference, difference_outcome}
use borrow.Author.Rules.{rules}
use Rattle.desk.proofs.answer_difference.Goals as goal
use Rattle.desk.proofs.answer_difference.Goals.{In_ok-figure_verdict, In_ok-second_verdict}

-- where plan A's call is refused, so is the difference, for the same cause
same-cause : (u w : CallVerdict) (c : CallCause) → u ≡ Err c → also u w ≡ Err c
same-cause u w c e = ap (λ (x : CallVerdict). also x w) e

pub returns-in_err-figure_verdict : goal.returns-in_err-figure_verdict
unfolding difference_outcome
returns-in_err-figure_verdict c =
    let a = c.args in
    let e = same-cause (figure_verdict a.first.now a.table.now a.limit (length a.answer.now)) (planned_second (verdict a.second.now)) _ (sym c.figure_verdict.ensures ∙ c.in_err-figure_verdict.was) in
    let p = err_from_is_err_and c.from_residual.result c.from_residual.ensures.1 in
    let r = refused (difference_verdict a.first.now a.second.now a.table.now a.limit (length a.answer.now)) a.answer.now (with_difference (difference (plan_of (rating a.table.now) a.first.now) (plan_of (rating a.table.now) a.second.now) a.limit) a.answer.now) _ e in
    record { returned = ap call_returned (rw (p.1, p.2) (sym e)) ∙ r.0; answer_after = r.1 }

first-ok : (c : In_ok-figure_verdict) → let a = c.args in figure_verdict a.first.now a.table.now a.limit (length a.answer.now) ≡ Ok tt
first-ok c = sym c.figure_verdict.ensures ∙ c.in_ok-figure_verdict.was

-- the limit, the buffer, the table and the first plan were accepted
asks : (c : In_ok-figure_verdict) → let a = c.args in (a.limit ≤ 1000000) × (16 ≤ length a.answer.now) × AcceptedTable a.table.now × (verdict a.first.now ≡ Ok tt)
asks c =
    let a = c.args in
    figure-asks a.first.now a.table.now a.limit (length a.answer.now) (first-ok c)

second-fine : (c : In_ok-second_verdict) → planned_second (verdict c.args.second.now) ≡ Ok tt
second-fine c = sym c.second_verdict.ensures ∙ c.in_ok-second_verdict.was

second-ok : (c : In_ok-second_verdict) → verdict c.args.second.now ≡ Ok tt
second-ok c = (second-means (verdict c.args.second.now)).0 (second-fine c)

pub returns-in_err-second_verdict : goal.returns-in_err-second_verdict
unfolding difference_outcome
returns-in_err-second_verdict c =
    let a = c.args in
    let passed = ap (λ (u : CallVerdict). also u (planned_second (verdict a.second.now))) (first-ok (goal.at.returns-in_err-second_verdict c).In_ok-figure_verdict) in
    let e = passed ∙ sym c.second_verdict.ensures ∙ c.in_err-second_verdict.was in
    let p = err_from_is_err_and c.from_residual-in_err-second_verdict.result c.from_residual-in_err-second_verdict.ensures.1 in
    let r = refused (difference_verdict a.first.now a.second.now a.table.now a.limit (length a.answer.now)) a.answer.now (with_difference (difference (plan_of (rating a.table.now) a.first.now) (plan_of (rating a.table.now) a.second.now) a.limit) a.answer.now) _ e in
    record { returned = ap call_returned (rw (p.1, p.2) (sym e)) ∙ r.0; answer_after = r.1 }

pub network_of-requires : goal.network_of-requires
network_of-requires c = let k = asks (goal.at.network_of-requires c).In_ok-figure_verdict in (k.3, k.2)

pub network_of-requires-2 : goal.network_of-requires-2
network_of-requires-2 c =
    let f = asks (goal.at.network_of-requires-2 c).In_ok-figure_verdict in
    let s = second-ok (goal.at.network_of-requires-2 c).In_ok-second_verdict in
    search rules

pub difference-d-requires : goal.difference-d-requires
difference-d-requires c =
    let k = asks (goal.at.difference-d-requires c).In_ok-figure_verdict in
    (c.network_of.ensures.2, c.network_of-2.ensures.2, omega (arith, k.0), c.network_of.ensures.3, c.network_of-2.ensures.3)

pub put_answer-requires : goal.put_answer-requires
put_answer-requires c = (asks (goal.at.put_answer-requires c).In_ok-figure_verdict).1

pub returns : goal.returns
unfolding difference_outcome
returns c =
    let a = c.args in
    let b = a.answer.now in
    let ok = (also-means (figure_verdict a.first.now a.table.now a.limit (length a.answer.now)) (planned_second (verdict a.second.now))).1 (first-ok (goal.at.returns c).In_ok-figure_verdict, second-fine (goal.at.returns c).In_ok-second_verdict) in
    let e = answers (difference_verdict a.first.now a.second.now a.table.now a.limit (length a.answer.now)) b (with_difference (difference (plan_of (rating a.table.now) a.first.now) (plan_of (rating a.table.now) a.second.now) a.limit) b) ok in
    let d = c.difference-d.ensures ∙ ap₂ (λ (g h : Graph). difference g h a.limit) c.network_of.ensures.0 c.network_of-2.ensures.0 in record {
      returned = e.0;
      answer_after = c.put_answer.ensures
          ∙ ap₂ (λ (l h : ℕ). answered l h c.difference-d.result.steps c.difference-d.result.finished b) (c.bits_of.ensures ∙ ap twos (to_z-of_z {w = w32} {z = c.difference-d.result.low} (search rules))) (c.bits_of-2.ensures ∙ ap twos (to_z-of_z {w = w32} {z = c.difference-d.result.high} (search rules)))
          ∙ ap (λ (x : Difference). with_difference x b) d ∙ e.1;
    }
