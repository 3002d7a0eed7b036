use mathlib.Core.Path.{◌≡◌, sym, ap, ◌∙◌}
use mathlib.Core.Bool.{true, false}
use native.Mathlib.Omega.{arith}
use lib.Dec.{eqb}
use lib.ListN.{length}
use borrow.Author.Tests.{eqb-true, eqb-false}
use Rattle.std.proofs.lemmas.Result.{err_from_is_err_and}
use Rattle.reliability.specs.Rule.{tree}
use Rattle.tables.specs.Tables.{rating}
use Rattle.plan.specs.Plans.{plan_of}
use Rattle.plan.proofs.Verdicts.{accepted-means}
use Rattle.std.specs.Prelude.{Ok}
use Rattle.causes.specs.Causes.{call_returned}
use Rattle.saved.specs.Format.{state_in, well_formed}
use Rattle.saved.proofs.Laws.{formed-size, complete-means, begun-else}
use Rattle.saved_verdict.proofs.Laws.{saved-means}
use Rattle.sitting_desk.specs.Outcome.{SittingOutcome, verdict_of}
use Rattle.sitting_desk.proofs.Outcomes.{AcceptedCall, accepted-call, refused, completed, carried}
use Rattle.sitting_desk.proofs.answer_sitting.Goals as goal
use Rattle.sitting_desk.proofs.answer_sitting.Goals.{Else-is_complete, In_ok-verdict_of, Then-is_complete}

pub returns-in_err-verdict_of : goal.returns-in_err-verdict_of
returns-in_err-verdict_of c =
    let a = c.args in
    let p = err_from_is_err_and c.from_residual.result c.from_residual.ensures.1 in
    let is = sym c.verdict_of.ensures ∙ c.in_err-verdict_of.was in
    let same : c.from_residual.result ≡ verdict_of a.plan.now a.table.now a.limit a.saved.now (length a.answer.now) (length a.work.now) = rw (p.1, p.2) (sym is) in
    let e = sym (refused a.plan.now a.table.now a.limit a.saved.now a.answer.now a.work.now _ is) in
    record {
      returned = ap call_returned (same ∙ is) ∙ ap (λ (o : SittingOutcome). o.returned) e;
      answer_after = ap (λ (o : SittingOutcome). o.answer) e;
      work_after = ap (λ (o : SittingOutcome). o.work) e;
    }

-- the call was accepted
ok : (c : In_ok-verdict_of) → let a = c.args in verdict_of a.plan.now a.table.now a.limit a.saved.now (length a.answer.now) (length a.work.now) ≡ Ok tt
ok c = sym c.verdict_of.ensures ∙ c.in_ok-verdict_of.was

all : (c : In_ok-verdict_of) → let a = c.args in AcceptedCall a.plan.now a.table.now a.limit a.saved.now (length a.answer.now) (length a.work.now)
all c =
    let a = c.args in
    accepted-call a.plan.now a.table.now a.limit a.saved.now (length a.answer.now) (length a.work.now) (ok c)

formed : (c : In_ok-verdict_of) → well_formed c.args.saved.now ≡ true
formed c =
    let a = c.args in
    ((saved-means (tree (plan_of (rating a.table.now) a.plan.now)) a.saved.now).0 (all c).saves).0

pub invariant_of-earlier : goal.invariant_of-earlier
invariant_of-earlier c = record { sized = formed-size _ (formed c) }

-- complete work
state : (c : Then-is_complete) → eqb (state_in c.args.saved.now) 1 ≡ true
state c = sym c.is_complete.ensures ∙ c.if-is_complete.true

whole : (c : Then-is_complete) → length c.args.saved.now ≡ 24
whole c =
    let a = c.args in
    (complete-means a.saved.now (formed (goal.at.Then-is_complete c).In_ok-verdict_of) (λ z. omega (arith, eqb-true (state_in a.saved.now) 1 (state c)))).size

pub give_again-requires : goal.give_again-requires
give_again-requires c =
    let h = all (goal.at.give_again-requires c).In_ok-verdict_of in
    (whole (goal.at.give_again-requires c).Then-is_complete, h.answer, omega (arith, h.work))

pub returns-then-is_complete : goal.returns-then-is_complete
returns-then-is_complete c =
    let a = c.args in
    let e = sym (completed a.plan.now a.table.now a.limit a.saved.now a.answer.now a.work.now (ok (goal.at.returns-then-is_complete c).In_ok-verdict_of) (state (goal.at.returns-then-is_complete c).Then-is_complete)) in
    record {
      returned = ap (λ (o : SittingOutcome). o.returned) e;
      answer_after = c.give_again.ensures.answer_after ∙ ap (λ (o : SittingOutcome). o.answer) e;
      work_after = c.give_again.ensures.work_after ∙ ap (λ (o : SittingOutcome). o.work) e;
    }

-- begun work
other : (c : Else-is_complete) → eqb (state_in c.args.saved.now) 1 ≡ false
other c = sym c.is_complete.ensures ∙ c.if-is_complete.false

pub carry_on-requires : goal.carry_on-requires
carry_on-requires c =
    let a = c.args in
    let h = all (goal.at.carry_on-requires c).In_ok-verdict_of in
    (record { planned = (accepted-means a.plan.now).1 h.well; tabled = h.tabled; accepted = h.saves; begun = begun-else a.saved.now (formed (goal.at.carry_on-requires c).In_ok-verdict_of) (eqb-false (state_in a.saved.now) 1 (other (goal.at.carry_on-requires c).Else-is_complete)) }, h.answer, h.work)

pub returns : goal.returns
returns c =
    let a = c.args in
    let e = sym (carried a.plan.now a.table.now a.limit a.saved.now a.answer.now a.work.now (ok (goal.at.returns c).In_ok-verdict_of) (other (goal.at.returns c).Else-is_complete)) in
    record {
      returned = ap (λ (o : SittingOutcome). o.returned) e;
      answer_after = c.carry_on.ensures.answer_after ∙ ap (λ (o : SittingOutcome). o.answer) e;
      work_after = c.carry_on.ensures.work_after ∙ ap (λ (o : SittingOutcome). o.work) e;
    }
