use Prim.Native.Nat.{suc, ◌+◌, ◌≤◌}
use mathlib.Core.Path.{◌≡◌, sym, ap, ◌∙◌}
use mathlib.Core.List.{◌++◌}
use native.Mathlib.Omega.{arith}
use lib.ListN.{length, drop}
use Rattle.std.proofs.lemmas.Result.{err_from_is_err_and}
use Rattle.ratings.specs.Ratings.{T}
use Rattle.reliability.specs.Networks.{Network as Graph}
use Rattle.network.specs.Places.{links_of}
use Rattle.std.specs.Prelude.{Ok}
use Rattle.plan.specs.Plans.{size_m, verdict, plan_of}
use Rattle.plan.proofs.Accepted.{plan-links}
use Rattle.causes.specs.Causes.{call_returned}
use Rattle.causes.proofs.Outcomes.{refused, answers}
use Rattle.sets.specs.Sets.{connecting_row}
use Rattle.count_desk.specs.Counts.{counts_verdict, filled, counts_outcome}
use Rattle.count_desk.proofs.Verdicts.{counts-asks}
use Rattle.count_desk.proofs.fill_row.Goals as goal
use Rattle.count_desk.proofs.fill_row.Goals.{In_ok-count_verdict}

pub returns-in_err-count_verdict : goal.returns-in_err-count_verdict
unfolding counts_outcome
returns-in_err-count_verdict c =
    let a = c.args in
    let row = a.row.now in
    let p = err_from_is_err_and c.from_residual.result c.from_residual.ensures.1 in
    let e = sym c.count_verdict.ensures ∙ c.in_err-count_verdict.was in
    let r = refused (counts_verdict a.plan.now (length row)) row (filled a.plan.now row) _ e in
    record { returned = ap call_returned (rw (p.1, p.2) (sym e)) ∙ r.0; row_after = r.1 }

ok : (c : In_ok-count_verdict) → let a = c.args in counts_verdict a.plan.now (length a.row.now) ≡ Ok tt
ok c = sym c.count_verdict.ensures ∙ c.in_ok-count_verdict.was

-- the plan, its links and the row were accepted
asks : (c : In_ok-count_verdict) → let a = c.args in (verdict a.plan.now ≡ Ok tt) × (size_m a.plan.now ≤ 24) × (size_m a.plan.now + 1 ≤ length a.row.now)
asks c =
    let a = c.args in
    (counts-asks a.plan.now (length a.row.now)).0 (ok c)

pub built_in-requires : goal.built_in-requires
built_in-requires c = (asks c).0

pub fill-requires : goal.fill-requires
fill-requires c =
    let k = asks (goal.at.fill-requires c).In_ok-count_verdict in
    let plan = c.args.plan.now in
    let n = c.built_in in
    let m : length (links_of n.result) ≡ size_m plan = ap (λ (g : Graph). length g.links) n.ensures.0 ∙ plan-links T plan in
    (n.ensures.2, n.ensures.3, omega (arith, k.1), omega (arith, k.2))

pub returns : goal.returns
unfolding counts_outcome
returns c =
    let a = c.args in
    let plan = a.plan.now in
    let row = a.row.now in
    let k = ok (goal.at.returns c).In_ok-count_verdict in
    let e = answers (counts_verdict plan (length row)) row (filled plan row) k in record {
      returned = e.0;
      row_after = c.fill.ensures
          ∙ ap (λ (g : Graph). connecting_row g ++ drop (suc (length g.links)) row) c.built_in.ensures.0
          ∙ ap (λ m. connecting_row (plan_of T plan) ++ drop (suc m) row) (plan-links T plan)
          ∙ e.1;
    }
