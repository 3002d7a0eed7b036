use native.Mathlib.Omega.{arith}
use mathlib.Core.Path.{sym, ◌∙◌}
use Rattle.std.proofs.lemmas.Result.{err_from_is_err_and}
use Rattle.plan.proofs.Verdicts.{in_order, none_left}
use Rattle.plan.proofs.links_verdict.Goals as goal

pub returns-in_err-link_verdict : goal.returns-in_err-link_verdict
returns-in_err-link_verdict c =
    let p = err_from_is_err_and c.from_residual.result c.from_residual.ensures.1 in
    rw (p.1, p.2) (sym (c.loop-i.invariant ∙ in_order c.args.plan.now c.loop-i.i _ (omega arith) (sym c.link_verdict.ensures ∙ c.in_err-link_verdict.was)))

pub loop-i-preserved : goal.loop-i-preserved
loop-i-preserved c =
    c.loop-i.invariant ∙ in_order c.args.plan.now c.loop-i.i _ (omega arith) (sym c.link_verdict.ensures ∙ c.in_ok-link_verdict.was)

pub returns : goal.returns
returns c = sym (c.loop-i.invariant ∙ none_left c.args.plan.now c.loop-i.i _ (omega arith))
