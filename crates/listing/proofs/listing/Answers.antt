use mathlib.Core.Path.{◌≡◌, sym, ◌∙◌}
use native.Mathlib.Omega.{arith}
use Rattle.std.specs.Prelude.{Ok, Err}
use Rattle.plan.specs.Plans.{verdict}
use Rattle.listing.proofs.Lengths.{length-listing, listed}
use Rattle.listing.proofs.listing.Goals as goal
use Rattle.listing.proofs.listing.Goals.{In-Ok, In-Err}

accepted : (c : In-Ok) → verdict c.args.plan.now ≡ Ok tt
accepted c = sym c.verdict_of.ensures ∙ c.in-Ok.is

pub put_plan-requires : goal.put_plan-requires
put_plan-requires c =
    let a = c.args in
    let e = accepted (goal.at.put_plan-requires c).In-Ok in
    (e, omega (arith, length-listing a.plan.now (Ok tt) e))

refused : (c : In-Err) → verdict c.args.plan.now ≡ Err c.in-Err.c
refused c = sym c.verdict_of.ensures ∙ c.in-Err.is

pub put_refusal-requires : goal.put_refusal-requires
put_refusal-requires c =
    let a = c.args in
    omega (arith, length-listing a.plan.now _ (refused (goal.at.put_refusal-requires c).In-Err))

pub returns-in-Ok : goal.returns-in-Ok
returns-in-Ok c =
    let a = c.args in
    let p = c.put_plan in
    let e = listed a.plan.now (Ok tt) (accepted (goal.at.returns-in-Ok c).In-Ok) a.text.now p.new.text p.result (omega arith) p.ensures in
    record { value = e.0; upper_bound = e.1.0; text_after = e.1.1 }

pub returns-in-Err : goal.returns-in-Err
returns-in-Err c =
    let a = c.args in
    let p = c.put_refusal in
    let e = listed a.plan.now _ (refused (goal.at.returns-in-Err c).In-Err) a.text.now p.new.text p.result (omega arith) p.ensures in
    record { value = e.0; upper_bound = e.1.0; text_after = e.1.1 }
