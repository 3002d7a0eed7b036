use native.Mathlib.Omega.{arith}
use Rattle.plan.proofs.Verdicts.{number-range}
use Rattle.causes.proofs.CallCause.number.Goals as goal

-- plan B's number is 20 more
pub overflow_add-result : goal.overflow_add-result
overflow_add-result c = let e = c.number-in-SecondPlan.ensures in omega (arith, number-range c.in-SecondPlan.p)
