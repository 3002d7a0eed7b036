-- The numbers returned.
use Prim.Native.Nat.{◌≤◌}
use mathlib.Core.Path.{◌≡◌, refl}
use mathlib.Core.Bool.{Bool, true, false, cond}
use native.Mathlib.Omega.{arith}
use Rattle.plan.proofs.Verdicts.{number-range, not-refused}
use Rattle.causes.specs.declared.CallCause.{CallCause}
use Rattle.causes.specs.declared.CallCause.TheVariants.{Limit, Buffer, TableSize, TableValues, Place, Choice, SavedWork, OpenSplit, ManyLinks, RowSize, Plan, SecondPlan}
use Rattle.std.specs.Prelude.{Ok, Err}
use Rattle.causes.specs.Causes.{CallVerdict, call_number, call_returned}

pub call-number-range : (c : CallCause) → (1 ≤ call_number c) × (call_number c ≤ 26)
call-number-range Limit = omega arith
call-number-range Buffer = omega arith
call-number-range TableSize = omega arith
call-number-range TableValues = omega arith
call-number-range Place = omega arith
call-number-range Choice = omega arith
call-number-range SavedWork = omega arith
call-number-range OpenSplit = omega arith
call-number-range ManyLinks = omega arith
call-number-range RowSize = omega arith
call-number-range (Plan c) = omega (arith, number-range c)
call-number-range (SecondPlan c) = omega (arith, number-range c)

-- 0 is returned of nothing but an accepted call
pub zero-accepted : (v : CallVerdict) → call_returned v ≡ 0 → v ≡ Ok tt
zero-accepted (Ok tt) e = refl
zero-accepted (Err c) e = absurd (omega (arith, call-number-range c))

-- of two tests, one behind the other, both are passed where neither refuses
pub both-passed : (s t : Bool) (c d : CallCause) → ◌≡◌ {A = CallVerdict} (cond s (cond t (Ok tt) (Err d)) (Err c)) (Ok tt) → (s ≡ true) × (t ≡ true)
both-passed true true c d e = (refl, refl)
both-passed true false c d e = not-refused e
both-passed false t c d e = not-refused e
