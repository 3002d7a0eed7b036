use Prim.Native.Nat.{◌-◌}
use mathlib.Core.Path.{◌≡◌}
use Rattle.plan.specs.Plans.{size_m, links_verdict}
use Rattle.plan.proofs.links_verdict.Given as goal

abbrev pub invariant-loop-i : goal.invariant-loop-i
invariant-loop-i l = links_verdict l.plan 0 (size_m l.plan) ≡ links_verdict l.plan l.i (size_m l.plan - l.i)
