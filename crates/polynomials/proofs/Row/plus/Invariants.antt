use mathlib.Core.Path.{◌≡◌}
use lib.ListN.{length, take}
use Rattle.polynomials.proofs.Evals.{added}
use Rattle.polynomials.proofs.Row.plus.Given as goal

abbrev pub invariant-loop-i : goal.invariant-loop-i
invariant-loop-i l = (length l.entries ≡ 25) × (take l.i l.entries ≡ take l.i (added l.self.entries l.other.entries))
