use Prim.Native.Nat.{suc}
use mathlib.Core.Path.{◌≡◌}
use lib.ListN.{length, take}
use Rattle.polynomials.proofs.Evals.{grown}
use Rattle.polynomials.proofs.Row.more.Given as goal

abbrev pub invariant-loop-i : goal.invariant-loop-i
invariant-loop-i l = (length l.entries ≡ 25) × (take (suc l.i) l.entries ≡ take (suc l.i) (grown l.self.entries l.p.entries))
