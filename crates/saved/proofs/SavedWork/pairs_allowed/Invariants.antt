use Prim.Native.Nat.{◌-◌}
use mathlib.Core.Path.{◌≡◌}
use Rattle.saved.specs.Format.{count_in, pairs_allowed}
use Rattle.saved.proofs.SavedWork.pairs_allowed.Given as goal

abbrev pub invariant-loop-i : goal.invariant-loop-i
invariant-loop-i l = pairs_allowed l.self.bytes.now 0 (count_in l.self.bytes.now) ≡ pairs_allowed l.self.bytes.now l.i (l.c - l.i)
