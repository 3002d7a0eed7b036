use Prim.Native.Nat.{ℕ, ◌^◌, ◌<◌}
use mathlib.Core.Path.{◌≡◌}
use mathlib.Core.Bool.{Bool}
use Rattle.labelling.proofs.Laws.{Upto}
use Rattle.labelling.proofs.where_true.Given as goal

abbrev pub invariant-loop-i : goal.invariant-loop-i
invariant-loop-i g l = (l.s < 2 ^ 64) × ((q : ℕ → Bool) → ((i : ℕ) → i < l.m → (t : Bool) → goal.F-post g l.test i t → t ≡ q i) → Upto q l.s l.i)
