use Prim.Native.Nat.{ℕ, ◌+◌, ◌*◌, ◌≤◌, ◌<◌}
use mathlib.Core.Path.{◌≡◌}
use lib.ListN.{length}
use Rattle.saved.proofs.Reading.{Held}
use Rattle.saved.proofs.SavedWork.row.Given as goal

abbrev pub invariant-loop-i : goal.invariant-loop-i
invariant-loop-i l = (l.c ≤ 64) × (length l.self.bytes.now ≡ 8 + 12 * l.c) × (length l.row ≡ 192) × ((j : ℕ) → j < l.i → Held l.self.bytes.now l.row j)
