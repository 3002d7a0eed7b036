use Prim.Native.Nat.{◌-◌, ◌≤◌}
use mathlib.Core.Path.{◌≡◌}
use Rattle.tables.specs.Tables.{never_rises}
use Rattle.tables.proofs.never_rises.Given as goal

abbrev pub invariant-loop-k : goal.invariant-loop-k
invariant-loop-k l = (l.k ≤ 511) × (never_rises l.table 0 511 ≡ never_rises l.table l.k (511 - l.k))
