use Prim.Native.Nat.{◌≤◌}
use mathlib.Core.Path.{◌≡◌}
use lib.Dec.{eqb}
use lib.ListN.{length, get_or}
use Rattle.game.specs.Forests.{count}
use Rattle.labelling.specs.Places.{Grouped}
use Rattle.labelling.proofs.groups.Given as goal

abbrev pub invariant-loop-v : goal.invariant-loop-v
invariant-loop-v l = (length l.groups ≡ 32) × (l.c ≡ count l.v (λ u. eqb (get_or l.labels u 0) u)) × (l.c ≤ l.v) × Grouped l.labels l.v l.groups
