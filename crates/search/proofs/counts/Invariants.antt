use Prim.Native.Nat.{ℕ, ◌<◌}
use mathlib.Core.Path.{◌≡◌}
use mathlib.Core.Bool.{false}
use lib.ListN.{length, get_or}
use Rattle.search.specs.Searches.{Inside, count_at}
use Rattle.search.proofs.Sets.{has}
use Rattle.search.proofs.counts.Given as goal

-- all but the nodes that are left are counted
abbrev pub invariant-loop-v : goal.invariant-loop-v
invariant-loop-v l = ((v : ℕ) → v < 32 → has l.v-iterator.0 v ≡ false → get_or l.counts v 0 ≡ count_at l.nodes l.at v) × (length l.counts ≡ 32) × Inside l.v-iterator.0 l.nodes
