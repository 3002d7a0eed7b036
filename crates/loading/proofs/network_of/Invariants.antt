use Prim.Native.Nat.{◌≤◌}
use mathlib.Core.Path.{◌≡◌}
use mathlib.Core.List.{map}
use Rattle.search.specs.Searches.{from}
use Rattle.network.specs.Places.{nodes_of, links_of, Built, Invariant}
use Rattle.tables.specs.Tables.{rating}
use Rattle.plan.specs.Plans.{size_n, size_m, link_in}
use Rattle.loading.proofs.network_of.Given as goal

abbrev pub invariant-loop-i : goal.invariant-loop-i
invariant-loop-i l =
    (l.i-end ≡ size_m l.plan) × (l.i ≤ l.i-end) × Built l.net l.i × Invariant l.net × (nodes_of l.net ≡ from 0 (size_n l.plan)) × (links_of l.net ≡ map (link_in (rating l.table) l.plan) (from 0 l.i)) × (l.net.chosen ≡ l.net.nodes)
