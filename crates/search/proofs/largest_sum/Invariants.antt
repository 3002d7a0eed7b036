use mathlib.Core.Path.{◌≡◌}
use Rattle.search.specs.Searches.{places_in, Inside, count_sum, largest_in}
use Rattle.search.proofs.Largest.{so_far}
use Rattle.search.proofs.largest_sum.Given as goal

abbrev pub invariant-loop-k : goal.invariant-loop-k
invariant-loop-k l =
    (largest_in (count_sum l.counts l.a l.b) (places_in l.alive) ≡ so_far (count_sum l.counts l.a l.b) l.best l.most (places_in l.k-iterator.0)) × Inside l.k-iterator.0 l.alive
