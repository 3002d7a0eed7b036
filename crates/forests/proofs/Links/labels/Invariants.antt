use mathlib.Core.Path.{◌≡◌}
use Rattle.search.proofs.Sets.{has as in-set}
use Rattle.forests.proofs.Laws.{through}
use Rattle.forests.proofs.Links.labels.Given as goal

abbrev pub invariant-loop-i : goal.invariant-loop-i
invariant-loop-i l = l.labels ≡ through (in-set l.s) l.self.a l.self.b l.self.m l.i
